-- What a request that leaves the card leaves. Assumes nothing.
use Rattle.std.proofs.Common.{◌≡◌, ℕ, suc, ◌≤◌, eqb, List, [], ◌∷◌, length, Some, None, sum_by, Option, sym, refl, ap, ◌∙◌, subst, arith, MatchOption}
use Rattle.std.proofs.lemmas.List.Sums.{sum_by-cons}
use Rattle.std.proofs.lemmas.Bool.{cond-true, cond-false, cond_both, eq-eqb, ne_eqb}
use Rattle.heap.specs.Sorting.{insert, upto}
use Rattle.heap.proofs.Sorting.{length-insert, sum_by-insert}
use Rattle.lanes.specs.Records.{by_ticket, ticket_is}
use Rattle.lanes.specs.Table.{Removes}
use Rattle.lanes.specs.declared.records.Request.{Request}
use Rattle.books.specs.Model.{State, found, without}
use Rattle.lanes.specs.Table.{in_card_of}
use Rattle.lanes.specs.declared.table.InCard.{InCard}
use Rattle.books.specs.Sound.{Sound}
use Rattle.books.specs.Views.{state_of}
use Rattle.books.specs.declared.books.Books.{Books}
use Rattle.books.proofs.Opened.{Kept, Whole, whole}

apart : (t : ℕ) (y : Request) (ys : List Request) → sum_by (ticket_is t) (y ∷ ys) ≡ 0 → (y.ticket ≡ t → ⊥) × (sum_by (ticket_is t) ys ≡ 0)
apart t y ys z = let c = sum_by-cons (ticket_is t) y ys in ((λ e. omega (arith, c, z, cond-true {A = ℕ} (eqb y.ticket t) 1 0 (eq-eqb y.ticket t e))), omega (arith, c, z))

found_none : (t : ℕ) (ys : List Request) → sum_by (ticket_is t) ys ≡ 0 → found t ys ≡ None
found_none t [] z = refl
found_none t (y ∷ ys) z = let a = apart t y ys z in cond-false (eqb y.ticket t) _ _ (ne_eqb y.ticket t a.0) ∙ found_none t ys a.1

pub without_none : (t : ℕ) (ys : List Request) → sum_by (ticket_is t) ys ≡ 0 → without t ys ≡ ys
without_none t [] z = refl
without_none t (y ∷ ys) z = let a = apart t y ys z in cond-false (eqb y.ticket t) _ _ (ne_eqb y.ticket t a.0) ∙ ap (λ w. y ∷ w) (without_none t ys a.1)

found-insert : (t : ℕ) (x : Request) (ys : List Request) → x.ticket ≡ t → sum_by (ticket_is t) ys ≡ 0 → found t (insert by_ticket x ys) ≡ Some x
found-insert t x [] e z = cond-true (eqb x.ticket t) _ _ (eq-eqb x.ticket t e)
found-insert t x (y ∷ ys) e z =
    let a = apart t y ys z in
    cond_both (upto (by_ticket x) (by_ticket y)) (x ∷ y ∷ ys) (y ∷ insert by_ticket x ys) (λ w. found t w ≡ Some x)
    (λ _. cond-true (eqb x.ticket t) _ _ (eq-eqb x.ticket t e))
    (λ _. cond-false (eqb y.ticket t) _ _ (ne_eqb y.ticket t a.0) ∙ found-insert t x ys e a.1)

without-insert : (t : ℕ) (x : Request) (ys : List Request) → x.ticket ≡ t → sum_by (ticket_is t) ys ≡ 0 → without t (insert by_ticket x ys) ≡ ys
without-insert t x [] e z = cond-true (eqb x.ticket t) _ _ (eq-eqb x.ticket t e)
without-insert t x (y ∷ ys) e z =
    let a = apart t y ys z in
    cond_both (upto (by_ticket x) (by_ticket y)) (x ∷ y ∷ ys) (y ∷ insert by_ticket x ys) (λ w. without t w ≡ y ∷ ys)
    (λ _. cond-true (eqb x.ticket t) _ _ (eq-eqb x.ticket t e) ∙ without_none t (y ∷ ys) z)
    (λ _. cond-false (eqb y.ticket t) _ _ (ne_eqb y.ticket t a.0) ∙ ap (λ w. y ∷ w) (without-insert t x ys e a.1))

pub removed_found : (t : ℕ) (xs ys : List Request) (r : Option Request) → sum_by (ticket_is t) xs ≤ 1 → Removes t xs r ys → r ≡ found t xs
removed_found t xs ys None once h = sym (found_none t xs h.1)
removed_found t xs ys (Some x) once h = sym (ap (found t) h.1 ∙ found-insert t x ys h.0 (h.2 once))

pub removed_without : (t : ℕ) (xs ys : List Request) (r : Option Request) → sum_by (ticket_is t) xs ≤ 1 → Removes t xs r ys → ys ≡ without t xs
removed_without t xs ys None once h = h.0 ∙ sym (without_none t xs h.1)
removed_without t xs ys (Some x) once h = sym (ap (without t) h.1 ∙ without-insert t x ys h.0 (h.2 once))

abbrev pub with_in_card : State → List Request → State
with_in_card s c = record { sheet = s.sheet; time = s.time; ends = s.ends; lanes = s.lanes; in_card = c; arrivals = s.arrivals }

pub removed_sound : (s : State) (t : ℕ) (ys : List Request) (r : Option Request) → Removes t s.in_card r ys → Sound s → Sound (with_in_card s ys)
removed_sound s t ys None h k = subst (λ c. Sound (with_in_card s c)) (sym h.0) k
removed_sound s t ys (Some x) h k =
    let fewer : (u : ℕ) → sum_by (ticket_is u) ys ≤ sum_by (ticket_is u) s.in_card = λ u. omega (arith, ap (sum_by (ticket_is u)) h.1, sum_by-insert by_ticket (ticket_is u) x ys) in
    record {
      shaped = k.shaped;
      few = k.few;
      timed = k.timed;
      tagged = k.tagged;
      started = k.started;
      fresh = λ u b. omega (arith, k.fresh u b, fewer u);
      once = λ u. omega (arith, k.once u, fewer u);
      within = k.within;
      deep = omega (arith, k.deep, ap length h.1, length-insert by_ticket x ys);
      timely = k.timely;
    }

pub removed_fewer : (s : State) (t : ℕ) (ys : List Request) (r : Option Request) → Removes t s.in_card r ys → MatchOption r (◌≡◌ {A = State} (with_in_card s ys) s) (λ _. length s.in_card ≡ suc (length ys))
removed_fewer s t ys None h = ap (with_in_card s) h.0
removed_fewer s t ys (Some x) h = ap length h.1 ∙ length-insert by_ticket x ys

-- where nothing left the card says what it said
pub kept_whole : (b : Books) (t : ℕ) (c' : InCard) → Removes t (in_card_of b.in_card) None (in_card_of c') → Whole b.sheet b.time b.flows b.lanes c' b.arrivals
kept_whole b t c' h = subst (λ c. Kept b.flows (with_in_card (state_of b) c)) (sym h.0) (whole b)
