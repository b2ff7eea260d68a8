-- What a request that goes into the card leaves. Assumes nothing.
use Rattle.std.proofs.Common.{◌≡◌, ℕ, ◌+◌, ◌-◌, ◌<◌, List, [], ◌∷◌, length, get_or, set, sym, ap, ◌∙◌, subst, ⊎_elim, arith}
use Rattle.std.proofs.lemmas.List.{length-set, get_or-set_same, get_or-set_other}
use Rattle.std.proofs.lemmas.Bool.{cases_eq}
use Rattle.heap.specs.Sorting.{insert}
use Rattle.heap.proofs.Sorting.{length-insert, sum_by-insert}
use Rattle.lanes.specs.Lanes.{starts}
use Rattle.books.specs.Model.{State, lane_at, time_of, moved_from, moved}
use Rattle.lanes.specs.Records.{by_ticket, ticket_is}
use Rattle.books.specs.Model.{waiting}
use Rattle.books.specs.Sound.{standing, highest, Started, Sound}
use Rattle.lanes.specs.declared.records.Request.{Request}
use Rattle.lanes.specs.Lanes.{lanes_of}
use Rattle.lanes.specs.declared.lanes.Lanes.{Lanes}
use Rattle.books.specs.States.{ends_of}
use Rattle.books.specs.Views.{state_of}
use Rattle.books.specs.declared.books.Books.{Books}
use Rattle.books.proofs.Opened.{Kept, Whole, whole}
use Rattle.books.proofs.Sums.{waiting_less, least_high, least_again}

-- the first of lane l goes into the card
pub record Move (s : State) (l : ℕ) (r : Request) (rest : List Request) (time' : ℕ) (ends' : List ℕ) (lanes' : List (List Request)) (in_card' : List Request) : Type 0 where
  pub lead : lane_at s l ≡ r ∷ rest
  pub lanes : lanes' ≡ set s.lanes l rest
  pub time : time' ≡ time_of s lanes'
  pub ends : ends' ≡ s.ends
  pub in_card : in_card' ≡ insert by_ticket r s.in_card

module _ {s : State} {l : ℕ} {r : Request} {rest : List Request} {time' : ℕ} {ends' : List ℕ} {lanes' : List (List Request)} {in_card' : List Request} (h : Move s l r rest time' ends' lanes' in_card') where
  pub moves : ◌≡◌ {A = State} (record { sheet = s.sheet; time = time'; ends = ends'; lanes = lanes'; in_card = in_card'; arrivals = s.arrivals }) (moved s l)
  moves =
      let after : ◌≡◌ {A = State} (record { sheet = s.sheet; time = time'; ends = ends'; lanes = lanes'; in_card = in_card'; arrivals = s.arrivals }) (moved_from s l (r ∷ rest)) =
      λ i. record { sheet = s.sheet; time = (h.time ∙ ap (time_of s) h.lanes) i; ends = h.ends i; lanes = h.lanes i; in_card = h.in_card i; arrivals = s.arrivals } in
      after ∙ ap (moved_from s l) (sym h.lead)

  moved_sound : Sound s → l < 8 → length s.in_card < s.sheet.slots → Sound (moved_from s l (r ∷ rest))
  moved_sound k l8 room =
      let s' = moved_from s l (r ∷ rest) in
      let loses : (g : Request → ℕ) → waiting g s.lanes ≡ g r + waiting g s'.lanes = λ g. waiting_less g s.lanes l r rest (omega (arith, k.shaped.0, l8)) h.lead in
      let stands : (t : ℕ) → standing s' t ≡ standing s t = λ t. omega (arith, loses (ticket_is t), sum_by-insert by_ticket (ticket_is t) r s.in_card) in
      let started' : Started s' = omega (arith, loses (λ (x : Request). x.start - highest s), k.started) in
      record {
        shaped = (length-set s.lanes l rest ∙ k.shaped.0, k.shaped.1);
        few = k.few;
        timed = least_high (highest s) s.time s'.lanes k.timed started';
        tagged = k.tagged;
        started = started';
        fresh = λ t b. stands t ∙ k.fresh t b;
        once = λ t. omega (arith, stands t, k.once t);
        within =
            λ j. ⊎_elim
            (λ (same : j ≡ l). omega (arith, ap (λ i. length (get_or s'.lanes i [])) same, ap (λ i. get_or s.sheet.lanes i 0) same, ap length (get_or-set_same s.lanes l rest [] (omega (arith, k.shaped.0, l8))), ap length h.lead, k.within l))
            (λ other. omega (arith, ap length (get_or-set_other s.lanes l j rest [] other), k.within j))
            (cases_eq j l);
        deep = omega (arith, length-insert by_ticket r s.in_card, room);
        timely = least_again s.time (starts s'.lanes);
      }

  pub moves_sound : Sound s → l < 8 → length s.in_card < s.sheet.slots → Sound (record { sheet = s.sheet; time = time'; ends = ends'; lanes = lanes'; in_card = in_card'; arrivals = s.arrivals })
  moves_sound k l8 room =
      let after : ◌≡◌ {A = State} (record { sheet = s.sheet; time = time'; ends = ends'; lanes = lanes'; in_card = in_card'; arrivals = s.arrivals }) (moved_from s l (r ∷ rest)) =
      λ i. record { sheet = s.sheet; time = (h.time ∙ ap (time_of s) h.lanes) i; ends = h.ends i; lanes = h.lanes i; in_card = h.in_card i; arrivals = s.arrivals } in
      subst Sound (sym after) (moved_sound k l8 room)

-- the lanes say what they said
pub stays_whole : (b : Books) (lanes' : Lanes) → lanes_of lanes' ≡ lanes_of b.lanes → Whole b.sheet b.time b.flows lanes' b.in_card b.arrivals
stays_whole b lanes' e =
    let S : List (List Request) → State = λ ls. record { sheet = (state_of b).sheet; time = b.time; ends = ends_of b.flows; lanes = ls; in_card = (state_of b).in_card; arrivals = b.arrivals } in
    subst (λ ls. Kept b.flows (S ls)) (sym e) (whole b)
