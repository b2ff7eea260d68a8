-- What an observer of the events has in common with the books. Assumes nothing.
use Rattle.std.proofs.Common.{◌≡◌, ℕ, ◌≤◌, false, cond, not, eqb, List, [], ◌∷◌, sum_by, count_by, sym, refl, ◌∙◌, arith}
use Rattle.std.specs.List.{AllByRecursion}
use Rattle.std.specs.List.Sorted.{IsPermutation}
use Rattle.std.proofs.ByRecursion.{All-weaker}
use Rattle.std.proofs.lemmas.List.Sums.{sum_by-cons, sum_by-append}
use Rattle.std.proofs.lemmas.List.Sorted.{sum_by-IsPermutation}
use Rattle.std.proofs.lemmas.Bool.{cond-true, cond-false, eq-eqb, not_from_true, not_from_false}
use Rattle.shares.specs.Events.{Sheet, Request, mark, loaded, arrived, sent, finished, nothing, Seen, note, with_ticket}
use Rattle.shares.specs.Steps.{Books, Loads, Arrives, Sends, Finishes, Rests}
use Rattle.shares.proofs.Sums.{own, gains, loses, sum_by_same, sum_by-filter, none_of}
use Rattle.shares.proofs.Sound.{Sound}

-- the lists have the same elements: so every sum over one is that over the other
pub record Sees (t : Seen) (b : Books) : Type 0 where
  pub sheet : t.sheet ≡ b.sheet
  pub waiting : (g : Request → ℕ) → sum_by g t.waiting ≡ sum_by g b.waiting
  pub card : (g : Request → ℕ) → sum_by g t.unfinished ≡ sum_by g b.card
  pub count : t.count ≡ b.count

sum_by_zero : {X : Type 0} (xs : List X) → sum_by (λ _. 0) xs ≡ 0
sum_by_zero [] = refl
sum_by_zero (x ∷ xs) = omega (arith, sum_by-cons (λ _. 0) x xs, sum_by_zero xs)

-- to leave out what has x's ticket is to leave out x, where x alone has it
left_out : {X : Type 0} (t : X → ℕ) (x : X) (g : X → ℕ) (xs ys : List X) → IsPermutation xs (x ∷ ys) → count_by (λ y. eqb (t y) (t x)) xs ≤ 1
    → sum_by (λ y. cond (not (eqb (t y) (t x))) (g y) 0) xs ≡ sum_by g ys
left_out t x g xs ys h once =
    let none : count_by (λ y. eqb (t y) (t x)) ys ≡ 0 = omega (arith, once, loses (λ y. cond (eqb (t y) (t x)) 1 0) x xs ys h, own (t x) (t x) 1 refl) in
    let same : AllByRecursion (λ y. cond (not (eqb (t y) (t x))) (g y) 0 ≡ g y) ys = All-weaker (λ y. eqb (t y) (t x) ≡ false) _ (λ y e. cond-true (not (eqb (t y) (t x))) (g y) 0 (not_from_false _ e)) ys (none_of (λ y. eqb (t y) (t x)) ys none) in
    omega (
      arith,
      loses (λ y. cond (not (eqb (t y) (t x))) (g y) 0) x xs ys h,
      cond-false (not (eqb (t x) (t x))) (g x) 0 (not_from_true _ (eq-eqb (t x) (t x) refl)),
      sum_by_same (λ y. cond (not (eqb (t y) (t x))) (g y) 0) g ys same,
    )

-- to pick what has x's ticket is to pick x
picked : {X : Type 0} (t : X → ℕ) (x : X) (g : X → ℕ) (xs ys : List X) → IsPermutation xs (x ∷ ys) → count_by (λ y. eqb (t y) (t x)) xs ≤ 1
    → sum_by (λ y. cond (eqb (t y) (t x)) (g y) 0) xs ≡ g x
picked t x g xs ys h once =
    let none : count_by (λ y. eqb (t y) (t x)) ys ≡ 0 = omega (arith, once, loses (λ y. cond (eqb (t y) (t x)) 1 0) x xs ys h, own (t x) (t x) 1 refl) in
    let same : AllByRecursion (λ y. cond (eqb (t y) (t x)) (g y) 0 ≡ 0) ys = All-weaker (λ y. eqb (t y) (t x) ≡ false) _ (λ y e. cond-false (eqb (t y) (t x)) (g y) 0 e) ys (none_of (λ y. eqb (t y) (t x)) ys none) in
    omega (
      arith,
      loses (λ y. cond (eqb (t y) (t x)) (g y) 0) x xs ys h,
      own (t x) (t x) (g x) refl,
      sum_by_same (λ y. cond (eqb (t y) (t x)) (g y) 0) (λ _. 0) ys same,
      sum_by_zero ys,
    )

module _ {s : Sheet} {t : Seen} {b b' : Books} (i : Sound s b) (k : Sees t b) where
  pub sees_arrived : (r : Request) → Arrives b s r b' → Sees (note t (arrived r)) b'
  sees_arrived r a = record {
    sheet = k.sheet ∙ sym a.sheet;
    waiting = λ g. omega (arith, sum_by-cons g r t.waiting, k.waiting g, gains g r b.waiting b'.waiting a.waiting);
    card = λ g. k.card g ∙ sym (sum_by-IsPermutation g b.card b'.card a.card);
    count = omega (arith, k.count, a.count);
  }

  pub sees_sent : (r : Request) → Sends b s r b' → Sees (note t (sent (mark r))) b'
  sees_sent r a = record {
    sheet = k.sheet ∙ sym a.sheet;
    waiting = λ g. sum_by-filter (λ q. not (eqb q.ticket r.ticket)) g t.waiting ∙ k.waiting _
        ∙ left_out (λ q. q.ticket) r g b.waiting b'.waiting a.waiting (omega (arith, i.tickets.once r.ticket));
    card = λ g. omega (
      arith,
      sum_by-append g (with_ticket r.ticket t.waiting) t.unfinished,
      sum_by-filter (λ q. eqb q.ticket r.ticket) g t.waiting,
      k.waiting (λ q. cond (eqb q.ticket r.ticket) (g q) 0),
      picked (λ q. q.ticket) r g b.waiting b'.waiting a.waiting (omega (arith, i.tickets.once r.ticket)),
      k.card g,
      gains g r b.card b'.card a.card,
    );
    count = k.count ∙ sym a.count;
  }

  pub sees_finished : (r : Request) → Finishes b r b' → Sees (note t (finished (mark r))) b'
  sees_finished r a = record {
    sheet = k.sheet ∙ sym a.sheet;
    waiting = λ g. k.waiting g ∙ sym (sum_by-IsPermutation g b.waiting b'.waiting a.calm.waiting);
    card = λ g. sum_by-filter (λ q. not (eqb q.ticket r.ticket)) g t.unfinished ∙ k.card _
        ∙ left_out (λ q. q.ticket) r g b.card b'.card a.card (omega (arith, i.tickets.once r.ticket));
    count = k.count ∙ sym a.count;
  }

  pub sees_nothing : Rests b b' → Sees (note t nothing) b'
  sees_nothing a = record {
    sheet = k.sheet ∙ sym a.sheet;
    waiting = λ g. k.waiting g ∙ sym (sum_by-IsPermutation g b.waiting b'.waiting a.calm.waiting);
    card = λ g. k.card g ∙ sym (sum_by-IsPermutation g b.card b'.card a.card);
    count = k.count ∙ sym a.count;
  }

pub sees_loaded : {s : Sheet} {b b' : Books} → (t : Seen) → Loads b s b' → Sees (note t (loaded s)) b'
sees_loaded t a = record {
  sheet = sym a.sheet;
  waiting = λ g. rw a.waiting;
  card = λ g. rw a.card;
  count = sym a.count;
}
