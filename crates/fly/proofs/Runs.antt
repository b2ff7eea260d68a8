-- A flight, a call at a time, with its log. Assumes nothing.
use Rattle.std.proofs.Common.{◌≡◌, ℕ, ◌+◌, ◌<◌, ◌⊎◌, List, [], ◌∷◌, ◌++◌, length, get_or, take, sym, refl, ap, ◌∙◌, subst, inl, inr, ⊎_elim, arith}
use Rattle.std.proofs.lemmas.List.{take_more, length-take-le, length-append}
use Rattle.std.specs.List.{zip}
use Rattle.card.specs.declared.Card.{Ghosts}
use Rattle.board.specs.declared.board.Board.{Board}
use Rattle.fly.specs.Flights.{Entry, Did, Run, start, more}
use Rattle.fly.specs.declared.call.Answer.{Answer}
use Rattle.fly.specs.declared.call.Call.{Call}

pub zipped_push : {K X : Type 0} (ks : List K) (vs : List X) (k : K) (v : X) → length vs ≡ length ks → zip (ks ++ k ∷ []) (vs ++ v ∷ []) ≡ zip ks vs ++ (k, v) ∷ []
zipped_push [] [] k v h = refl
zipped_push [] (y ∷ vs) k v h = absurd (omega arith)
zipped_push (x ∷ ks) [] k v h = absurd (omega arith)
zipped_push {K} {X} (x ∷ ks) (y ∷ vs) k v h = ap (λ (l : List (K × X)). (x, y) ∷ l) (zipped_push ks vs k v (omega arith))

-- one turn of the loop over the calls
pub run_more : {C : Type 0} (cards : Ghosts C) (first b b' : Board C cards) (calls : List Call) (answers : List Answer) (i : ℕ) (call : Call) (answer : Answer)
    → i < length calls → call ≡ get_or calls i call → length answers ≡ i → Run cards first (zip (take i calls) answers) b → Did cards b call answer b'
    → Run cards first (zip (take (i + 1) calls) (answers ++ answer ∷ [])) b'
run_more cards first b b' calls answers i call answer within item long r s =
    let level : length answers ≡ length (take i calls) = long ∙ sym (length-take-le i calls (omega arith)) in
    let log = ap (λ ks. zip ks (answers ++ answer ∷ [])) (take_more calls i call within ∙ ap (λ k. take i calls ++ k ∷ []) (sym item)) ∙ zipped_push (take i calls) answers call answer level in
    subst (λ l. Run cards first l b') (sym log) (more call answer r s)

-- where an entry of a log that grows at its end stands
cut_at : {X : Type 0} (before : List X) (e : X) (rest log : List X) (x : X) → before ++ (e ∷ rest) ≡ log ++ x ∷ [] → ((before ≡ log) × (e ≡ x)) ⊎ ((rest' : List X) × (before ++ (e ∷ rest') ≡ log))
cut_at [] e rest [] x h = inl (refl, cc)
cut_at [] e rest (y ∷ log) x h = let same : e ≡ y = cc in inr (log, ap (λ z. z ∷ log) same)
cut_at (b ∷ bs) e rest [] x h = absurd (omega (arith, ap length h, length-append bs (e ∷ rest)))
cut_at {X} (b ∷ bs) e rest (y ∷ log) x h =
    let same : b ≡ y = cc in
    let tail : bs ++ (e ∷ rest) ≡ log ++ x ∷ [] = cc in
    ⊎_elim
    (λ p. inl ((λ i. same i ∷ p.0 i), p.1))
    (λ p. inr (p.0, λ i. same i ∷ p.1 i))
    (cut_at bs e rest log x tail)

-- the board before an entry of the log, and after it
pub record Around {C : Type 0} (cards : Ghosts C) (first : Board C cards) (before : List Entry) (e : Entry) : Type 0 where
  pub from : Board C cards
  pub to : Board C cards
  pub run : Run cards first before from
  pub did : Did cards from e.0 e.1 to

module _ {C : Type 0} {cards : Ghosts C} {first : Board C cards} where
  pub around : {log : List Entry} {b : Board C cards} → Run cards first log b → (before : List Entry) (e : Entry) (rest : List Entry) → before ++ (e ∷ rest) ≡ log → Around cards first before e
  around start before e rest h = absurd (omega (arith, ap length h, length-append before (e ∷ rest)))
  around (more {log = log} {b = b} {b' = b'} call answer run did) before e rest h =
      ⊎_elim
      (λ (p : (before ≡ log) × (e ≡ (call, answer))). record {
        from = b;
        to = b';
        run = subst (λ l. Run cards first l b) (sym p.0) run;
        did = subst (λ (x : Entry). Did cards b x.0 x.1 b') (sym p.1) did;
      })
      (λ (p : (rest' : List Entry) × (before ++ (e ∷ rest') ≡ log)). around run before e p.0 p.1)
      (cut_at before e rest log (call, answer) h)
