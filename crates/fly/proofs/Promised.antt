-- A flight keeps its promise. Assumes nothing.
use Rattle.std.proofs.Common.{◌≡◌, ℕ, ◌≤◌, List, [], ◌∷◌, ◌++◌, map, length, Some, None, sum_by, Option, sym, refl, ap, ◌∙◌, subst, ⊎_elim, arith}
use Rattle.std.specs.List.{zip}
use Rattle.std.specs.List.Sorted.{IsPermutation}
use Rattle.std.proofs.lemmas.List.{length-map, map_push}
use Rattle.std.proofs.lemmas.List.Sorted.{length_permutation, sum_by-IsPermutation}
use Rattle.sheet.specs.Sheets.{blank}
use Rattle.card.specs.declared.Card.{Ghosts}
use Rattle.card.specs.declared.Command.{Command}
use Rattle.shares.specs.Events as share
use Rattle.shares.specs.Steps as step
use Rattle.shares.proofs.Fairness.{law, noted}
use Rattle.shares.proofs.Shuffles.{shuffled_from_sums, sum_by-map}
use Rattle.books.specs.Model.{State, empty}
use Rattle.books.specs.Views.{state_of}
use Rattle.books.proofs.Opened.{sound}
use Rattle.board.specs.declared.board.Board.{Board}
use Rattle.laws.specs.Steps.{request_of, shares_of, waiting_of, books_of}
use Rattle.fly.specs.Flights.{Entry, told, event, Step, Run, start, more, call_kind, answer_kind}
use Rattle.fly.specs.Promise.{after, command_of, Holds, IsSent, Kicks, Promise}
use Rattle.fly.specs.declared.call.Answer.{Answer}
use Rattle.fly.specs.declared.call.Call.{Call}
use Rattle.fly.specs.declared.call.Call.TheVariants.{Load, Arrive, Send, Kick, Reap, Time, Ready, Flow}
use Rattle.fly.proofs.Events.{bare, tied}
use Rattle.fly.proofs.Holding.{Tied, tie}
use Rattle.fly.proofs.Kicking.{can_send, has_sent, lead_waits, waits_lead}
use Rattle.fly.proofs.Runs.{around}

commands_from_sums : (xs ys : List Command) → ((g : Command → ℕ) → sum_by g xs ≡ sum_by g ys) → IsPermutation xs ys
commands_from_sums = shuffled_from_sums ((λ c. c.ticket) ∷ (λ c. c.sectors) ∷ []) (λ c d p. λ i. record { ticket = p.0 i; sectors = p.1.0 i })

new_books : step.New (bare None (empty blank))
new_books = record { sheet = refl; waiting = refl }

-- what is known at a point where the sheet x is in force
pub record Known {C : Type 0} (cards : Ghosts C) (log : List Entry) (b : Board C cards) (x : share.Sheet) : Type 0 where
  pub sheet : x ≡ shares_of (state_of b.books).sheet
  pub waiting : IsPermutation (after log).waiting (waiting_of (state_of b.books).lanes)
  pub unfinished : IsPermutation (after log).unfinished (map request_of (state_of b.books).in_card)
  pub room : length (map request_of (state_of b.books).in_card) ≤ x.slots
  pub tie : Tied cards.DEPTH (state_of b.books) (cards.held b.card)

-- each answer is of its call's kind
kind_of : {C : Type 0} (depth : ℕ) (held : C → List Command) (finishes : C → Option (ℕ × ℕ) → C → Type 0) (s : State) (c : C) (call : Call) (a : Answer) (s' : State) (c' : C) → Step depth held finishes s c call a s' c' → call_kind call ≡ answer_kind a
kind_of depth held finishes s c (Load sheet) a s' c' st = ap answer_kind (sym st.0)
kind_of depth held finishes s c (Arrive f l n) a s' c' st = ap answer_kind (sym st.0)
kind_of depth held finishes s c (Send l) a s' c' st = ap answer_kind (sym st.0)
kind_of depth held finishes s c (Kick l) a s' c' st = ap answer_kind (sym st.0)
kind_of depth held finishes s c Reap a s' c' st = ap answer_kind (sym st.3)
kind_of depth held finishes s c Time a s' c' st = ap answer_kind (sym st.0)
kind_of depth held finishes s c Ready a s' c' st = ap answer_kind (sym st.0)
kind_of depth held finishes s c (Flow f) a s' c' st = ap answer_kind (sym st.0)

firsts : {K X Y : Type 0} (f : K → Y) (ks : List K) (vs : List X) → length vs ≡ length ks → map f ks ≡ map (λ (e : K × X). f e.0) (zip ks vs)
firsts f [] [] h = refl
firsts f [] (y ∷ vs) h = absurd (omega arith)
firsts f (x ∷ ks) [] h = absurd (omega arith)
firsts f (x ∷ ks) (y ∷ vs) h = ap (λ l. f x ∷ l) (firsts f ks vs (omega arith))

seconds : {K X Y : Type 0} (f : X → Y) (ks : List K) (vs : List X) → length vs ≡ length ks → map f vs ≡ map (λ (e : K × X). f e.1) (zip ks vs)
seconds f [] [] h = refl
seconds f [] (y ∷ vs) h = absurd (omega arith)
seconds f (x ∷ ks) [] h = absurd (omega arith)
seconds f (x ∷ ks) (y ∷ vs) h = ap (λ l. f y ∷ l) (seconds f ks vs (omega arith))

module _ {C : Type 0} (cards : Ghosts C) {first : Board C cards} (new : state_of first.books ≡ empty blank) where
  known : {log : List Entry} {b : Board C cards} → Run cards first log b → (x : share.Sheet) → (after log).sheet ≡ Some x → Known cards log b x
  known {log} {b} run x e =
      let t = tied cards new run in
      let s = state_of b.books in
      let not_new : (after log).sheet ≡ None → ⊥ = λ n. let z : ◌≡◌ {A = ℕ} 0 1 = cc in omega (arith, z) in
      let old : ((after log).sheet ≡ Some (shares_of s.sheet)) × (t.0 ≡ books_of s) = ⊎_elim (λ n. absurd (not_new n.0)) (λ o. o) t.2 in
      let same : x ≡ shares_of s.sheet = let o = old.0 in cc in
      let n : step.Noted (map event log) (books_of s) = subst (step.Noted (map event log)) old.1 (noted new_books (map event log) t.1) in
      record {
        sheet = same;
        waiting = n.waiting (shares_of s.sheet) refl;
        unfinished = n.card (shares_of s.sheet) refl;
        room = subst (λ (y : share.Sheet). length (map request_of s.in_card) ≤ y.slots) (sym same) (n.room (shares_of s.sheet) refl);
        tie = ⊎_elim (λ n. absurd (not_new n.0)) (λ o. o) (tie cards new run);
      }

  holds : {log : List Entry} {b : Board C cards} → Run cards first log b → Holds log (cards.held b.card)
  holds {log} {b} run x e =
      let k = known run x e in
      let rs = (state_of b.books).in_card in
      let all : (g : Command → ℕ) → sum_by g (map command_of (after log).unfinished) ≡ sum_by g (cards.held b.card) = λ g.
      sum_by-map command_of g (after log).unfinished
      ∙ sym (sum_by-IsPermutation (λ (r : share.Request). g (command_of r)) (after log).unfinished (map request_of rs) k.unfinished)
      ∙ sum_by-map request_of (λ (r : share.Request). g (command_of r)) rs
      ∙ sym (k.tie.same g) in
      let shuffled = commands_from_sums (map command_of (after log).unfinished) (cards.held b.card) all in
      (shuffled, omega (arith, length_permutation (map command_of (after log).unfinished) (cards.held b.card) shuffled, length-map (after log).unfinished command_of, length_permutation (after log).unfinished (map request_of rs) k.unfinished, k.room))

  kicks : {log : List Entry} {b : Board C cards} → Run cards first log b → Kicks log
  kicks run before rest x l a at e there =
      let w = around run before (Kick l, a) rest at in
      let b = w.from in
      let s = state_of b.books in
      let k = known w.run x e in
      let says = w.did.step.0 in
      let in_card = length_permutation (after before).unfinished (map request_of s.in_card) k.unfinished in
      let same_length = length-map s.in_card request_of in
      let waits = length_permutation (after before).waiting (waiting_of s.lanes) k.waiting in
      let slots = ap (λ (y : share.Sheet). y.slots) k.sheet in
      let lanes = ap (λ (y : share.Sheet). y.lanes) k.sheet in (
        (λ sent.
            let h = has_sent cards.DEPTH (cards.held b.card) s l (subst (λ y. IsSent (told (Kick l) y)) says sent) in
            (omega (arith, h.1, in_card, same_length, slots), omega (arith, waits, lead_waits s.lanes h.0))),
        (λ can.
            subst (λ y. IsSent (told (Kick l) y)) (sym says)
            (can_send cards.DEPTH (cards.held b.card) s l (sound b.books) k.tie (omega (arith, there, lanes)) (waits_lead s.lanes (omega (arith, waits, can.1))) (omega (arith, can.0, in_card, same_length, slots)))),
      )

  kinds : {log : List Entry} {b : Board C cards} → Run cards first log b → map (λ (e : Entry). call_kind e.0) log ≡ map (λ (e : Entry). answer_kind e.1) log
  kinds start = refl
  kinds (more {log = log} {b = b} {b' = b'} call answer run did) =
      map_push (λ (e : Entry). call_kind e.0) log (call, answer)
      ∙ ap (λ ks. ks ++ call_kind call ∷ []) (kinds run)
      ∙ ap (λ k. map (λ (e : Entry). answer_kind e.1) log ++ k ∷ []) (kind_of cards.DEPTH cards.held cards.finishes (state_of b.books) b.card call answer (state_of b'.books) b'.card did.step)
      ∙ sym (map_push (λ (e : Entry). answer_kind e.1) log (call, answer))

module _ {C : Type 0} (cards : Ghosts C) {first : Board C cards} (new : state_of first.books ≡ empty blank) where
  pub promised : (card : C) (calls : List Call) (answers : List Answer) (b : Board C cards) → first.card ≡ card → length answers ≡ length calls → Run cards first (zip calls answers) b → Promise cards card calls answers b.card
  promised card calls answers b around_card level run = record {
    kinds = firsts call_kind calls answers level ∙ kinds cards new run ∙ sym (seconds answer_kind calls answers level);
    reached = record { first = first; last = b; new = new; around = around_card; run = run; there = refl };
    law = law new_books (map event (zip calls answers)) (tied cards new run).1;
    holds = λ before rest c e r. subst (λ x. Holds before (cards.held x)) r.there (holds cards r.new r.run);
    kicks = kicks cards new run;
  }
