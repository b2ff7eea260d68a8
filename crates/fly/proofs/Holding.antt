-- The card holds what the books say, from the first accepted load on. Assumes nothing.
use Rattle.std.proofs.Common.{◌≡◌, ℕ, ◌+◌, ◌≤◌, cond, ◌||◌, eqb, ltb, leb, ◌⊎◌, List, [], ◌∷◌, map, length, Some, None, Ok, Err, sum_by, Option, Result, sym, refl, ap, ◌∙◌, subst, inl, inr, ⊎_elim, arith, MatchResult}
use Rattle.std.proofs.lemmas.List.{nil_from_length}
use Rattle.std.proofs.lemmas.List.Sums.{sum_by-cons}
use Rattle.std.proofs.lemmas.Bool.{cond_both, cond-true, cond-false, eq-eqb, ltb-false, or_parts, cases_Bool}
use Rattle.sheet.specs.Sheets.{Content, content_of, blank}
use Rattle.sheet.specs.declared.shape.Sheet.{Sheet}
use Rattle.heap.proofs.Sorting.{sum_by-insert}
use Rattle.card.specs.Commands.{command, Finished}
use Rattle.card.specs.declared.CardFault.{CardFault}
use Rattle.card.specs.declared.Card.{Ghosts}
use Rattle.card.specs.declared.Command.{Command}
use Rattle.card.proofs.Bags.{same_sum, more_sum}
use Rattle.shares.specs.Events as share
use Rattle.lanes.specs.Lanes.{starts}
use Rattle.books.specs.Model.{State, lane_at, arrive_rule, empty, ready_lanes, found, without}
use Rattle.lanes.specs.Records.{by_ticket, ticket_is}
use Rattle.books.specs.Sound.{Sound}
use Rattle.books.specs.Views.{state_of}
use Rattle.lanes.specs.declared.records.Request.{Request}
use Rattle.books.specs.declared.refusal.Refusal.{Refusal}
use Rattle.books.proofs.Opened.{sound}
use Rattle.board.specs.Rules.{Outcome, Holds, stays, submits, handed, hand_first, send_first, send_rule, kick_from, kick_rule, reap_found, reap_rule, load_rule}
use Rattle.board.specs.declared.board.Board.{Board}
use Rattle.board.proofs.Sends.{still}
use Rattle.laws.proofs.Sent.{found_sums}
use Rattle.fly.specs.Flights.{Entry, told, event, Step, Run, start, more}
use Rattle.fly.specs.declared.call.Answer.{Answer}
use Rattle.fly.specs.declared.call.Answer.TheVariants.{Loaded, Arrived, Moved, Reaped}
use Rattle.fly.specs.declared.call.Call.{Call}
use Rattle.fly.specs.declared.call.Call.TheVariants.{Load, Arrive, Send, Kick, Reap, Time, Ready, Flow}
use Rattle.fly.proofs.Events.{sheet_after, sheet_push, idle, arrive_quiet, send_quiet, kick_quiet}

-- what a request in the card is to the card
abbrev pub commanded : Request → Command
commanded r = command r.ticket r.sectors

-- the card holds the commands of the requests in the card by the books, in any order; and it is deep enough for the sheet
pub record Tied (depth : ℕ) (s : State) (held : List Command) : Type 0 where
  pub same : (g : Command → ℕ) → sum_by g held ≡ sum_by (λ r. g (commanded r)) s.in_card
  pub deep : s.sheet.slots ≤ depth

-- ---- sends and kicks

-- an outcome keeps the tie
Carries : ℕ → State → Outcome → Type 0
Carries depth s o = (before after : List Command) → Tied depth s before → Holds o.hands before after → Tied depth o.books after

carries_stays : (depth : ℕ) (s : State) (a : _) → Carries depth s (stays s a)
unfolding Carries
carries_stays depth s a before after k h = record { same = λ g. same_sum g before after h ∙ k.same g; deep = k.deep }

carries_handed : (depth : ℕ) (s : State) (l : ℕ) (r : Request) (rest : List Request) (v : Result (Unit {0}) CardFault) → Carries depth s (handed s l r rest v)
unfolding Carries
carries_handed depth s l r rest (Ok u) before after k h = record {
  same = λ g. omega (arith, more_sum g (commanded r) before after h, k.same g, sum_by-insert by_ticket (λ (q : Request). g (commanded q)) r s.in_card);
  deep = k.deep;
}
carries_handed depth s l r rest (Err e) before after k h = record { same = λ g. same_sum g before after h ∙ k.same g; deep = k.deep }

send_carries : (depth d : ℕ) (held : List Command) (s : State) (l : ℕ) → Carries depth s (send_rule d held s l)
send_carries depth d held s l =
    cond_both (leb (length s.sheet.lanes) l) _ _ (Carries depth s) (λ _. carries_stays depth s _) (λ _. go (lane_at s l))
  where
    go : (w : List Request) → Carries depth s (send_first d held s l w)
    go [] = carries_stays depth s _
    go (r ∷ rest) =
        cond_both (ltb (s.time + s.sheet.threshold) r.start) _ _ (Carries depth s) (λ _. carries_stays depth s _) (λ _.
        cond_both (leb s.sheet.slots (length s.in_card)) _ _ (Carries depth s) (λ _. carries_stays depth s _) (λ _. carries_handed depth s l r rest (submits d held r.ticket)))

kick_carries : (depth d : ℕ) (held : List Command) (s : State) (l : ℕ) → Carries depth s (kick_rule d held s l)
kick_carries depth d held s l =
    cond_both (leb (length s.sheet.lanes) l) _ _ (Carries depth s) (λ _. carries_stays depth s _) (λ _.
    cond_both (eqb (length (starts s.lanes)) 0) _ _ (Carries depth s) (λ _. carries_stays depth s _) (λ _.
    cond_both (leb s.sheet.slots (length s.in_card)) _ _ (Carries depth s) (λ _. carries_stays depth s _) (λ _. go (ready_lanes s l))))
  where
    first : (j : ℕ) (w : List Request) → Carries depth s (hand_first d held s j w)
    first j [] = carries_stays depth s _
    first j (r ∷ rest) = carries_handed depth s j r rest (submits d held r.ticket)

    go : (js : List ℕ) → Carries depth s (kick_from d held s js)
    go [] = carries_stays depth s _
    go (j ∷ js) = first j (lane_at s j)

-- ---- a reap

none_found : (t : ℕ) (xs : List Request) → found t xs ≡ None → sum_by (ticket_is t) xs ≡ 0
none_found t [] e = refl
none_found t (x ∷ xs) e =
    ⊎_elim
    (λ here. let it : ◌≡◌ {A = Option Request} (found t (x ∷ xs)) (Some x) = cond-true (eqb x.ticket t) _ _ here in let z : ◌≡◌ {A = ℕ} 0 1 = cc in absurd (omega (arith, z)))
    (λ there. omega (arith, sum_by-cons (ticket_is t) x xs, cond-false {A = ℕ} (eqb x.ticket t) 1 0 there, none_found t xs (sym (cond-false (eqb x.ticket t) _ _ there) ∙ e)))
    (cases_Bool (eqb x.ticket t))

-- 1 for a command with the ticket t, and its length
abbrev of_ticket : ℕ → Command → ℕ
of_ticket t c = cond (eqb c.ticket t) 1 0

abbrev length_at : ℕ → Command → ℕ
length_at t c = cond (eqb c.ticket t) c.sectors 0

no_length : (t : ℕ) (cs : List Command) → sum_by (of_ticket t) cs ≡ 0 → sum_by (length_at t) cs ≡ 0
no_length t [] e = refl
no_length t (c ∷ cs) e =
    let sum = sum_by-cons (of_ticket t) c cs in
    ⊎_elim
    (λ here. absurd (omega (arith, sum, e, cond-true {A = ℕ} (eqb c.ticket t) 1 0 here)))
    (λ there. omega (arith, sum_by-cons (length_at t) c cs, cond-false (eqb c.ticket t) c.sectors 0 there, no_length t cs (omega (arith, sum, e))))
    (cases_Bool (eqb c.ticket t))

no_length_in : (t : ℕ) (rs : List Request) → sum_by (ticket_is t) rs ≡ 0 → sum_by (λ r. length_at t (commanded r)) rs ≡ 0
no_length_in t [] e = refl
no_length_in t (r ∷ rs) e =
    let sum = sum_by-cons (ticket_is t) r rs in
    ⊎_elim
    (λ here. absurd (omega (arith, sum, e, cond-true {A = ℕ} (eqb r.ticket t) 1 0 here)))
    (λ there. omega (arith, sum_by-cons (λ (q : Request). length_at t (commanded q)) r rs, cond-false (eqb r.ticket t) r.sectors 0 there, no_length_in t rs (omega (arith, sum, e))))
    (cases_Bool (eqb r.ticket t))

-- the card finished the command t, n; q is the request with that ticket
module _ {depth : ℕ} {s : State} {before : List Command} (after : List Command) (k : Tied depth s before) (once : (t : ℕ) → sum_by (ticket_is t) s.in_card ≤ 1) where
  finished_tied : (t n : ℕ) (q : Request) → found t s.in_card ≡ Some q → ((g : Command → ℕ) → sum_by g before ≡ g (command t n) + sum_by g after)
      → (g : Command → ℕ) → sum_by g after ≡ sum_by (λ r. g (commanded r)) (without t s.in_card)
  finished_tied t n q e less g =
      let p = found_sums t s.in_card q e (once t) in
      let it = eq-eqb t t refl in
      let q-it = eq-eqb q.ticket t p.0 in
      let none_left : sum_by (ticket_is t) (without t s.in_card) ≡ 0 = omega (arith, once t, p.1 (ticket_is t), cond-true {A = ℕ} (eqb q.ticket t) 1 0 q-it) in
      let none_after : sum_by (of_ticket t) after ≡ 0 = omega (arith, once t, k.same (of_ticket t), less (of_ticket t), cond-true {A = ℕ} (eqb t t) 1 0 it) in
      let size : n ≡ q.sectors = omega (
        arith,
        k.same (length_at t),
        less (length_at t),
        p.1 (λ (r : Request). length_at t (commanded r)),
        no_length t after none_after,
        no_length_in t (without t s.in_card) none_left,
        cond-true (eqb t t) n 0 it,
        cond-true (eqb q.ticket t) q.sectors 0 q-it,
      ) in
      let same : commanded q ≡ command t n = λ i. record { ticket = p.0 i; sectors = sym size i } in
      omega (arith, k.same g, less g, p.1 (λ (r : Request). g (commanded r)), ap g same)

  strange : (t n : ℕ) → found t s.in_card ≡ None → ((g : Command → ℕ) → sum_by g before ≡ g (command t n) + sum_by g after) → ⊥
  strange t n e less = omega (arith, none_found t s.in_card e, k.same (of_ticket t), less (of_ticket t), cond-true {A = ℕ} (eqb t t) 1 0 (eq-eqb t t refl))

reap_tied : (depth : ℕ) (s : State) (before after : List Command) (done : Option (ℕ × ℕ)) → ((t : ℕ) → sum_by (ticket_is t) s.in_card ≤ 1) → Tied depth s before → Finished before done after → Tied depth (reap_rule s done).1 after
reap_tied depth s before after None once k h = record { same = λ g. same_sum g before after h ∙ k.same g; deep = k.deep }
reap_tied depth s before after (Some d) once k h = go (found d.0 s.in_card) refl
  where
    less : (g : Command → ℕ) → sum_by g before ≡ g (command d.0 h.0) + sum_by g after
    less g = more_sum g (command d.0 h.0) after before h.1

    go : (o : Option Request) → found d.0 s.in_card ≡ o → Tied depth (reap_found s d.0 d.1 o).1 after
    go None e = absurd (strange after k once d.0 h.0 e less)
    go (Some q) e = record { same = finished_tied after k once d.0 h.0 q e less; deep = k.deep }

-- ---- a load

load_tied : (depth : ℕ) (held : List Command) (s : State) (sheet : Content) → MatchResult (load_rule depth held s sheet).0 (λ _. Tied depth (load_rule depth held s sheet).1 held) (λ _. (load_rule depth held s sheet).1 ≡ s)
load_tied depth held s sheet =
    let P : Result (Unit {0}) Refusal × State → Type 0 = λ v. MatchResult v.0 (λ _. Tied depth v.1 held) (λ _. v.1 ≡ s) in
    cond_both (ltb 0 (length (starts s.lanes)) || (ltb 0 (length s.in_card) || ltb 0 (length held))) _ _ P (λ _. refl) (λ free.
    let p = or_parts (ltb 0 (length (starts s.lanes))) (ltb 0 (length s.in_card) || ltb 0 (length held)) free in
    let q = or_parts (ltb 0 (length s.in_card)) (ltb 0 (length held)) p.1 in
    let none : held ≡ [] = nil_from_length held (omega (arith, ltb-false 0 (length held) q.1)) in
    cond_both (ltb depth sheet.slots) _ _ P (λ _. refl) (λ fits. record { same = λ g. ap (sum_by g) none; deep = ltb-false depth sheet.slots fits }))

-- ---- one call, and a flight

-- no sheet was loaded yet, or the card is tied to the books
abbrev pub Tie : ℕ → Option share.Sheet → State → List Command → Type 0
Tie depth o s held = ((o ≡ None) × (s ≡ empty blank)) ⊎ Tied depth s held

load_tie : (depth : ℕ) (held : List Command) (s : State) (sheet : Sheet) (o : Option share.Sheet) (r : Result (Unit {0}) Refusal) (t : State) → MatchResult r (λ _. Tied depth t held) (λ _. t ≡ s) → Tie depth o s held → Tie depth (sheet_after o (told (Load sheet) (Loaded r))) t held
load_tie depth held s sheet o (Ok u) t h k = inr h
load_tie depth held s sheet o (Err e) t h k = subst (λ x. Tie depth o x held) (sym h) k

-- the sheet and what is in the card by the books stay
stays_tied : (depth : ℕ) (s s' : State) (held : List Command) → s'.in_card ≡ s.in_card → s'.sheet ≡ s.sheet → Tied depth s held → Tied depth s' held
stays_tied depth s s' held c sh k = record { same = λ g. k.same g ∙ ap (sum_by (λ (r : Request). g (commanded r))) (sym c); deep = subst (λ (x : Content). x.slots ≤ depth) (sym sh) k.deep }

module _ {C : Type 0} (cards : Ghosts C) where
  -- to a card, books and an answer that are those of the rule; before the first load nothing is told
  tie_to : (o : Option share.Sheet) (call : Call) {a a₀ : Answer} {s s' s₀ : State} {hs hs' : List Command} → a ≡ a₀ → s' ≡ s₀
      → (s ≡ empty blank → (told call a₀ ≡ share.nothing) × (s₀ ≡ empty blank)) → (Tied cards.DEPTH s hs → Tied cards.DEPTH s₀ hs') → Tie cards.DEPTH o s hs → Tie cards.DEPTH (sheet_after o (told call a)) s' hs'
  tie_to o call {a} {a₀} {s} {s'} {s₀} {hs} {hs'} p q quiet keeps k =
      ⊎_elim
      (λ (new : (o ≡ None) × (s ≡ empty blank)). let h = quiet new.1 in inl (ap (sheet_after o) (ap (told call) p ∙ h.0) ∙ new.0, q ∙ h.1))
      (λ tied. inr (subst (λ t. Tied cards.DEPTH t hs') (sym q) (keeps tied)))
      k

  tie_step : (o : Option share.Sheet) (s s' : State) (c c' : C) (call : Call) (a : Answer) → Sound s → Step cards.DEPTH cards.held cards.finishes s c call a s' c' → Tie cards.DEPTH o s (cards.held c) → Tie cards.DEPTH (sheet_after o (told call a)) s' (cards.held c')
  unfolding Carries
  tie_step o s s' c c' (Load sheet) a k st tie =
      let v = load_rule cards.DEPTH (cards.held c) s (content_of sheet) in
      let at : Tie cards.DEPTH (sheet_after o (told (Load sheet) (Loaded v.0))) v.1 (cards.held c) = load_tie cards.DEPTH (cards.held c) s sheet o v.0 v.1 (load_tied cards.DEPTH (cards.held c) s (content_of sheet)) tie in
      subst (λ x. Tie cards.DEPTH (sheet_after o (told (Load sheet) a)) s' (cards.held x)) (sym st.2)
      (subst (λ x. Tie cards.DEPTH (sheet_after o (told (Load sheet) x)) s' (cards.held c)) (sym st.0)
      (subst (λ t. Tie cards.DEPTH (sheet_after o (told (Load sheet) (Loaded v.0))) t (cards.held c)) (sym st.1) at))
  tie_step o s s' c c' (Arrive f l n) a k st tie =
      let same = still s f l n in
      subst (λ x. Tie cards.DEPTH (sheet_after o (told (Arrive f l n) a)) s' (cards.held x)) (sym st.2)
      (tie_to o (Arrive f l n) st.0 st.1
      (λ e. subst (λ t. (told (Arrive f l n) (Arrived (arrive_rule t f l n).0) ≡ share.nothing) × ((arrive_rule t f l n).1 ≡ empty blank)) (sym e) (arrive_quiet f l n))
      (stays_tied cards.DEPTH s (arrive_rule s f l n).1 (cards.held c) same.0 same.1) tie)
  tie_step o s s' c c' (Send l) a k st tie =
      tie_to o (Send l) st.0 st.1
      (λ e. subst (λ t. (told (Send l) (Moved (send_rule cards.DEPTH (cards.held c) t l).says) ≡ share.nothing) × ((send_rule cards.DEPTH (cards.held c) t l).books ≡ empty blank)) (sym e) (send_quiet cards.DEPTH (cards.held c) l))
      (λ tied. send_carries cards.DEPTH cards.DEPTH (cards.held c) s l (cards.held c) (cards.held c') tied st.2) tie
  tie_step o s s' c c' (Kick l) a k st tie =
      tie_to o (Kick l) st.0 st.1
      (λ e. subst (λ t. (told (Kick l) (Moved (kick_rule cards.DEPTH (cards.held c) t l).says) ≡ share.nothing) × ((kick_rule cards.DEPTH (cards.held c) t l).books ≡ empty blank)) (sym e) (kick_quiet cards.DEPTH (cards.held c) l))
      (λ tied. kick_carries cards.DEPTH cards.DEPTH (cards.held c) s l (cards.held c) (cards.held c') tied st.2) tie
  tie_step o s s' c c' Reap a k st tie =
      tie_to o Reap st.3 st.4
      (λ e. subst (λ t. (told Reap (Reaped (reap_rule t st.0).0) ≡ share.nothing) × ((reap_rule t st.0).1 ≡ empty blank)) (sym e) (idle st.0))
      (λ tied. reap_tied cards.DEPTH s (cards.held c) (cards.held c') st.0 (λ t. omega (arith, k.once t)) tied st.1) tie
  tie_step o s s' c c' Time a k st tie = subst (λ x. Tie cards.DEPTH (sheet_after o (told Time a)) s' (cards.held x)) (sym st.2) (tie_to o Time st.0 st.1 (λ e. (refl, e)) (λ tied. tied) tie)
  tie_step o s s' c c' Ready a k st tie = subst (λ x. Tie cards.DEPTH (sheet_after o (told Ready a)) s' (cards.held x)) (sym st.2) (tie_to o Ready st.0 st.1 (λ e. (refl, e)) (λ tied. tied) tie)
  tie_step o s s' c c' (Flow f) a k st tie = subst (λ x. Tie cards.DEPTH (sheet_after o (told (Flow f) a)) s' (cards.held x)) (sym st.2) (tie_to o (Flow f) st.0 st.1 (λ e. (refl, e)) (λ tied. tied) tie)

  pub tie : {first : Board C cards} {log : List Entry} {b : Board C cards} → state_of first.books ≡ empty blank → Run cards first log b → Tie cards.DEPTH (share.seen (map event log)).sheet (state_of b.books) (cards.held b.card)
  tie new start = inl (refl, new)
  tie new (more {log = log} {b = b} {b' = b'} call answer run did) =
      subst (λ o. Tie cards.DEPTH o (state_of b'.books) (cards.held b'.card)) (sym (sheet_push log (call, answer)))
      (tie_step (share.seen (map event log)).sheet (state_of b.books) (state_of b'.books) b.card b'.card call answer (sound b.books) did.step (tie new run))
