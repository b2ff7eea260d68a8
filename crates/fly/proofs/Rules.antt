-- What the rules leave of a sheet, and what they answer. Assumes nothing.
use Rattle.std.proofs.Common.{◌≡◌, ℕ, ◌+◌, ◌||◌, eqb, ltb, leb, List, [], ◌∷◌, length, get_or, Some, None, Ok, Err, Option, Result, refl, arith, MatchResult}
use Rattle.std.proofs.lemmas.Bool.{cond_both, cond-true, le-leb}
use Rattle.sheet.specs.Sheets.{Content, blank}
use Rattle.card.specs.declared.CardFault.{CardFault}
use Rattle.card.specs.declared.Command.{Command}
use Rattle.lanes.specs.Lanes.{starts}
use Rattle.books.specs.Model.{State, Arrival, most, flow_at, lane_at, tagged, entered, arrive_rule, empty, ready_lanes, found}
use Rattle.lanes.specs.declared.records.Request.{Request}
use Rattle.books.specs.declared.refusal.Refusal.{Refusal}
use Rattle.books.specs.declared.refusal.Refusal.TheVariants.{NoFlow, NoLane}
use Rattle.board.specs.Rules.{Outcome, stays, submits, handed, hand_first, send_first, send_rule, kick_from, kick_rule, reap_found, reap_rule, load_rule}

pub loads_empty : (depth : ℕ) (held : List Command) (s : State) (sheet : Content) → MatchResult (load_rule depth held s sheet).0 (λ _. (load_rule depth held s sheet).1 ≡ empty sheet) (λ _. (load_rule depth held s sheet).1 ≡ s)
loads_empty depth held s sheet =
    let P : Result (Unit {0}) Refusal × State → Type 0 = λ v. MatchResult v.0 (λ _. v.1 ≡ empty sheet) (λ _. v.1 ≡ s) in
    cond_both (ltb 0 (length (starts s.lanes)) || (ltb 0 (length s.in_card) || ltb 0 (length held))) _ _ P (λ _. refl) (λ _.
    cond_both (ltb depth sheet.slots) _ _ P (λ _. refl) (λ _. refl))

abbrev pub Enters : State → ℕ → ℕ → ℕ → Result Arrival Refusal × State → Type 0
Enters s f l n v = MatchResult v.0 (λ a. (a ≡ (s.arrivals, ((tagged s f n).start, (tagged s f n).start + (tagged s f n).charge))) × (v.1 ≡ entered s l (tagged s f n))) (λ _. v.1 ≡ s)

pub arrives_so : (s : State) (f l n : ℕ) → Enters s f l n (arrive_rule s f l n)
arrives_so s f l n =
    let P : Result Arrival Refusal × State → Type 0 = λ v. Enters s f l n v in
    cond_both (leb (length s.sheet.flows) f) _ _ P (λ _. refl) (λ _.
    cond_both (leb (length s.sheet.lanes) l) _ _ P (λ _. refl) (λ _.
    cond_both (eqb n 0 || ltb (flow_at s f).longest n) _ _ P (λ _. refl) (λ _.
    cond_both (leb (get_or s.sheet.lanes l 0) (length (lane_at s l))) _ _ P (λ _. refl) (λ _.
    cond_both (leb most s.arrivals) _ _ P (λ _. refl) (λ _. (refl, refl))))))

-- the sheet stays
Same : State → Outcome → Type 0
Same s o = o.books.sheet ≡ s.sheet

same_handed : (s : State) (l : ℕ) (r : Request) (rest : List Request) (v : Result (Unit {0}) CardFault) → Same s (handed s l r rest v)
unfolding Same
same_handed s l r rest (Ok u) = refl
same_handed s l r rest (Err e) = refl

pub send_sheet : (depth : ℕ) (held : List Command) (s : State) (l : ℕ) → (send_rule depth held s l).books.sheet ≡ s.sheet
unfolding Same
send_sheet depth held s l =
    cond_both (leb (length s.sheet.lanes) l) _ _ (Same s) (λ _. refl) (λ _. go (lane_at s l))
  where
    go : (w : List Request) → Same s (send_first depth held s l w)
    go [] = refl
    go (r ∷ rest) =
        cond_both (ltb (s.time + s.sheet.threshold) r.start) _ _ (Same s) (λ _. refl) (λ _.
        cond_both (leb s.sheet.slots (length s.in_card)) _ _ (Same s) (λ _. refl) (λ _. same_handed s l r rest (submits depth held r.ticket)))

pub kick_sheet : (depth : ℕ) (held : List Command) (s : State) (l : ℕ) → (kick_rule depth held s l).books.sheet ≡ s.sheet
unfolding Same
kick_sheet depth held s l =
    cond_both (leb (length s.sheet.lanes) l) _ _ (Same s) (λ _. refl) (λ _.
    cond_both (eqb (length (starts s.lanes)) 0) _ _ (Same s) (λ _. refl) (λ _.
    cond_both (leb s.sheet.slots (length s.in_card)) _ _ (Same s) (λ _. refl) (λ _. go (ready_lanes s l))))
  where
    first : (j : ℕ) (w : List Request) → Same s (hand_first depth held s j w)
    first j [] = refl
    first j (r ∷ rest) = same_handed s j r rest (submits depth held r.ticket)

    go : (js : List ℕ) → Same s (kick_from depth held s js)
    go [] = refl
    go (j ∷ js) = first j (lane_at s j)

pub reap_sheet : (s : State) (done : Option (ℕ × ℕ)) → (reap_rule s done).1.sheet ≡ s.sheet
reap_sheet s None = refl
reap_sheet s (Some d) = go (found d.0 s.in_card)
  where
    go : (o : Option Request) → (reap_found s d.0 d.1 o).1.sheet ≡ s.sheet
    go None = refl
    go (Some r) = refl

-- before the first load nothing happens
pub blank_arrives : (f l n : ℕ) → arrive_rule (empty blank) f l n ≡ (Err NoFlow, empty blank)
blank_arrives f l n = cond-true (leb 0 f) _ _ (le-leb 0 f (omega arith))

pub blank_sends : (depth : ℕ) (held : List Command) (l : ℕ) → send_rule depth held (empty blank) l ≡ stays (empty blank) (Err NoLane)
blank_sends depth held l = cond-true (leb 0 l) _ _ (le-leb 0 l (omega arith))

pub blank_kicks : (depth : ℕ) (held : List Command) (l : ℕ) → kick_rule depth held (empty blank) l ≡ stays (empty blank) (Err NoLane)
blank_kicks depth held l = cond-true (leb 0 l) _ _ (le-leb 0 l (omega arith))
