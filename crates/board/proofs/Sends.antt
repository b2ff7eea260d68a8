-- What the lead of a lane says of the rules. Assumes nothing.
use Rattle.std.proofs.Common.{◌≡◌, ℕ, suc, ◌+◌, ◌<◌, ◌≤◌, ◌||◌, eqb, ltb, leb, List, [], ◌∷◌, length, get_or, None, Some, Ok, Err, Option, MatchOption, Result, sym, refl, ap, ◌∙◌, subst, ⊎_elim, arith}
use Rattle.std.proofs.lemmas.Option.{same_Some}
use Rattle.std.proofs.lemmas.Bool.{cases_Bool, cond-true, cond-false, cond_both, leb-false, leb-true, lt-leb, lt-ltb, le-leb, le-ltb, ne_eqb}
use Rattle.heap.proofs.Sorting.{length-insert}
use Rattle.card.specs.Commands.{Submitted, among, command}
use Rattle.card.specs.declared.Command.{Command}
use Rattle.card.specs.declared.CardFault.{CardFault}
use Rattle.card.specs.declared.CardFault.TheVariants.{Full, HeldAlready}
use Rattle.lanes.specs.Lanes.{head_of, starts}
use Rattle.books.specs.Model.{State, Arrival, most, flow_at, lane_at, lead_rule, arrive_rule, moved, move_rule, moved_from, ready_lanes}
use Rattle.lanes.specs.Records.{by_ticket}
use Rattle.lanes.specs.declared.records.Request.{Request}
use Rattle.books.specs.declared.refusal.Refusal.{Refusal}
use Rattle.books.specs.declared.refusal.Refusal.TheVariants.{NoLane, ByCard}
use Rattle.board.specs.Rules.{Done, Outcome, stays, handed, hand_first, kick_from, kick_rule, send_first, send_rule, submits}
use Rattle.board.specs.declared.answer.Sending.TheVariants.{Empty, NoSlot, Sent}

pub lead_is : (s : State) (l : ℕ) (o : Option Request) → ◌≡◌ {A = Result (Option Request) Refusal} (Ok o) (lead_rule s l) → (l < length s.sheet.lanes) × (o ≡ head_of (lane_at s l))
lead_is s l o e = ⊎_elim
    (λ t. let no-lane : ◌≡◌ {A = Result (Option Request) Refusal} (lead_rule s l) (Err NoLane) = cond-true (leb (length s.sheet.lanes) l) _ _ t in let z : ◌≡◌ {A = ℕ} 0 1 = cc in absurd (omega arith))
    (λ f. let lane : ◌≡◌ {A = Result (Option Request) Refusal} (lead_rule s l) (Ok (head_of (lane_at s l))) = cond-false (leb (length s.sheet.lanes) l) _ _ f in (leb-false (length s.sheet.lanes) l f, cc))
    (cases_Bool (leb (length s.sheet.lanes) l))

-- the lead moves where a slot is free
pub has_moved : (s s' : State) (l : ℕ) → length s.in_card < s.sheet.slots → s' ≡ move_rule s l → s' ≡ moved s l
has_moved s s' l room e = e ∙ cond-true (ltb (length s.in_card) s.sheet.slots) _ _ (lt-ltb _ _ room)

pub one_more : (s : State) (l : ℕ) (r : Request) → Some r ≡ head_of (lane_at s l) → length (moved s l).in_card ≡ suc (length s.in_card)
one_more s l r e = go (lane_at s l) e
  where
    go : (w : List Request) → Some r ≡ head_of w → length (moved_from s l w).in_card ≡ suc (length s.in_card)
    go [] e = let z : ◌≡◌ {A = ℕ} 0 1 = cc in absurd (omega arith)
    go (x ∷ xs) e = length-insert by_ticket x s.in_card

pub same_sheet : (s : State) (l : ℕ) → (moved s l).sheet ≡ s.sheet
same_sheet s l = go (lane_at s l)
  where
    go : (w : List Request) → (moved_from s l w).sheet ≡ s.sheet
    go [] = refl
    go (x ∷ xs) = refl

-- an arrival leaves the sheet and what is in the card
pub still : (s : State) (f l n : ℕ) → ((arrive_rule s f l n).1.in_card ≡ s.in_card) × ((arrive_rule s f l n).1.sheet ≡ s.sheet)
still s f l n =
    let P : Result Arrival Refusal × State → Type 0 = λ v. (v.1.in_card ≡ s.in_card) × (v.1.sheet ≡ s.sheet) in
    cond_both (leb (length s.sheet.flows) f) _ _ P (λ _. (refl, refl)) (λ _.
    cond_both (leb (length s.sheet.lanes) l) _ _ P (λ _. (refl, refl)) (λ _.
    cond_both (eqb n 0 || ltb (flow_at s f).longest n) _ _ P (λ _. (refl, refl)) (λ _.
    cond_both (leb (get_or s.sheet.lanes l 0) (length (lane_at s l))) _ _ P (λ _. (refl, refl)) (λ _.
    cond_both (leb most s.arrivals) _ _ P (λ _. (refl, refl)) (λ _. (refl, refl))))))

pub leads : (w : List Request) (r : Request) → head_of w ≡ Some r → (rest : List Request) × (w ≡ r ∷ rest)
leads [] r e = let z : ◌≡◌ {A = ℕ} 0 1 = cc in absurd (omega arith)
leads (x ∷ xs) r e = let same : x ≡ r = cc in (xs, ap (λ y. y ∷ xs) same)

-- a kick with a free slot hands over the lead of the first of the ready lanes
pub kicks : (depth : ℕ) (held : List Command) (s : State) (l k : ℕ) (r : Request) (rest : List Request) → l < length s.sheet.lanes → 0 < length (starts s.lanes) → length s.in_card < s.sheet.slots → head_of (ready_lanes s l) ≡ Some k → lane_at s k ≡ r ∷ rest → kick_rule depth held s l ≡ handed s k r rest (submits depth held r.ticket)
kicks depth held s l k r rest there some room near lane =
    cond-false (leb (length s.sheet.lanes) l) _ _ (lt-leb _ _ there)
    ∙ cond-false (eqb (length (starts s.lanes)) 0) _ _ (ne_eqb _ 0 (λ e. omega (arith, e, some)))
    ∙ cond-false (leb s.sheet.slots (length s.in_card)) _ _ (lt-leb _ _ room)
    ∙ go (ready_lanes s l) near ∙ ap (hand_first depth held s k) lane
  where
    go : (ks : List ℕ) → head_of ks ≡ Some k → kick_from depth held s ks ≡ hand_first depth held s k (lane_at s k)
    go [] e = let z : ◌≡◌ {A = ℕ} 0 1 = cc in absurd (omega arith)
    go (j ∷ js) e = let same : j ≡ k = cc in ap (λ i. hand_first depth held s i (lane_at s i)) same

-- what is true of the ways of a send of a lead that is not throttled is true of its rule
pub sends : (depth : ℕ) (held : List Command) (s : State) (l : ℕ) (r : Request) (P : Outcome → Type 0) → l < length s.sheet.lanes → Some r ≡ head_of (lane_at s l) → r.start ≤ s.time + s.sheet.threshold
    → (s.sheet.slots ≤ length s.in_card → P (stays s (Ok NoSlot)))
    → (length s.in_card < s.sheet.slots → P (hand_first depth held s l (lane_at s l)))
    → P (send_rule depth held s l)
sends depth held s l r P there lead soon full room = subst P (sym (cond-false (leb (length s.sheet.lanes) l) _ _ (lt-leb _ _ there))) (go (lane_at s l) lead room)
  where
    go : (w : List Request) → Some r ≡ head_of w → (length s.in_card < s.sheet.slots → P (hand_first depth held s l w)) → P (send_first depth held s l w)
    go [] e h = let z : ◌≡◌ {A = ℕ} 0 1 = cc in absurd (omega arith)
    go (x ∷ xs) e h =
        let same : r ≡ x = same_Some r x e in
        subst P (sym (cond-false (ltb (s.time + s.sheet.threshold) x.start) _ _ (le-ltb _ _ (subst (λ (q : Request). q.start ≤ s.time + s.sheet.threshold) same soon))))
        (cond_both (leb s.sheet.slots (length s.in_card)) _ _ P (λ t. full (leb-true _ _ t)) (λ f. h (leb-false _ _ f)))

-- what is true of the ways of a kick where requests wait, by the nearest lead that was found, is true of its rule
pub kicked : (depth : ℕ) (held : List Command) (s : State) (l : ℕ) (near : Option (ℕ × Request)) (P : Outcome → Type 0) → l < length s.sheet.lanes → l < 8 → 0 < length (starts s.lanes)
    → MatchOption near (l < 8 → ready_lanes s l ≡ []) (λ p. (l < 8) × (p.0 < 8) × (head_of (ready_lanes s l) ≡ Some p.0) × (head_of (lane_at s p.0) ≡ Some p.1))
    → (s.sheet.slots ≤ length s.in_card → P (stays s (Ok NoSlot)))
    → (length s.in_card < s.sheet.slots → MatchOption near (P (stays s (Ok Empty))) (λ p. P (hand_first depth held s p.0 (lane_at s p.0))))
    → P (kick_rule depth held s l)
kicked depth held s l near P there few some found full room =
    subst P (sym (cond-false (leb (length s.sheet.lanes) l) _ _ (lt-leb _ _ there) ∙ cond-false (eqb (length (starts s.lanes)) 0) _ _ (ne_eqb _ 0 (λ e. omega (arith, e, some)))))
    (cond_both (leb s.sheet.slots (length s.in_card)) _ _ P (λ t. full (leb-true _ _ t)) (λ f. go near found (room (leb-false _ _ f)) (ready_lanes s l) refl))
  where
    go : (o : Option (ℕ × Request)) → MatchOption o (l < 8 → ready_lanes s l ≡ []) (λ p. (l < 8) × (p.0 < 8) × (head_of (ready_lanes s l) ≡ Some p.0) × (head_of (lane_at s p.0) ≡ Some p.1))
        → MatchOption o (P (stays s (Ok Empty))) (λ p. P (hand_first depth held s p.0 (lane_at s p.0))) → (ks : List ℕ) → ks ≡ ready_lanes s l → P (kick_from depth held s ks)
    go None f r [] e = r
    go None f r (j ∷ js) e = let z : ◌≡◌ {A = List ℕ} (j ∷ js) [] = e ∙ f few in let y : ◌≡◌ {A = ℕ} 0 1 = cc in absurd (omega arith)
    go (Some p) f r [] e = let z : ◌≡◌ {A = Option ℕ} (head_of []) (Some p.0) = ap head_of e ∙ f.2 in let y : ◌≡◌ {A = ℕ} 0 1 = cc in absurd (omega arith)
    go (Some p) f r (j ∷ js) e =
        let z : ◌≡◌ {A = Option ℕ} (Some j) (Some p.0) = ap head_of e ∙ f.2 in
        subst (λ k. P (hand_first depth held s k (lane_at s k))) (sym (same_Some j p.0 z)) r

-- the card took the command, or refused it
pub hands : (depth : ℕ) (before after : List Command) (s s' : State) (k : ℕ) (r : Request) (rest : List Request) → Submitted depth before (command r.ticket r.sectors) (Ok tt) after → lane_at s k ≡ r ∷ rest → s' ≡ moved s k → Done (Ok (Sent r.ticket r.flow r.charge)) s' before after (handed s k r rest (submits depth before r.ticket))
hands depth before after s s' k r rest sub lane is =
    subst (λ v. Done (Ok (Sent r.ticket r.flow r.charge)) s' before after (handed s k r rest v))
    (sym (cond-false (leb depth (length before)) _ _ (lt-leb depth (length before) sub.0) ∙ cond-false (among r.ticket before) _ _ sub.1))
    (record { says = refl; numbered = refl; books = is ∙ ap (moved_from s k) lane; card = sub.2 })

pub refuses : (depth : ℕ) (before after : List Command) (s : State) (k : ℕ) (r : Request) (rest : List Request) (fault : CardFault) → Submitted depth before (command r.ticket r.sectors) (Err fault) after → Done (Err (ByCard fault)) s before after (handed s k r rest (submits depth before r.ticket))
refuses depth before after s k r rest Full sub =
    subst (λ v. Done (Err (ByCard Full)) s before after (handed s k r rest v)) (sym (cond-true (leb depth (length before)) _ _ (le-leb depth (length before) sub.0))) (record { says = refl; numbered = refl; books = refl; card = sub.1 })
refuses depth before after s k r rest HeldAlready sub =
    subst (λ v. Done (Err (ByCard HeldAlready)) s before after (handed s k r rest v))
    (sym (cond-false (leb depth (length before)) _ _ (lt-leb depth (length before) sub.0) ∙ cond-true (among r.ticket before) _ _ sub.1))
    (record { says = refl; numbered = refl; books = refl; card = sub.2 })
