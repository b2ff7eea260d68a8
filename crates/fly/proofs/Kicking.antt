-- A kick sends exactly when it can. Assumes nothing.
use Rattle.std.proofs.Common.{◌≡◌, ℕ, zero, suc, ◌<◌, false, cond, eqb, leb, List, [], ◌∷◌, length, Ok, sum_by, Result, sym, refl, ap, ◌∙◌, subst, arith}
use Rattle.std.proofs.lemmas.List.Sums.{sum_by-cons}
use Rattle.std.proofs.lemmas.Bool.{cond_both, cond-true, cond-false, leb-false, lt-leb, eqb-false, eq-eqb, le-ltb}
use Rattle.card.specs.Commands.{among, tally}
use Rattle.card.specs.declared.CardFault.{CardFault}
use Rattle.card.specs.declared.Command.{Command}
use Rattle.card.proofs.Bags.{among-tally, tally-sum}
use Rattle.lanes.specs.Lanes.{starts}
use Rattle.books.specs.Model.{State, lane_at}
use Rattle.lanes.specs.Records.{ticket_is}
use Rattle.books.specs.Sound.{Sound}
use Rattle.lanes.specs.declared.records.Request.{Request}
use Rattle.books.proofs.Sums.{waiting_less}
use Rattle.board.specs.Rules.{Outcome, submits, handed, kick_rule}
use Rattle.laws.specs.Steps.{waiting_of}
use Rattle.laws.proofs.Hand.{kicks_hand_lem}
use Rattle.laws.proofs.Sent.{no_waiting}
use Rattle.fly.specs.Flights.{told}
use Rattle.fly.specs.Promise.{IsSent}
use Rattle.fly.specs.declared.call.Answer.TheVariants.{Moved}
use Rattle.fly.specs.declared.call.Call.TheVariants.{Kick}
use Rattle.fly.proofs.Holding.{Tied}

-- the card is not full, and a ticket that waits is not in it, so it takes a lead
takes : (depth : ℕ) (held : List Command) (s : State) (k : ℕ) (r : Request) (rest : List Request) → Sound s → Tied depth s held → k < 8 → lane_at s k ≡ r ∷ rest → length s.in_card < s.sheet.slots → submits depth held r.ticket ≡ Ok tt
takes depth held s k r rest sound tie k8 lane room =
    let t = r.ticket in
    let one : (c : Command) → ℕ = λ c. cond (eqb c.ticket t) 1 0 in
    let once = sound.once t in
    let waits = waiting_less (ticket_is t) s.lanes k r rest (omega (arith, sound.shaped.0, k8)) lane in
    let none : tally t held ≡ 0 = omega (arith, tally-sum t held, tie.same one, once, waits, cond-true {A = ℕ} (eqb r.ticket t) 1 0 (eq-eqb t t refl)) in
    let free : among t held ≡ false = among-tally t held ∙ le-ltb 0 (tally t held) (omega (arith, none)) in
    let all : length held ≡ length s.in_card = sym (ones held) ∙ tie.same (λ _. 1) ∙ ones s.in_card in
    cond-false (leb depth (length held)) _ _ (lt-leb depth (length held) (omega (arith, all, room, tie.deep))) ∙ cond-false (among t held) _ _ free
  where
    ones : {X : Type 0} (xs : List X) → sum_by (λ _. 1) xs ≡ length xs
    ones [] = refl
    ones (x ∷ xs) = omega (arith, sum_by-cons (λ _. 1) x xs, ones xs)

handed_sent : (l : ℕ) (s : State) (k : ℕ) (r : Request) (rest : List Request) (v : Result (Unit {0}) CardFault) → v ≡ Ok tt → IsSent (told (Kick l) (Moved (handed s k r rest v).says))
handed_sent l s k r rest v e = subst (λ x. IsSent (told (Kick l) (Moved (handed s k r rest x).says))) (sym e) tt

pub can_send : (depth : ℕ) (held : List Command) (s : State) (l : ℕ) → Sound s → Tied depth s held → l < length s.sheet.lanes → 0 < length (starts s.lanes) → length s.in_card < s.sheet.slots → IsSent (told (Kick l) (Moved (kick_rule depth held s l).says))
can_send depth held s l sound tie there some room =
    let h = kicks_hand_lem depth held s l sound there some room in
    subst (λ (o : Outcome). IsSent (told (Kick l) (Moved o.says))) (sym h.5)
    (handed_sent l s h.0 h.2 h.3 (submits depth held h.2.ticket) (takes depth held s h.0 h.2 h.3 sound tie h.1 h.4 room))

-- what a kick that sends has found
Found : State → ℕ → Outcome → Type 0
Found s l o = IsSent (told (Kick l) (Moved o.says)) → (0 < length (starts s.lanes)) × (length s.in_card < s.sheet.slots)

pub has_sent : (depth : ℕ) (held : List Command) (s : State) (l : ℕ) → IsSent (told (Kick l) (Moved (kick_rule depth held s l).says)) → (0 < length (starts s.lanes)) × (length s.in_card < s.sheet.slots)
unfolding Found
has_sent depth held s l =
    cond_both (leb (length s.sheet.lanes) l) _ _ (Found s l) (λ _ no. absurd no) (λ _.
    cond_both (eqb (length (starts s.lanes)) 0) _ _ (Found s l) (λ _ no. absurd no) (λ some.
    cond_both (leb s.sheet.slots (length s.in_card)) _ _ (Found s l) (λ _ no. absurd no) (λ room _.
    (omega (arith, eqb-false (length (starts s.lanes)) 0 some), leb-false s.sheet.slots (length s.in_card) room))))

-- some request waits where some lane has a lead
pub lead_waits : (ls : List (List Request)) → 0 < length (starts ls) → 0 < length (waiting_of ls)
lead_waits [] h = absurd (omega (arith, h))
lead_waits ([] ∷ ls) h = lead_waits ls h
lead_waits ((r ∷ rs) ∷ ls) h = omega arith

pub waits_lead : (ls : List (List Request)) → 0 < length (waiting_of ls) → 0 < length (starts ls)
waits_lead ls h = go (length (starts ls)) refl
  where
    go : (n : ℕ) → length (starts ls) ≡ n → 0 < length (starts ls)
    go zero e = absurd (omega (arith, h, ap length (no_waiting ls e)))
    go (suc n) e = omega (arith, e)
