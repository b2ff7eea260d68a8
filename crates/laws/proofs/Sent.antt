-- What is sent, finished and loaded is a step. Assumes nothing.
use Rattle.std.proofs.Common.{◌≡◌, ℕ, zero, suc, ◌+◌, ◌<◌, ◌≤◌, true, ◌||◌, eqb, ltb, leb, List, [], ◌∷◌, map, length, get_or, replicate, Some, None, Ok, Err, sum_by, filter, Option, Result, sym, refl, ap, ◌∙◌, subst, inr, ⊎_elim, arith, MatchResult}
use Rattle.std.specs.List.{AllByRecursion}
use Rattle.std.specs.List.Sorted.{IsPermutation}
use Rattle.std.proofs.lemmas.List.{length-map, nil_from_length}
use Rattle.std.proofs.lemmas.List.Sums.{sum_by-cons}
use Rattle.std.proofs.lemmas.List.Sorted.{IsPermutation-refl}
use Rattle.std.proofs.ByRecursion.{all_shuffled}
use Rattle.std.proofs.lemmas.Bool.{cond_both, cond-true, cond-false, leb-true, leb-false, ltb-false, or_parts, cases_Bool, eqb-true}
use Rattle.lanes.proofs.Facts.{lanes_ordered}
use Rattle.sheet.proofs.Fits.{all_of_at, flow_fits_lem, sheet_fits}
use Rattle.sheet.specs.Ranges.{flow_fits}
use Rattle.sheet.specs.Sheets.{content_of, no_flow}
use Rattle.heap.proofs.Sorting.{Ordered, sum_by-insert, AllByRecursion-sorted}
use Rattle.card.specs.declared.CardFault.{CardFault}
use Rattle.shares.specs.Events as share
use Rattle.shares.specs.Steps as step
use Rattle.shares.proofs.Shuffles.{requests_from_sums, sum_by-map}
use Rattle.lanes.specs.Lanes.{starts}
use Rattle.near.specs.Lanes.{distance}
use Rattle.books.specs.Model.{State, lane_at, moved_from, found, without, ready, ready_with, ready_lanes, eight}
use Rattle.lanes.specs.Records.{by_start, by_ticket, ticket_is}
use Rattle.books.specs.Sound.{Sound}
use Rattle.lanes.specs.declared.records.Request.{Request}
use Rattle.books.specs.declared.refusal.Refusal.{Refusal}
use Rattle.books.proofs.Ready.{all_kept, each}
use Rattle.books.proofs.Removes.{without_none}
use Rattle.books.proofs.Sums.{waiting_less}
use Rattle.board.specs.Rules.{Outcome, submits, handed, hand_first, send_first, kick_from, reap_found}
use Rattle.laws.specs.Steps.{request_of, shares_of, waiting_of, books_of, Fair, sent_by, finished_by, SendsStep, KicksStep, ReapsStep, LoadsStep, BooksFair}
use Rattle.laws.proofs.Clocks.{waiting_sums, least_under, least_over, all_over, heads_over}
use Rattle.laws.proofs.Keeps.{all_set, all_at}

rests : (s : State) → step.Rests (books_of s) (books_of s)
rests s = record { card = IsPermutation-refl _; calm = record { waiting = IsPermutation-refl _; onward = omega arith; still = inr refl }; tags = λ f. refl; count = refl; sheet = refl }

sends : (s : State) (l : ℕ) (r : Request) (rest : List Request) → Sound s → Fair s → lane_at s l ≡ r ∷ rest → l < 8 → r.start ≤ s.time + s.sheet.threshold → length s.in_card < s.sheet.slots → step.Sends (books_of s) (shares_of s.sheet) (request_of r) (books_of (moved_from s l (r ∷ rest)))
sends s l r rest k fair lane l8 near room =
    let s' = moved_from s l (r ∷ rest) in
    let loses : IsPermutation (waiting_of s.lanes) (request_of r ∷ waiting_of s'.lanes) = requests_from_sums (waiting_of s.lanes) (request_of r ∷ waiting_of s'.lanes)
    (λ g. omega (arith, sum_by-cons g (request_of r) (waiting_of s'.lanes), waiting_sums g s.lanes, waiting_sums g s'.lanes, waiting_less (λ (q : Request). g (request_of q)) s.lanes l r rest (omega (arith, k.shaped.0, l8)) lane)) in
    let gains : IsPermutation (request_of r ∷ map request_of s.in_card) (map request_of s'.in_card) = requests_from_sums (request_of r ∷ map request_of s.in_card) (map request_of s'.in_card)
    (λ g. omega (arith, sum_by-cons g (request_of r) (map request_of s.in_card), sum_by-map request_of g s.in_card, sum_by-map request_of g s'.in_card, sum_by-insert by_ticket (λ (q : Request). g (request_of q)) r s.in_card)) in
    let timely = k.timely in
    let over : AllByRecursion (λ (q : share.Request). s.time ≤ q.start) (waiting_of s.lanes) = all_over s.time s.lanes (subst (λ v. AllByRecursion (λ n. v ≤ n) (starts s.lanes)) timely (least_under s.time (starts s.lanes))) fair.3 in
    let over' = (all_shuffled (λ (q : share.Request). s.time ≤ q.start) (waiting_of s.lanes) (request_of r ∷ waiting_of s'.lanes) loses over).1 in
    let tail : Ordered by_start rest = (subst (Ordered by_start) lane (all_at (Ordered by_start) s.lanes l fair.3 tt)).1 in
    record {
      near = near;
      room = omega (arith, room, length-map s.in_card request_of);
      waiting = loses;
      card = gains;
      tags = λ f. refl;
      count = refl;
      sheet = refl;
      clock = record {
        onward = least_over s.time s.time (starts s'.lanes) (omega arith) (heads_over s.time s'.lanes over');
        least = all_over s'.time s'.lanes (least_under s.time (starts s'.lanes)) (all_set (Ordered by_start) s.lanes l rest fair.3 tail);
      };
    }

-- an outcome is a step
Steps : State → Outcome → Type 0
Steps s o = step.Step (books_of s) (sent_by o.says) (books_of o.books)

hands : (s : State) (l : ℕ) (r : Request) (rest : List Request) (v : Result (Unit {0}) CardFault) → Sound s → Fair s → lane_at s l ≡ r ∷ rest → l < 8 → r.start ≤ s.time + s.sheet.threshold → length s.in_card < s.sheet.slots → Steps s (handed s l r rest v)
unfolding Steps
hands s l r rest (Ok u) k fair lane l8 near room = (shares_of s.sheet, refl, request_of r, refl, sends s l r rest k fair lane l8 near room)
hands s l r rest (Err e) k fair lane l8 near room = rests s

pub sends_step_lem : SendsStep
unfolding Steps
sends_step_lem depth held s l k fair =
    cond_both (leb (length s.sheet.lanes) l) _ _ (Steps s) (λ _. rests s) (λ b. go (lane_at s l) refl (leb-false _ _ b))
  where
    go : (w : List Request) → lane_at s l ≡ w → l < length s.sheet.lanes → Steps s (send_first depth held s l w)
    go [] e b = rests s
    go (r ∷ rest) e b =
        cond_both (ltb (s.time + s.sheet.threshold) r.start) _ _ (Steps s) (λ _. rests s) (λ near.
        cond_both (leb s.sheet.slots (length s.in_card)) _ _ (Steps s) (λ _. rests s) (λ room.
        hands s l r rest (submits depth held r.ticket) k fair e (omega (arith, b, fair.1)) (ltb-false _ _ near) (leb-false _ _ room)))

pub kicks_step_lem : KicksStep
unfolding Steps
kicks_step_lem depth held s l k fair =
    cond_both (leb (length s.sheet.lanes) l) _ _ (Steps s) (λ _. rests s) (λ _.
    cond_both (eqb (length (starts s.lanes)) 0) _ _ (Steps s) (λ _. rests s) (λ _.
    cond_both (leb s.sheet.slots (length s.in_card)) _ _ (Steps s) (λ _. rests s) (λ room.
    go (ready_lanes s l) (leb-false _ _ room) (AllByRecursion-sorted (λ j. distance l j ∷ j ∷ []) (λ j. (j < 8) × (ready s j ≡ true)) (filter (ready s) eight) (all_kept (ready s) (λ j. (j < 8) × (ready s j ≡ true)) eight (each (λ j. ready s j ≡ true → (j < 8) × (ready s j ≡ true)) (λ j b t. (b, t))))))))
  where
    first : (j : ℕ) (w : List Request) → lane_at s j ≡ w → ready_with s w ≡ true → j < 8 → length s.in_card < s.sheet.slots → Steps s (hand_first depth held s j w)
    first j [] e t b room = rests s
    first j (r ∷ rest) e t b room = hands s j r rest (submits depth held r.ticket) k fair e b (leb-true _ _ t) room

    go : (js : List ℕ) → length s.in_card < s.sheet.slots → AllByRecursion (λ j. (j < 8) × (ready s j ≡ true)) js → Steps s (kick_from depth held s js)
    go [] room a = rests s
    go (j ∷ js) room a = first j (lane_at s j) refl a.0.1 a.0.0 room

-- ---- what is finished

pub found_sums : (t : ℕ) (xs : List Request) (q : Request) → found t xs ≡ Some q → sum_by (ticket_is t) xs ≤ 1 → (q.ticket ≡ t) × ((g : Request → ℕ) → sum_by g xs ≡ g q + sum_by g (without t xs))
found_sums t [] q e one = let z : ◌≡◌ {A = ℕ} 0 1 = cc in absurd (omega arith)
found_sums t (x ∷ xs) q e one =
    let c = sum_by-cons (ticket_is t) x xs in
    ⊎_elim
    (λ here.
    let it : ◌≡◌ {A = Option Request} (found t (x ∷ xs)) (Some x) = cond-true (eqb x.ticket t) _ _ here in
    let same : x ≡ q = cc in
    let none : sum_by (ticket_is t) xs ≡ 0 = omega (arith, c, one, cond-true {A = ℕ} (eqb x.ticket t) 1 0 here) in
    let left : without t (x ∷ xs) ≡ xs = cond-true (eqb x.ticket t) _ _ here ∙ without_none t xs none in
    (ap (λ (y : Request). y.ticket) (sym same) ∙ eqb-true x.ticket t here, λ g. omega (arith, sum_by-cons g x xs, ap g same, ap (sum_by g) left)))
    (λ there.
    let it : found t (x ∷ xs) ≡ found t xs = cond-false (eqb x.ticket t) _ _ there in
    let p = found_sums t xs q (sym it ∙ e) (omega (arith, c, one)) in
    let left : without t (x ∷ xs) ≡ x ∷ without t xs = cond-false (eqb x.ticket t) _ _ there in
    (p.0, λ g. omega (arith, sum_by-cons g x xs, p.1 g, ap (sum_by g) left, sum_by-cons g x (without t xs))))
    (cases_Bool (eqb x.ticket t))

pub reaps_step_lem : ReapsStep
reaps_step_lem s None k = cond_both (eqb (length s.in_card) 0) _ _ (λ a. step.Step (books_of s) (finished_by (Ok a)) (books_of s)) (λ _. rests s) (λ _. rests s)
reaps_step_lem s (Some d) k = go (found d.0 s.in_card) refl
  where
    go : (o : Option Request) → found d.0 s.in_card ≡ o → step.Step (books_of s) (finished_by (reap_found s d.0 d.1 o).0) (books_of (reap_found s d.0 d.1 o).1)
    go None e = rests s
    go (Some q) e =
        let p = found_sums d.0 s.in_card q e (omega (arith, k.once d.0)) in (
          shares_of s.sheet,
          refl,
          request_of q,
          (λ i. record { ticket = p.0 i; flow = q.flow; charge = q.charge }),
          record {
            card = requests_from_sums (map request_of s.in_card) (request_of q ∷ map request_of (without d.0 s.in_card))
                (λ g. omega (arith, sum_by-cons g (request_of q) (map request_of (without d.0 s.in_card)), sum_by-map request_of g s.in_card, sum_by-map request_of g (without d.0 s.in_card), p.1 (λ (r : Request). g (request_of r))));
            calm = record { waiting = IsPermutation-refl _; onward = omega arith; still = inr refl };
            tags = λ f. refl;
            count = refl;
            sheet = refl;
          },
        )

-- ---- a load

pub no_waiting : (ls : List (List Request)) → length (starts ls) ≡ 0 → waiting_of ls ≡ []
no_waiting [] e = refl
no_waiting ([] ∷ ls) e = no_waiting ls e
no_waiting ((r ∷ rs) ∷ ls) e = absurd (omega (arith, e))

no_tags : (n f : ℕ) → ◌≡◌ {A = ℕ} (get_or (replicate n 0) f 0) 0
no_tags zero f = refl
no_tags (suc n) zero = refl
no_tags (suc n) (suc f) = no_tags n f

pub loads_step_lem : LoadsStep
loads_step_lem depth held s sheet o =
    let P : Result (Unit {0}) Refusal × State → Type 0 = λ v. MatchResult v.0 (λ _. step.Step (record { sheet = o; time = s.time; end = λ f. get_or s.ends f 0; waiting = waiting_of s.lanes; card = map request_of s.in_card; count = s.arrivals }) (share.loaded (shares_of sheet)) (books_of v.1)) (λ _. v.1 ≡ s) in
    cond_both (ltb 0 (length (starts s.lanes)) || (ltb 0 (length s.in_card) || ltb 0 (length held))) _ _ P (λ _. refl) (λ free.
    let p = or_parts (ltb 0 (length (starts s.lanes))) (ltb 0 (length s.in_card) || ltb 0 (length held)) free in
    let q = or_parts (ltb 0 (length s.in_card)) (ltb 0 (length held)) p.1 in
    cond_both (ltb depth sheet.slots) _ _ P (λ _. refl) (λ _.
    record {
      none_waited = no_waiting s.lanes (omega (arith, ltb-false 0 (length (starts s.lanes)) p.0));
      card_was_empty = ap (map request_of) (nil_from_length s.in_card (omega (arith, ltb-false 0 (length s.in_card) q.0)));
      sheet = refl;
      time = refl;
      tags = λ f. no_tags 16 f;
      waiting = refl;
      card = refl;
      count = refl;
    }))

-- ---- the code's books

pub books_fair_lem : BooksFair
books_fair_lem b =
    let fits = sheet_fits b.sheet in
    let fs = (content_of b.sheet).flows in (
      fits.few_flows,
      fits.few_lanes,
      (λ f l. (flow_fits_lem (get_or fs f no_flow) (all_of_at flow_fits fs f no_flow fits.flows_fit l)).0),
      lanes_ordered b.lanes,
    )
