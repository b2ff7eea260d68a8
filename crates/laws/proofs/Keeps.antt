-- An arrival is a step. Assumes nothing.
use Rattle.std.proofs.Common.{◌≡◌, ℕ, zero, suc, ◌<◌, ◌≤◌, ◌||◌, eqb, ltb, leb, List, [], ◌∷◌, length, get_or, set, Result, refl, subst, arith, MatchResult}
use Rattle.std.specs.List.{AllByRecursion}
use Rattle.std.specs.List.Sorted.{IsPermutation}
use Rattle.std.proofs.lemmas.List.{get_or-set_same, get_or-set_other}
use Rattle.std.proofs.lemmas.List.Sums.{sum_by-cons}
use Rattle.std.proofs.lemmas.List.Sorted.{IsPermutation-refl}
use Rattle.std.proofs.ByRecursion.{all_shuffled}
use Rattle.std.proofs.lemmas.Bool.{cond_both, leb-false, or_parts, eqb-false, ltb-false}
use Rattle.charge.proofs.Charges.{laws}
use Rattle.heap.proofs.Sorting.{Ordered, Ordered-insert}
use Rattle.shares.specs.Events as share
use Rattle.shares.specs.Steps as step
use Rattle.shares.proofs.Shuffles.{requests_from_sums}
use Rattle.lanes.specs.Lanes.{starts}
use Rattle.books.specs.Model.{State, Arrival, most, flow_at, lane_at, tagged, entered}
use Rattle.lanes.specs.Records.{by_start}
use Rattle.books.specs.Sound.{Sound}
use Rattle.books.specs.declared.refusal.Refusal.{Refusal}
use Rattle.lanes.specs.declared.records.Request.{Request}
use Rattle.books.proofs.Sums.{waiting_more}
use Rattle.laws.specs.Steps.{request_of, shares_of, waiting_of, books_of, Fair, ArrivalsStep}
use Rattle.laws.proofs.Clocks.{waiting_sums, least_under, least_over, all_over, heads_over}

pub all_set : (P : List Request → Type 0) (ls : List (List Request)) (l : ℕ) (w : List Request) → AllByRecursion P ls → P w → AllByRecursion P (set ls l w)
all_set P [] l w a p = tt
all_set P (x ∷ xs) zero w a p = (p, a.1)
all_set P (x ∷ xs) (suc l) w a p = (a.0, all_set P xs l w a.1 p)

pub all_at : (P : List Request → Type 0) (ls : List (List Request)) (l : ℕ) → AllByRecursion P ls → P [] → P (get_or ls l [])
all_at P [] l a e = e
all_at P (x ∷ xs) zero a e = a.0
all_at P (x ∷ xs) (suc l) a e = all_at P xs l a.1 e

arrives : (s : State) (f l n : ℕ) → Sound s → Fair s → f < length s.sheet.flows → l < length s.sheet.lanes → 0 < n → n ≤ (flow_at s f).longest → step.Arrives (books_of s) (shares_of s.sheet) (request_of (tagged s f n)) (books_of (entered s l (tagged s f n)))
arrives s f l n k fair f< l< some most' =
    let r = tagged s f n in
    let s' = entered s l r in
    let heavy = fair.2 f f< in
    let gains : IsPermutation (request_of r ∷ waiting_of s.lanes) (waiting_of s'.lanes) = requests_from_sums (request_of r ∷ waiting_of s.lanes) (waiting_of s'.lanes)
    (λ g. omega (arith, sum_by-cons g (request_of r) (waiting_of s.lanes), waiting_sums g s.lanes, waiting_sums g s'.lanes, waiting_more (λ (q : Request). g (request_of q)) s.lanes l r (omega (arith, k.shaped.0, fair.1, l<)))) in
    let timely = k.timely in
    let over : AllByRecursion (λ (q : share.Request). s.time ≤ q.start) (waiting_of s.lanes) = all_over s.time s.lanes (subst (λ v. AllByRecursion (λ n. v ≤ n) (starts s.lanes)) timely (least_under s.time (starts s.lanes))) fair.3 in
    let over' : AllByRecursion (λ (q : share.Request). s.time ≤ q.start) (waiting_of s'.lanes) = all_shuffled (λ (q : share.Request). s.time ≤ q.start) (request_of r ∷ waiting_of s.lanes) (waiting_of s'.lanes) gains (omega arith, over) in
    record {
      ticket = refl;
      charge = refl;
      some = laws.positive n (flow_at s f).weight some heavy;
      most = laws.never_falls n (flow_at s f).longest (flow_at s f).weight heavy most';
      starts = refl;
      ends = refl;
      tag = get_or-set_same s.ends f _ 0 (omega (arith, k.shaped.1, fair.0, f<));
      tags = λ j other. get_or-set_other s.ends f j _ 0 other;
      count = refl;
      waiting = gains;
      card = IsPermutation-refl _;
      sheet = refl;
      clock = record {
        onward = least_over s.time s.time (starts s'.lanes) (omega arith) (heads_over s.time s'.lanes over');
        least = all_over s'.time s'.lanes (least_under s.time (starts s'.lanes)) (all_set (Ordered by_start) s.lanes l _ fair.3 (Ordered-insert by_start r (lane_at s l) (all_at (Ordered by_start) s.lanes l fair.3 tt)));
      };
    }

pub arrivals_step_lem : ArrivalsStep
arrivals_step_lem s f l n k fair =
    let P : Result Arrival Refusal × State → Type 0 = λ v. MatchResult v.0 (λ _. step.Step (books_of s) (share.arrived (request_of (tagged s f n))) (books_of v.1)) (λ _. v.1 ≡ s) in
    cond_both (leb (length s.sheet.flows) f) _ _ P (λ _. refl) (λ f<.
    cond_both (leb (length s.sheet.lanes) l) _ _ P (λ _. refl) (λ l<.
    cond_both (eqb n 0 || ltb (flow_at s f).longest n) _ _ P (λ _. refl) (λ fits.
    let parts = or_parts (eqb n 0) (ltb (flow_at s f).longest n) fits in
    cond_both (leb (get_or s.sheet.lanes l 0) (length (lane_at s l))) _ _ P (λ _. refl) (λ _.
    cond_both (leb most s.arrivals) _ _ P (λ _. refl) (λ _.
    (shares_of s.sheet, refl, arrives s f l n k fair (leb-false _ _ f<) (leb-false _ _ l<) (omega (arith, eqb-false n 0 parts.0)) (ltb-false _ _ parts.1)))))))
