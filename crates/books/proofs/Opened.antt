-- The books by their fields. Assumes nothing.
use Rattle.std.proofs.Common.{◌≡◌, ℕ, ◌<◌, ◌≤◌, true, ◌||◌, eqb, ltb, leb, List, length, get_or, set, Some, None, Option, sym, ap, ◌∙◌, ⊎_elim, arith}
use Rattle.std.proofs.lemmas.List.{get_or-map, get_or_past, length-map, map-set, set-get_or}
use Rattle.std.proofs.lemmas.Bool.{cases_Bool, cases_eq, cases_lt, cond-true, cond-false, or_left, or_right, and_from, and_parts, eq-eqb, lt-ltb, le-leb, leb-true}
use Rattle.charge.specs.Charge.{charge_of, within}
use Rattle.sheet.specs.Ranges.{lane_fits}
use Rattle.sheet.specs.Sheets.{FlowIn, LaneIn, content_of, flow_charge}
use Rattle.sheet.proofs.Fits.{all_of_at, within_true}
use Rattle.sheet.specs.declared.flow.Flow.{Flow}
use Rattle.books.specs.Model.{State, waiting, flow_is, flow_at, lane_at}
use Rattle.lanes.specs.declared.lanes.Lanes.{Lanes}
use Rattle.lanes.specs.declared.table.InCard.{InCard}
use Rattle.sheet.specs.declared.shape.Sheet.{Sheet}
use Rattle.books.specs.Sound.{Sound, CountsInCard, CountsWaiting}
use Rattle.books.specs.States.{ends_of, state_from}
use Rattle.books.specs.Views.{state_of}
use Rattle.books.specs.declared.books.Books.{Books}
use Rattle.books.specs.declared.flows.FlowRecord.{FlowRecord}
use Rattle.books.proofs.Arrivals.{Right}
use Rattle.books.proofs.Counts.{few_wait}

pub sound : (b : Books) → Sound (state_of b)
sound b = b.sound

-- what the ghost fields say of the flows' records and what the books mean, by their names
abbrev pub Kept : List FlowRecord → State → Type 0
Kept flows s = record { counts_waiting : CountsWaiting flows s; counts_in_card : CountsInCard flows s; sound : Sound s }

pub kept : (flows : List FlowRecord) (s : State) → CountsWaiting flows s → CountsInCard flows s → Sound s → Kept flows s
kept flows s w c k = record { counts_waiting = w; counts_in_card = c; sound = k }

-- what the ghost fields say of these fields together
abbrev pub Whole : Sheet → ℕ → List FlowRecord → Lanes → InCard → ℕ → Type 0
Whole sheet time flows lanes in_card arrivals = Kept flows (state_from sheet time flows lanes in_card arrivals)

pub whole : (b : Books) → Whole b.sheet b.time b.flows b.lanes b.in_card b.arrivals
whole b = kept b.flows (state_of b) b.counts_waiting b.counts_in_card (sound b)

pub sixteen : (b : Books) → length b.flows ≡ 16
sixteen b = sym (length-map b.flows (λ (x : FlowRecord). x.end)) ∙ b.sound.shaped.1

pub end_at : (fs : List FlowRecord) (f : ℕ) (d : FlowRecord) → f < length (ends_of fs) → get_or (ends_of fs) f 0 ≡ (get_or fs f d).end
end_at fs f d l = get_or-map (λ (x : FlowRecord). x.end) fs f d 0 (omega (arith, l, length-map fs (λ (x : FlowRecord). x.end)))

pub ends_set : (fs : List FlowRecord) (f : ℕ) (x : FlowRecord) (e : ℕ) → x.end ≡ e → ends_of (set fs f x) ≡ set (ends_of fs) f e
ends_set fs f x e p = map-set (λ (x : FlowRecord). x.end) fs f x ∙ ap (set (ends_of fs) f) p

-- an end tag that stays as it was
pub ends_stay : (fs : List FlowRecord) (f : ℕ) (x d : FlowRecord) → f < length fs → x.end ≡ (get_or fs f d).end → ends_of (set fs f x) ≡ ends_of fs
ends_stay fs f x d l e = ends_set fs f x (get_or fs f d).end e ∙ ap (set (ends_of fs) f) (sym (get_or-map (λ (y : FlowRecord). y.end) fs f d 0 l)) ∙ set-get_or (ends_of fs) f 0

pub restored : (fs : List FlowRecord) (f : ℕ) (x d : FlowRecord) → x ≡ get_or fs f d → set fs f x ≡ fs
restored fs f x d p = ap (set fs f) p ∙ set-get_or fs f d

-- a flow's charge tells whether its length is right
pub charge_none : (f : Flow) (n : ℕ) → None ≡ flow_charge f n → (eqb n 0 || ltb f.longest n) ≡ true
charge_none f n e =
    ⊎_elim
    (λ (z : n ≡ 0). or_left (eqb n 0) (ltb f.longest n) (eq-eqb n 0 z))
    (λ some. ⊎_elim
    (λ (long : f.longest < n). or_right (eqb n 0) (ltb f.longest n) (lt-ltb f.longest n long))
    (λ (le : n ≤ f.longest).
    let it : ◌≡◌ {A = Option ℕ} (flow_charge f n) (Some (charge_of n f.weight)) = cond-true (within 1 f.longest n) _ _ (and_from _ _ (le-leb 1 n (omega (arith, some))) (le-leb n f.longest le)) in
    let z : ◌≡◌ {A = ℕ} 0 1 = cc in absurd (omega (arith, z)))
    (cases_lt f.longest n))
    (cases_eq n 0)

pub charge_some : (f : Flow) (n c : ℕ) → Some c ≡ flow_charge f n → (c ≡ charge_of n f.weight) × (1 ≤ n) × (n ≤ f.longest)
charge_some f n c e =
    ⊎_elim
    (λ t.
    let it : ◌≡◌ {A = Option ℕ} (flow_charge f n) (Some (charge_of n f.weight)) = cond-true (within 1 f.longest n) _ _ t in
    let p = and_parts (leb 1 n) (leb n f.longest) t in
    (cc, leb-true 1 n p.0, leb-true n f.longest p.1))
    (λ no.
    let it : ◌≡◌ {A = Option ℕ} (flow_charge f n) None = cond-false (within 1 f.longest n) _ _ no in
    let z : ◌≡◌ {A = ℕ} 0 1 = cc in absurd (omega (arith, z)))
    (cases_Bool (within 1 f.longest n))

pub right_from : (s : State) (f l n : ℕ) (share : Flow) (k : ℕ) → FlowIn s.sheet f share → LaneIn s.sheet l k → 1 ≤ n → n ≤ share.longest → Right s f l n
right_from s f l n share k p q z m = record { flow = p.below; lane = q.below; some = omega (arith, z); most = omega (arith, m, ap (λ (x : Flow). x.longest) p.is) }

-- a flow and a lane of the sheet, and a length that has a charge
pub priced : (s : State) (f l n : ℕ) (share : Flow) (k c : ℕ) → FlowIn s.sheet f share → LaneIn s.sheet l k → (1 ≤ share.weight → share.weight ≤ 100 → share.longest ≤ 2048 → Some c ≡ flow_charge share n)
    → Right s f l n × (c ≡ charge_of n (flow_at s f).weight)
priced s f l n share k c p q value =
    let price = charge_some share n c (value p.some p.light p.most) in
    (right_from s f l n share k p q price.1 price.2, price.0 ∙ ap (λ (x : Flow). charge_of n x.weight) p.is)

-- at most 32 wait in a lane
pub lane_few : (b : Books) (l : ℕ) → length (lane_at (state_of b) l) ≤ 32
lane_few b l =
    let ks = (content_of b.sheet).lanes in
    ⊎_elim
    (λ (there : l < length ks). let fit = within_true 1 32 (get_or ks l 0) (all_of_at lane_fits ks l 0 b.sheet.lanes_fit there) in omega (arith, b.sound.within l, fit.1))
    (λ (past : length ks ≤ l). omega (arith, b.sound.within l, get_or_past ks l 0 past))
    (cases_lt l (length ks))

pub few_waiting : (b : Books) (f : ℕ) → waiting (flow_is f) (state_of b).lanes ≤ 256
few_waiting b f = few_wait f 8 (state_of b).lanes (omega (arith, b.sound.shaped.0)) (lane_few b)
