-- The counts of the flows' records. Assumes nothing.
use Rattle.std.proofs.Common.{◌≡◌, ℕ, suc, ◌+◌, ◌*◌, ◌<◌, ◌≤◌, eqb, List, [], ◌∷◌, map, length, get_or, set, sum_by, sym, refl, ap, ◌∙◌, ⊎_elim, arith}
use Rattle.std.proofs.lemmas.List.{get_or-map, get_or_past, length-map, map-set, get_or-set_same, get_or-set_other}
use Rattle.std.proofs.lemmas.List.Sums.{sum_by-cons}
use Rattle.std.proofs.lemmas.Bool.{cases_eq, cases_lt, cond-true, cond-false, eq-eqb, ne_eqb}
use Rattle.lanes.specs.declared.records.Request.{Request}
use Rattle.books.specs.Model.{waiting, flow_is}
use Rattle.books.specs.declared.flows.FlowRecord.{FlowRecord}

-- 1 for the flow f
pub own : (r : Request) (f : ℕ) → r.flow ≡ f → flow_is f r ≡ 1
own r f e = cond-true {A = ℕ} (eqb r.flow f) 1 0 (eq-eqb r.flow f e)

pub other : (r : Request) (f : ℕ) → (r.flow ≡ f → ⊥) → flow_is f r ≡ 0
other r f n = cond-false {A = ℕ} (eqb r.flow f) 1 0 (ne_eqb r.flow f n)

module _ (count : FlowRecord → ℕ) where
  -- a flow that has a request counted has a record, and that counts it
  pub recorded : (fs : List FlowRecord) (f n : ℕ) (d : FlowRecord) → get_or (map count fs) f 0 ≡ n → 1 ≤ n → (f < length fs) × (count (get_or fs f d) ≡ n)
  recorded fs f n d e some =
      ⊎_elim
      (λ (l : f < length fs). (l, sym (get_or-map count fs f d 0 l) ∙ e))
      (λ (past : length fs ≤ f). absurd (omega (arith, e, some, get_or_past (map count fs) f 0 (omega (arith, past, length-map fs count)))))
      (cases_lt f (length fs))

  -- one flow's count changes to n, where the others' sums stay
  pub recount : (fs : List FlowRecord) (f n : ℕ) (x : FlowRecord) (old new : ℕ → ℕ) → f < length fs → count x ≡ n → n ≡ new f
      → ((j : ℕ) → (j ≡ f → ⊥) → new j ≡ old j) → ((j : ℕ) → get_or (map count fs) j 0 ≡ old j) → (j : ℕ) → get_or (map count (set fs f x)) j 0 ≡ new j
  recount fs f n x old new l is at rest was j =
      ap (λ ns. get_or ns j 0) (map-set count fs f x)
      ∙ ⊎_elim
      (λ (same : j ≡ f). ap (λ i. get_or (set (map count fs) f (count x)) i 0) same ∙ get_or-set_same (map count fs) f (count x) 0 (omega (arith, l, length-map fs count)) ∙ is ∙ at ∙ ap new (sym same))
      (λ ne. get_or-set_other (map count fs) f j (count x) 0 ne ∙ was j ∙ sym (rest j ne))
      (cases_eq j f)

-- a flow has no more of some requests than they are
pub flow_le : (f : ℕ) (rs : List Request) → sum_by (flow_is f) rs ≤ length rs
flow_le f [] = omega arith
flow_le f (r ∷ rs) = ⊎_elim (λ e. omega (arith, sum_by-cons (flow_is f) r rs, own r f e, flow_le f rs)) (λ ne. omega (arith, sum_by-cons (flow_is f) r rs, other r f ne, flow_le f rs)) (cases_eq r.flow f)

-- at most 32 wait in each of the lanes
pub few_wait : (f n : ℕ) (ls : List (List Request)) → length ls ≤ n → ((l : ℕ) → length (get_or ls l []) ≤ 32) → waiting (flow_is f) ls ≤ 32 * n
few_wait f n [] le h = omega arith
few_wait f n (w ∷ ls) le h = omega (arith, le, sum_by-cons (sum_by (flow_is f)) w ls, flow_le f w, h 0, few_wait f (length ls) ls (omega arith) (λ l. h (suc l)))

-- a lane with a lead is one of the lanes
pub led_there : (ls : List (List Request)) (l : ℕ) (r : Request) (rest : List Request) → get_or ls l [] ≡ r ∷ rest → l < length ls
led_there ls l r rest e =
    ⊎_elim
    (λ (there : l < length ls). there)
    (λ (past : length ls ≤ l). absurd (omega (arith, ap length (sym e ∙ get_or_past ls l [] past))))
    (cases_lt l (length ls))

-- a count that stays as it was
pub count_stays : (count : FlowRecord → ℕ) (fs : List FlowRecord) (f : ℕ) (x d : FlowRecord) (old : ℕ → ℕ) → f < length fs → count x ≡ count (get_or fs f d) → ((j : ℕ) → get_or (map count fs) j 0 ≡ old j) → (j : ℕ) → get_or (map count (set fs f x)) j 0 ≡ old j
count_stays count fs f x d old l same was = recount count fs f (count x) x old old l refl (same ∙ sym (get_or-map count fs f d 0 l) ∙ was f) (λ j n. refl) was

-- what a sum over the requests of each flow gains by r, at r's flow and at the others
pub gained : (sum sum' : ℕ → ℕ) (r : Request) (f : ℕ) → r.flow ≡ f → ((j : ℕ) → sum' j ≡ flow_is j r + sum j) → (sum' f ≡ sum f + 1) × ((j : ℕ) → (j ≡ f → ⊥) → sum' j ≡ sum j)
gained sum sum' r f e more = (omega (arith, more f, own r f e), λ j n. omega (arith, more j, other r j (λ q. n (sym q ∙ e))))

-- one count goes up with its sum, or down
pub count_up : (count : FlowRecord → ℕ) (fs : List FlowRecord) (x d : FlowRecord) (sum sum' : ℕ → ℕ) (r : Request) (f : ℕ) → r.flow ≡ f → f < length fs → count x ≡ count (get_or fs f d) + 1 → ((j : ℕ) → sum' j ≡ flow_is j r + sum j)
    → ((j : ℕ) → get_or (map count fs) j 0 ≡ sum j) → (j : ℕ) → get_or (map count (set fs f x)) j 0 ≡ sum' j
count_up count fs x d sum sum' r f e l one more was =
    let g = gained sum sum' r f e more in
    recount count fs f (count x) x sum sum' l refl (omega (arith, one, get_or-map count fs f d 0 l, was f, g.0)) g.1 was

pub count_down : (count : FlowRecord → ℕ) (fs : List FlowRecord) (x d : FlowRecord) (sum sum' : ℕ → ℕ) (r : Request) (f : ℕ) → r.flow ≡ f → f < length fs → count x + 1 ≡ count (get_or fs f d) → ((j : ℕ) → sum j ≡ flow_is j r + sum' j)
    → ((j : ℕ) → get_or (map count fs) j 0 ≡ sum j) → (j : ℕ) → get_or (map count (set fs f x)) j 0 ≡ sum' j
count_down count fs x d sum sum' r f e l one less was =
    let g = gained sum' sum r f e less in
    recount count fs f (count x) x sum sum' l refl (omega (arith, one, get_or-map count fs f d 0 l, was f, g.0)) (λ j n. sym (g.1 j n)) was
