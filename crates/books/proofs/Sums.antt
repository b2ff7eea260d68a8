-- Sums over all that wait, and the least start tag. Assumes nothing.
use Rattle.std.proofs.Common.{◌≡◌, ℕ, ◌+◌, ◌-◌, ◌<◌, ◌≤◌, List, [], ◌∷◌, length, get_or, set, sum_by, refl, ap, arith}
use Rattle.std.proofs.lemmas.List.Sums.{sum_by-cons, sum_by-set}
use Rattle.heap.specs.Sorting.{insert}
use Rattle.heap.proofs.Sorting.{sum_by-insert}
use Rattle.lanes.specs.Lanes.{starts, least}
use Rattle.lanes.specs.Records.{by_start}
use Rattle.books.specs.Model.{waiting}
use Rattle.lanes.specs.declared.records.Request.{Request}

pub sum_by_mono : {X : Type 0} (g h : X → ℕ) (xs : List X) → ((x : X) → g x ≤ h x) → sum_by g xs ≤ sum_by h xs
sum_by_mono g h [] t = omega arith
sum_by_mono g h (x ∷ xs) t = omega (arith, t x, sum_by_mono g h xs t, sum_by-cons g x xs, sum_by-cons h x xs)

pub waiting_mono : (g h : Request → ℕ) (ls : List (List Request)) → ((r : Request) → g r ≤ h r) → waiting g ls ≤ waiting h ls
waiting_mono g h ls t = sum_by_mono (sum_by g) (sum_by h) ls (λ xs. sum_by_mono g h xs t)

-- one more in lane l
pub waiting_more : (g : Request → ℕ) (ls : List (List Request)) (l : ℕ) (r : Request) → l < length ls → waiting g (set ls l (insert by_start r (get_or ls l []))) ≡ g r + waiting g ls
waiting_more g ls l r b = omega (arith, sum_by-set (sum_by g) ls l (insert by_start r (get_or ls l [])) [] b, sum_by-insert by_start g r (get_or ls l []))

-- one less
pub waiting_less : (g : Request → ℕ) (ls : List (List Request)) (l : ℕ) (r : Request) (rest : List Request) → l < length ls → get_or ls l [] ≡ r ∷ rest → waiting g ls ≡ g r + waiting g (set ls l rest)
waiting_less g ls l r rest b e = omega (arith, sum_by-set (sum_by g) ls l rest [] b, ap (sum_by g) e, sum_by-cons g r rest)

-- where no start tag is above b, the least is not
pub least_high : (b v : ℕ) (ls : List (List Request)) → v ≤ b → waiting (λ r. r.start - b) ls ≡ 0 → least v (starts ls) ≤ b
least_high b v [] l z = l
least_high b v ([] ∷ ls) l z = least_high b v ls l (omega (arith, z, sum_by-cons (sum_by (λ (r : Request). r.start - b)) [] ls))
least_high b v ((r ∷ rs) ∷ ls) l z = omega (arith, z, sum_by-cons (sum_by (λ (r : Request). r.start - b)) (r ∷ rs) ls, sum_by-cons (λ (r : Request). r.start - b) r rs)

-- the least of some numbers is no other where one begins with it
pub least_again : (v : ℕ) (ns : List ℕ) → least (least v ns) ns ≡ least v ns
least_again v [] = refl
least_again v (n ∷ ns) = refl
