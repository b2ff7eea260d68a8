-- A kick hands over whenever it can. Assumes nothing.
use Rattle.std.proofs.Common.{◌≡◌, ℕ, ◌<◌, true, false, List, [], ◌∷◌, length, Some, filter, refl, arith}
use Rattle.std.specs.List.{AllByRecursion}
use Rattle.std.proofs.lemmas.Bool.{both_ways}
use Rattle.heap.proofs.Sorting.{AllByRecursion-sorted}
use Rattle.lanes.specs.Lanes.{head_of}
use Rattle.near.specs.Lanes.{distance}
use Rattle.books.specs.Model.{State, lane_at, ready, ready_with, ready_lanes, eight}
use Rattle.lanes.specs.declared.records.Request.{Request}
use Rattle.books.proofs.Ready.{all_kept, each, some_ready}
use Rattle.board.proofs.Sends.{kicks}
use Rattle.laws.specs.Steps.{KicksHand}

lead : (s : State) (w : List Request) → ready_with s w ≡ true → (r : Request) × (rest : List Request) × (w ≡ r ∷ rest)
lead s [] t = absurd (both_ways false refl t)
lead s (r ∷ rest) t = (r, rest, refl)

first : (P : ℕ → Type 0) (js : List ℕ) → 0 < length js → AllByRecursion P js → (j : ℕ) × (head_of js ≡ Some j) × P j
first P [] h a = absurd (omega (arith, h))
first P (j ∷ js) h a = (j, refl, a.0)

pub kicks_hand_lem : KicksHand
kicks_hand_lem depth held s l k there some room =
    let all : AllByRecursion (λ j. (j < 8) × (ready s j ≡ true)) (ready_lanes s l) = AllByRecursion-sorted (λ j. distance l j ∷ j ∷ []) (λ j. (j < 8) × (ready s j ≡ true)) (filter (ready s) eight) (all_kept (ready s) (λ j. (j < 8) × (ready s j ≡ true)) eight (each (λ j. ready s j ≡ true → (j < 8) × (ready s j ≡ true)) (λ j b t. (b, t)))) in
    let near = first (λ j. (j < 8) × (ready s j ≡ true)) (ready_lanes s l) (some_ready s l k.shaped.0 k.timely some) all in
    let led = lead s (lane_at s near.0) near.2.1 in
    (near.0, near.2.0, led.0, led.1, led.2, kicks depth held s l near.0 led.0 led.1 there some room near.1 led.2)
