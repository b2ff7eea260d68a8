-- A lane in order, from the heap's answers. Assumes nothing.
use Rattle.std.proofs.Common.{◌≡◌, Bool, true, false, cond, ltb, List, length, get_or, sym, ap, arith}
use Rattle.std.proofs.lemmas.Bool.{lt-ltb, le-ltb}
use Rattle.heap.specs.Fixed.{Enters}
use Rattle.heap.specs.Sorting.{insert, sorted}
use Rattle.heap.proofs.Queue.{entered_sorted}
use Rattle.heap.proofs.Sorting.{length-sorted}
use Rattle.lanes.specs.Records.{by_start, by_ticket}
use Rattle.lanes.specs.declared.records.Request.{Request}

-- a request is told by its numbers
pub told_by_start : (x y : Request) → by_start x ≡ by_start y → x ≡ y
told_by_start x y e = λ i. record { start = get_or (e i) 0 0; ticket = get_or (e i) 1 0; flow = get_or (e i) 2 0; sectors = get_or (e i) 3 0; charge = get_or (e i) 4 0 }

pub told_by_ticket : (x y : Request) → by_ticket x ≡ by_ticket y → x ≡ y
told_by_ticket x y e = λ i. record { start = get_or (e i) 1 0; ticket = get_or (e i) 0 0; flow = get_or (e i) 2 0; sectors = get_or (e i) 3 0; charge = get_or (e i) 4 0 }

pub record Entered (xs : List Request) (x : Request) (r : Bool) (ys : List Request) : Type 0 where
  pub answer : r ≡ ltb (length xs) 32
  pub after : ys ≡ cond r (insert by_start x xs) xs

pub entered : (xs ys : List Request) (x : Request) (r : Bool) → Enters 32 xs x r ys → Entered (sorted by_start xs) x r (sorted by_start ys)
entered xs ys x true h = record { answer = sym (lt-ltb _ 32 (omega (arith, length-sorted by_start xs, h.0))); after = entered_sorted by_start told_by_start x xs ys h.1 }
entered xs ys x false h = record { answer = sym (le-ltb _ 32 (omega (arith, length-sorted by_start xs, h.0))); after = ap (sorted by_start) h.1 }
