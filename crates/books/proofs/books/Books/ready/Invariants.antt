use Rattle.books.specs.Views.{state_of}
use Rattle.books.proofs.Ready.{Seen}
use Rattle.books.proofs.books.Books.ready.Given as goal

abbrev pub invariant-loop-k : goal.invariant-loop-k
invariant-loop-k l = Seen (state_of l.self) l.k l.bits
