use Rattle.books.specs.Views.{state_of}
use Rattle.books.proofs.Bits.{ready_bits_lem}
use Rattle.board.proofs.board.Board.ready_lanes.Goals as goal

pub returns : goal.returns
returns g c = ready_bits_lem (state_of c.args.self.now.books) c.ready-bits.result c.how_many.result c.ready-bits.type_inv c.ready-bits.ensures c.how_many.ensures
