use Rattle.std.proofs.Common.{Some, None, ap, arith}
use Rattle.books.specs.Views.{state_of}
use Rattle.books.proofs.Changes.{out_counted, out_whole, out_state}
use Rattle.books.proofs.Removes.{kept_whole, removed_found, removed_without, removed_fewer, with_in_card}
use Rattle.books.proofs.books.Books.finish.Goals as goal

pub invariant_of-self : goal.invariant_of-self
invariant_of-self c = kept_whole c.args.self.now c.args.ticket c.remove.new.self c.in_err-request.ensures

pub returns-in_err-request : goal.returns-in_err-request
returns-in_err-request c =
    let b = c.args.self.now in
    let t = c.args.ticket in
    let out = c.in_err-request.ensures in
    let same = ap (with_in_card (state_of b)) out.0 in
    rw c.from_residual.ensures (record {
      answer = removed_found t (state_of b).in_card _ None (omega (arith, b.sound.once t)) out;
      fewer = same;
      state = ap (with_in_card (state_of b)) (removed_without t (state_of b).in_card _ None (omega (arith, b.sound.once t)) out);
    })

pub bounds-self-request : goal.bounds-self-request
bounds-self-request c = (out_counted c.args.self.now c.args.ticket c.in_ok-request.request c.remove.new.self c.in_ok-request.ensures).0

pub finish_one-requires : goal.finish_one-requires
finish_one-requires c = (out_counted c.args.self.now c.args.ticket c.in_ok-request.request c.remove.new.self c.in_ok-request.ensures).1

pub invariant_of-self-2 : goal.invariant_of-self-2
invariant_of-self-2 c = out_whole c.args.self.now c.args.ticket c.in_ok-request.request c.remove.new.self c.in_ok-request.ensures _ c.finish_one.ensures

pub returns : goal.returns
returns c =
    let b = c.args.self.now in
    let t = c.args.ticket in
    let out = c.in_ok-request.ensures in
    record {
      answer = removed_found t (state_of b).in_card _ (Some c.in_ok-request.request) (omega (arith, b.sound.once t)) out;
      fewer = removed_fewer (state_of b) t _ (Some c.in_ok-request.request) out;
      state = out_state b t c.in_ok-request.request c.remove.new.self out _ c.finish_one.ensures;
    }
