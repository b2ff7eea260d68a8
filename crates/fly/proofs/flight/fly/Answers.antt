use Rattle.std.proofs.Common.{vec_items, subst, rules}
use Rattle.std.proofs.lemmas.List.{take_all}
use Rattle.std.specs.List.{zip}
use Rattle.fly.specs.Flights.{Run, start}
use Rattle.fly.proofs.Promised.{promised}
use Rattle.fly.proofs.Runs.{run_more}
use Rattle.fly.proofs.flight.fly.Goals as goal

pub loop-call-init : goal.loop-call-init
loop-call-init g c = (search rules, search rules, search rules, start)

pub loop-call-preserved : goal.loop-call-preserved
loop-call-preserved g c =
    let pushed = c.push_reserved.ensures.items in (
      search rules,
      search rules,
      search rules,
      rw pushed (run_more _ _ _ _ _ _ _ _ _ c.loop-call-test.true (search rules) c.loop-call.invariant.0 c.loop-call.invariant.3 c.perform-answer.ensures),
    )

pub returns : goal.returns
returns g c =
    let all = take_all c.loop-call.call-index c.args.calls.now c.loop-call-test.false in
    let ran = subst (λ calls. Run g.C.Card c.new-board.result (zip calls (vec_items c.loop-call.answers)) c.loop-call.board) all c.loop-call.invariant.3 in
    promised g.C.Card c.new-board.ensures.0 c.args.card c.args.calls.now (vec_items c.loop-call.answers) c.loop-call.board c.new-board.ensures.1 (search rules) ran
