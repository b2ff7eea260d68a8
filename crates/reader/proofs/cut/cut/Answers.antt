use Rattle.std.proofs.Common.{eqb, [], rules, refl, ap, ◌∙◌, ◌+◌, length, arith}
use Rattle.std.specs.Option.{option_map}
use Rattle.std.proofs.lemmas.Iterator.Consumers.{YieldsList-turn}
use Rattle.std.proofs.lemmas.Iterator.Splits.{YieldsList-from_slice_split}
use Rattle.std.proofs.lemmas.List.{take_rest}
use borrow.Author.Tests.{tests}
use Rattle.reader.proofs.Steps.{left_is, cut_missing, cut_found}
use Rattle.reader.proofs.cut.cut.Goals as goal

pub returns-in_err-get : goal.returns-in_err-get
returns-in_err-get c =
    let first = YieldsList-turn (YieldsList-from_slice_split _ (λ x. eqb x c.args.mark) c.args.s.now (cc) (cc) c.split.ensures.closure (λ x b q k. search (rules, tests))) [] c.split.result refl c.next.result c.next.new.self c.in_ok-left.left c.in_ok-left.was c.next.ensures.steps in
    ap (option_map (λ p. (p.0.now, p.1.now))) c.from_residual-in_err-get.ensures
    ∙ cut_missing c.args.mark c.args.s.now _ (left_is c.args.mark c.args.s.now _ first.1) (omega (arith, c.in_err-get.ensures.lookup))

pub returns : goal.returns
returns c =
    let first = YieldsList-turn (YieldsList-from_slice_split _ (λ x. eqb x c.args.mark) c.args.s.now (cc) (cc) c.split.ensures.closure (λ x b q k. search (rules, tests))) [] c.split.result refl c.next.result c.next.new.self c.in_ok-left.left c.in_ok-left.was c.next.ensures.steps in
    cut_found c.args.mark c.args.s.now _ _ (left_is c.args.mark c.args.s.now _ first.1) (omega (arith, c.in_ok-get.ensures.lookup)) (c.in_ok-get.ensures.lookup.0.2 ∙ take_rest c.args.s.now (length c.in_ok-left.left.now + 1))
