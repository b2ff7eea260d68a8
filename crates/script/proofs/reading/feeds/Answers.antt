use Rattle.std.proofs.Common.{◌∙◌, sym, rules, tests, arith}
use Rattle.std.proofs.lemmas.Iterator.{YieldsList-from_slice, YieldsList-from_map}
use Rattle.std.proofs.lemmas.Iterator.Consumers.{sum_by_from_yields_List, fits_by_from_yields_list}
use Rattle.script.proofs.Steps.{feed, feeds_summed, few_feeds}
use Rattle.script.proofs.reading.feeds.Goals as goal

pub sum-requires-clause-fits : goal.sum-requires-clause-fits
sum-requires-clause-fits c =
    fits_by_from_yields_list feed c.args.text.now c.map.result _ (YieldsList-from_map _ feed (YieldsList-from_slice c.args.text.now cc) c.map.ensures.closure (λ x r q k. search (rules, tests))) (omega (arith, feeds_summed c.args.text.now, few_feeds c.args.text.now))

pub returns-clause-value : goal.returns-clause-value
returns-clause-value c =
    sum_by_from_yields_List feed c.args.text.now c.map.result _ c.sum.ensures.ran (YieldsList-from_map _ feed (YieldsList-from_slice c.args.text.now cc) c.map.ensures.closure (λ x r q k. search (rules, tests))) ∙ sym (feeds_summed c.args.text.now)

pub returns-clause-bound : goal.returns-clause-bound
returns-clause-bound c = omega (arith, returns-clause-value c, few_feeds c.args.text.now)
