use Rattle.std.proofs.Common.{◌-◌, set, sym, subst, arith}
use Rattle.bank.proofs.Bagged.{Sound}
use Rattle.bank.proofs.Finishing.{Finishes, sound_lowered, finds_none, some_counted, finds_one}
use Rattle.bank.proofs.calls.BankCardCard.finish.Goals as goal
use Rattle.bank.proofs.calls.BankCardCard.finish.Goals.{After-ready_bank, After-from_residual, After-pop}

low : (c : After-ready_bank) → Sound c.lower.new.banks c.args.self.now.count
low c = let q = c.args.self.now in sound_lowered q.banks c.lower.new.banks q.count record { four = q.four; counted = q.counted; placed = q.placed } c.lower.ensures

none : (c : After-from_residual) → Finishes c.args.self.now.banks c.from_residual.result c.lower.new.banks
none c =
    let after = c.lower.new.banks in
    subst (λ r. Finishes c.args.self.now.banks r after) (sym c.from_residual.ensures) (finds_none c.args.self.now.banks after c.lower.ensures c.in_err-first.ensures.first)

one : (c : After-pop) → Finishes c.args.self.now.banks c.pop.result (set c.lower.new.banks c.in_ok-first.first c.pop.new.self) × Sound (set c.lower.new.banks c.in_ok-first.first c.pop.new.self) (c.args.self.now.count - 1)
one c =
    let q = c.args.self.now in
    finds_one q.banks c.lower.new.banks q.count c.in_ok-first.first c.index-banks-first.result c.pop.result c.pop.new.self c.lower.ensures (low (goal.at.invariant_of-self-2 c).After-ready_bank) c.in_ok-first.ensures.first c.pop.ensures.oldest c.pop.ensures.rest

pub invariant_of-self : goal.invariant_of-self
invariant_of-self c = let s = low (goal.at.invariant_of-self c).After-ready_bank in record { four = s.four; counted = s.counted; placed = s.placed; few = c.args.self.now.few }

pub returns-in_err-first-clause-one : goal.returns-in_err-first-clause-one
returns-in_err-first-clause-one c = (none c).one

pub overflow_sub-self : goal.overflow_sub-self
overflow_sub-self c = some_counted c.lower.new.banks c.args.self.now.count c.in_ok-first.first (low (goal.at.overflow_sub-self c).After-ready_bank) c.in_ok-first.ensures.first

pub invariant_of-self-2 : goal.invariant_of-self-2
invariant_of-self-2 c = let s = (one c).1 in record { four = s.four; counted = s.counted; placed = s.placed; few = omega (arith, c.args.self.now.few) }

pub returns-clause-one : goal.returns-clause-one
returns-clause-one c = (one (goal.at.returns-clause-one c).After-pop).0.one

pub returns-clause-answer : goal.returns-clause-answer
returns-clause-answer c = (one (goal.at.returns-clause-answer c).After-pop).0.answer
