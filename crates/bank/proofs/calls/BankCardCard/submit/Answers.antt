use Rattle.std.proofs.Common.{◌+◌, get_or, set, Ok, Err, ◌∙◌, sym, arith}
use Rattle.card.specs.declared.CardFault.TheVariants.{HeldAlready}
use Rattle.bank.proofs.Bagged.{Sound}
use Rattle.bank.proofs.Submitting.{Submits, has_room, holds, takes}
use Rattle.bank.proofs.calls.BankCardCard.submit.Goals as goal
use Rattle.bank.proofs.calls.BankCardCard.submit.Goals.{Then-contains, In_ok-push, In_err-push}

held : (c : Then-contains) → Submits c.args.self.now.banks c.args.command (Err HeldAlready) (set c.args.self.now.banks c.bank_of.result (get_or c.args.self.now.banks c.bank_of.result c.index-self-bank_of.result))
held c =
    let q = c.args.self.now in
    holds q.banks q.count c.args.command c.bank_of.result c.index-self-bank_of.result record { four = q.four; counted = q.counted; placed = q.placed } (omega arith) c.bank_of.ensures (sym c.if-contains.true ∙ c.contains.ensures)

taken : (c : In_ok-push) → Submits c.args.self.now.banks c.args.command (Ok tt) (set c.args.self.now.banks c.bank_of.result c.push.new.self) × Sound (set c.args.self.now.banks c.bank_of.result c.push.new.self) (c.args.self.now.count + 1)
taken c =
    let q = c.args.self.now in
    takes q.banks q.count c.args.command c.bank_of.result c.index-self-bank_of.result record { four = q.four; counted = q.counted; placed = q.placed } (omega arith) c.bank_of.ensures c.push.new.self (sym c.if-contains.false ∙ c.contains.ensures) c.in_ok-push.ensures.1

-- the bank is never full
never : (c : In_err-push) → ⊥
never c =
    let q = c.args.self.now in
    let room = has_room q.banks q.count c.args.command c.bank_of.result c.index-self-bank_of.result record { four = q.four; counted = q.counted; placed = q.placed } (omega arith) c.bank_of.ensures in
    omega (arith, room, c.in_err-push.ensures.1)

pub returns-then-contains-clause-card : goal.returns-then-contains-clause-card
returns-then-contains-clause-card c = (held (goal.at.returns-then-contains-clause-card c).Then-contains).card

pub returns-then-contains-clause-answer : goal.returns-then-contains-clause-answer
returns-then-contains-clause-answer c = (held (goal.at.returns-then-contains-clause-answer c).Then-contains).answer

pub returns-then-contains-clause-banks : goal.returns-then-contains-clause-banks
returns-then-contains-clause-banks c = (held (goal.at.returns-then-contains-clause-banks c).Then-contains).left

pub returns-in_err-push-clause-card : goal.returns-in_err-push-clause-card
returns-in_err-push-clause-card c = absurd (never (goal.at.returns-in_err-push-clause-card c).In_err-push)

pub returns-in_err-push-clause-answer : goal.returns-in_err-push-clause-answer
returns-in_err-push-clause-answer c = absurd (never (goal.at.returns-in_err-push-clause-answer c).In_err-push)

pub returns-in_err-push-clause-banks : goal.returns-in_err-push-clause-banks
returns-in_err-push-clause-banks c = absurd (never (goal.at.returns-in_err-push-clause-banks c).In_err-push)

pub invariant_of-self-2 : goal.invariant_of-self-2
invariant_of-self-2 c = let s = (taken (goal.at.invariant_of-self-2 c).In_ok-push).1 in record { four = s.four; counted = s.counted; placed = s.placed; few = omega arith }

pub returns-clause-card : goal.returns-clause-card
returns-clause-card c = (taken (goal.at.returns-clause-card c).In_ok-push).0.card

pub returns-clause-answer : goal.returns-clause-answer
returns-clause-answer c = (taken (goal.at.returns-clause-answer c).In_ok-push).0.answer

pub returns-clause-banks : goal.returns-clause-banks
returns-clause-banks c = (taken (goal.at.returns-clause-banks c).In_ok-push).0.left
