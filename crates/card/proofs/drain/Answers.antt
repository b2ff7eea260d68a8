use Rattle.std.proofs.Common.{◌≡◌, ℕ, ◌+◌, ◌≤◌, Bool, true, false, cond, is_some, sym, ap, ◌∙◌, subst, arith}
use Rattle.card.specs.Asking.{Asked, start, again}
use Rattle.card.proofs.Bags.{finished_length}
use Rattle.card.proofs.drain.Goals as goal
use Rattle.card.proofs.drain.Goals.{then-is_some, else-is_some}

counted : (b : Bool) (k m : ℕ) → b ≡ true → m ≡ k + 1 → m ≡ k + cond b 1 0
counted b k m is more = more ∙ ap (λ v. k + cond v 1 0) (sym is)

passed : (b : Bool) (k m : ℕ) → b ≡ false → m ≡ k → m ≡ k + cond b 1 0
passed b k m is same = let e : m ≡ k + 0 = omega arith in e ∙ ap (λ v. k + cond v 1 0) (sym is)

one_more : (b : Bool) → cond {A = ℕ} b 1 0 ≤ 1
one_more true = omega arith
one_more false = omega arith

pub loop-turn-preserved : goal.loop-turn-preserved
loop-turn-preserved g c =
    let r = c.finish.result in
    let k = c.loop-turn.finished in
    let step = finished_length (g.C.Card.held c.loop-turn.card) r (g.C.Card.held c.finish.new.self) c.finish.ensures.one in
    let now : c.if-is_some.finished ≡ k + cond (is_some r) 1 0 = elim c.if-is_some.branch [ then-is_some w ↦ counted (is_some r) k c.if-is_some.finished (sym w.if-is_some.ensures) w.finished-is | else-is_some w ↦ passed (is_some r) k c.if-is_some.finished (sym w.if-is_some.ensures) w.finished-is ] in
    let most = one_more (is_some r) in
    let asked = again r c.finish.new.self c.loop-turn.invariant.1 c.finish.ensures.choice in
    (omega (arith, c.loop-turn.invariant.0), subst (λ m. Asked g.C.Card.finishes c.args.card.now (c.loop-turn._turn + 1) m c.finish.new.self) (sym now) asked, omega (arith, c.loop-turn.invariant.2))

pub loop-turn-init : goal.loop-turn-init
loop-turn-init g c = (omega arith, start, omega arith)
