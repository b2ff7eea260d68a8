use Rattle.std.proofs.Common.{◌≡◌, eqb, refl, subst, rules}
use Rattle.std.proofs.lemmas.Fn.{fold_over, slice_gives, fronts}
use Rattle.std.proofs.lemmas.List.Recursion.{or_push}
use Rattle.card.specs.Commands.{among}
use Rattle.ring.proofs.methods.seen.Goals as goal

pub returns : goal.returns
returns c =
    let t = c.args.ticket in
    subst (λ cs. c.fold.result ≡ among t cs) c.iter.ensures.rest
    (fold_over fronts (λ y. y.now) _ (λ ys r. r ≡ among t ys) _ (λ ys a x b f' j k. let more = or_push (among t) (λ d. eqb d.ticket t) refl (λ _ _. refl) ys x.now in search rules)
    _ _ _ _ (slice_gives c.iter.result) refl c.fold.ensures.ran)
