-- The laws of std's `Ord`, of "at or before". Assumes nothing.
use Rattle.std.proofs.Common.{◌≡◌, Bool, true, false, sym, refl, ap, ◌∙◌}
use Rattle.std.specs.Cmp.{IsTotalOrder}
use Rattle.std.specs.Ordering.{is_eq, is_gt, is_le, ordering_reverse}
use Rattle.std.specs.declared.cmp.Ordering.{Ordering}
use Rattle.std.specs.declared.cmp.Ordering.TheVariants.{Less, Equal, Greater}
use Rattle.std.proofs.lemmas.Bool.{both_ways}
use Rattle.std.proofs.lemmas.Cmp.{upto as chains}
use Rattle.heap.specs.Order.{IsOrder, upto_by}

le_gt : (o : Ordering) → is_le o ≡ true → is_gt o ≡ false
le_gt Less e = refl
le_gt Equal e = refl
le_gt Greater e = sym e

gt_le : (o : Ordering) → is_gt o ≡ false → is_le o ≡ true
gt_le Less e = refl
gt_le Equal e = refl
gt_le Greater e = sym e

either : (o : Ordering) → is_le (ordering_reverse o) ≡ false → is_le o ≡ true
either Less e = refl
either Equal e = refl
either Greater e = absurd (both_ways true e refl)

alike : (o : Ordering) → is_le (ordering_reverse o) ≡ true → is_le o ≡ true → is_eq o ≡ true
alike Less p q = absurd (both_ways false refl p)
alike Equal p q = refl
alike Greater p q = absurd (both_ways false refl q)

module _ {X : Type 0} {cmp : X → X → Ordering} (laws : IsTotalOrder cmp) where
  pub total : (x y : X) → upto_by cmp x y ≡ false → upto_by cmp y x ≡ true
  total x y e = either (cmp y x) (ap is_le (sym (laws.antisymm x y)) ∙ e)

  pub transitive : (x y z : X) → upto_by cmp x y ≡ true → upto_by cmp y z ≡ true → upto_by cmp x z ≡ true
  transitive x y z p q = gt_le (cmp x z) (chains laws x y z (le_gt (cmp x y) p) (le_gt (cmp y z) q))

  pub is_order : (eq : X → X → Bool) → ((x y : X) → eq x y ≡ is_eq (cmp x y)) → IsOrder (upto_by cmp) (λ x y. eq x y ≡ true)
  is_order eq same = record { total = total; antisymmetric = λ x y p q. same x y ∙ (ap is_eq (laws.antisymm x y) ∙ alike-back x y p q); transitive = transitive }
    where
      alike-back : (x y : X) → upto_by cmp x y ≡ true → upto_by cmp y x ≡ true → is_eq (ordering_reverse (cmp y x)) ≡ true
      alike-back x y p q = reversed (cmp y x) (alike (cmp y x) (ap is_le (sym (laws.antisymm x y)) ∙ p) q)
        where
          reversed : (o : Ordering) → is_eq o ≡ true → is_eq (ordering_reverse o) ≡ true
          reversed Less e = e
          reversed Equal e = e
          reversed Greater e = e
