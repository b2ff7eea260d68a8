-- The run of the limit, with both flows waiting throughout. Assumes nothing.
use Rattle.std.proofs.Common.{◌≡◌, ℕ, List, [], ◌∷◌, ◌++◌, length, get_or, take, drop, sym, refl, ap, subst, arith, lit<}
use Rattle.std.proofs.lemmas.List.{append-nil, append_assoc}
use Rattle.charge.specs.Charge.{charge_of, rounded_up}
use Rattle.shares.specs.Events.{Event, nothing}
use Rattle.shares.specs.Law.{Waits, WaitsThroughout}
use Rattle.worked.specs.Rehearsal.{new, events}
use Rattle.worked.specs.Limit.{before, stretch, LimitMet}

-- a flow that waits throughout, event by event
through_none : (f : ℕ) (pre : List Event) → Waits f pre → WaitsThroughout f pre []
through_none f pre w [] rest q = subst (Waits f) (sym (append-nil pre)) w
through_none f pre w (x ∷ done) rest q = absurd (omega (arith, ap length q))

through_more : (f : ℕ) (pre str : List Event) (e : Event) → Waits f pre → WaitsThroughout f (pre ++ (e ∷ [])) str → WaitsThroughout f pre (e ∷ str)
through_more f pre str e w h [] rest q = subst (Waits f) (sym (append-nil pre)) w
through_more f pre str e w h (x ∷ done) rest q =
    let same : x ≡ e = cc in
    let left : done ++ rest ≡ str = cc in
    subst (λ y. Waits f (pre ++ (y ∷ done))) (sym same) (subst (Waits f) (append_assoc pre (e ∷ []) done) (h done rest left))

abbrev all : List Event
all = events new (before ++ stretch)

abbrev at : ℕ → Event
at k = get_or all k nothing

waits : (f : ℕ) → Waits f (take 11 all) → Waits f (take 12 all) → Waits f (take 13 all) → Waits f (take 14 all) → Waits f (take 15 all) → WaitsThroughout f (take 11 all) (drop 11 all)
unfolding charge_of rounded_up
waits f w₀ w₁ w₂ w₃ w₄ =
    through_more f (take 11 all) (drop 12 all) (at 11) w₀
    (through_more f (take 12 all) (drop 13 all) (at 12) w₁
    (through_more f (take 13 all) (drop 14 all) (at 13) w₂
    (through_more f (take 14 all) [] (at 14) w₃
    (through_none f (take 15 all) w₄))))

pub limit_met : LimitMet
unfolding charge_of rounded_up
limit_met = record {
  pre = take 11 all;
  str = drop 11 all;
  told = refl;
  waits = record {
    sheet = refl;
    unloaded = (tt, (tt, (tt, (tt, tt))));
    waits_f = waits 0 (lit< tt) (lit< tt) (lit< tt) (lit< tt) (lit< tt);
    waits_g = waits 1 (lit< tt) (lit< tt) (lit< tt) (lit< tt) (lit< tt);
  };
  met = refl;
}
