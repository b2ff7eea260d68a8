-- One submit to a bank card: the bank of the ticket decides, and takes the command.
use Rattle.std.proofs.Common.{◌≡◌, ℕ, ◌+◌, ◌%◌, ◌<◌, Bool, true, false, List, [], ◌∷◌, ◌++◌, length, get_or, set, Ok, Err, Result, sym, ap, ◌∙◌, subst, arith, length-set}
use Rattle.std.proofs.lemmas.List.{get_or_default, set-get_or}
use Rattle.card.specs.declared.Command.{Command}
use Rattle.card.specs.declared.CardFault.{CardFault}
use Rattle.card.specs.declared.CardFault.TheVariants.{HeldAlready}
use Rattle.card.specs.Commands.{among, Submitted}
use Rattle.card.proofs.Bags.{more_length, same_refl}
use Rattle.bank.specs.Jobs.{Job, fresh, commands_in, commands_all}
use Rattle.bank.specs.Rules.{put_in, submit_rule}
use Rattle.bank.proofs.Bagged.{Sound, among_placed, bank_le, more_put, placed_put, submit_held, submit_put}

-- what is promised of a submit that answers r and leaves the banks `after`
pub record Submits (banks : List (List Job)) (c : Command) (r : Result (Unit {0}) CardFault) (after : List (List Job)) : Type 0 where
  pub card : Submitted 32 (commands_all banks) c r (commands_all after)
  pub answer : r ≡ (submit_rule banks c).0
  pub left : after ≡ (submit_rule banks c).1

module _ (banks : List (List Job)) (count : ℕ) (c : Command) (b : ℕ) (d : List Job) (s : Sound banks count) (room : count < 32) (at : b ≡ c.ticket % 4) where
  here : get_or banks (c.ticket % 4) [] ≡ get_or banks b d
  here = get_or_default banks (c.ticket % 4) [] d (omega (arith, s.four)) ∙ ap (λ i. get_or banks i d) (sym at)

  decides : (r : Bool) → r ≡ among c.ticket (commands_in (get_or banks b d)) → among c.ticket (commands_all banks) ≡ r
  decides r is = among_placed c.ticket banks s.four s.placed ∙ ap (λ jobs. among c.ticket (commands_in jobs)) here ∙ sym is

  -- the bank of the ticket holds it
  pub holds : true ≡ among c.ticket (commands_in (get_or banks b d)) → Submits banks c (Err HeldAlready) (set banks b (get_or banks b d))
  holds is =
      let held = decides true is in
      let rule = submit_held banks c (omega (arith, s.counted)) held in
      let kept : banks ≡ set banks b (get_or banks b d) = sym (set-get_or banks b d) in
      subst (Submits banks c (Err HeldAlready)) kept
      (record { card = (omega (arith, s.counted), held, same_refl (commands_all banks)); answer = sym (ap (λ p. p.0) rule); left = sym (ap (λ p. p.1) rule) })

  pub has_room : length (get_or banks b d) < 32
  has_room = let most = bank_le banks (c.ticket % 4) in let same = ap length here in omega (arith, s.counted)

  -- it does not, and has `jobs` now
  pub takes : (jobs : List Job) → false ≡ among c.ticket (commands_in (get_or banks b d)) → jobs ≡ get_or banks b d ++ fresh c ∷ [] → Submits banks c (Ok tt) (set banks b jobs) × Sound (set banks b jobs) (count + 1)
  takes jobs is held =
      let put = put_in banks (c.ticket % 4) (fresh c) in
      let new = decides false is in
      let rule = submit_put banks c (omega (arith, s.counted)) new in
      let more = more_put banks (c.ticket % 4) c (omega (arith, s.four)) in
      let count' = more_length c (commands_all banks) (commands_all put) more in
      let is_put : set banks b jobs ≡ put = ap (λ i. set banks i jobs) at ∙ ap (set banks (c.ticket % 4)) (held ∙ ap (λ js. js ++ fresh c ∷ []) (sym here)) in
      subst (λ after. Submits banks c (Ok tt) after × Sound after (count + 1)) (sym is_put) (
        record { card = (omega (arith, s.counted), new, more); answer = sym (ap (λ p. p.0) rule); left = sym (ap (λ p. p.1) rule) },
        record { four = simp length-set s.four; counted = omega (arith, s.counted, count'); placed = placed_put banks c s.four s.placed },
      )
