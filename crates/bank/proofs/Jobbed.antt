-- The jobs of one bank, from its commands and the work left on the oldest.
use Rattle.std.proofs.Common.{◌≡◌, ℕ, suc, Bool, true, false, cond, ltb, List, [], ◌∷◌, ◌++◌, map, length, refl, ap, arith}
use Rattle.std.proofs.lemmas.List.{length-map, map_push}
use Rattle.card.specs.declared.Command.{Command}
use Rattle.bank.specs.Jobs.{job, jobs_from, work_of, fresh, commands_in}

commands_fresh : (cs : List Command) → commands_in (map fresh cs) ≡ cs
commands_fresh [] = refl
commands_fresh (c ∷ cs) = ap (λ xs. c ∷ xs) (commands_fresh cs)

pub commands_jobs : (left : ℕ) (cs : List Command) → commands_in (jobs_from left cs) ≡ cs
commands_jobs left [] = refl
commands_jobs left (c ∷ cs) = ap (λ xs. c ∷ xs) (commands_fresh cs)

pub length_jobs : (left : ℕ) (cs : List Command) → length (jobs_from left cs) ≡ length cs
length_jobs left [] = refl
length_jobs left (c ∷ cs) = ap suc (length-map cs fresh)

-- a command behind the others: it is the oldest itself where there was none
pub jobs_push : (left left' : ℕ) (cs cs' : List Command) (c : Command) (r : Bool) → r ≡ ltb (length cs) 32 → cs' ≡ cond r (cs ++ c ∷ []) cs → (length cs ≡ 0 → left' ≡ work_of c.sectors) → ((length cs ≡ 0 → ⊥) → left' ≡ left) → jobs_from left' cs' ≡ cond r (jobs_from left cs ++ fresh c ∷ []) (jobs_from left cs)
jobs_push left left' [] cs' c r room held none some = rw (held, room, none refl)
jobs_push left left' (x ∷ cs) cs' c true room held none some = rw (held, some (λ e. omega arith)) (ap (λ js. job x left ∷ js) (map_push fresh cs c))
jobs_push left left' (x ∷ cs) cs' c false room held none some = rw (held, some (λ e. omega arith))
