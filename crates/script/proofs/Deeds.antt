-- Deeds, one after the other. Assumes nothing.
use Rattle.std.proofs.Common.{◌≡◌, List, [], ◌∷◌, ◌++◌, map, Ok, Err, vec_items, Result, sym, refl, ap, ◌∙◌, append_assoc, append-nil}
use Rattle.std.proofs.lemmas.List.{map-append}
use Rattle.script.specs.Scripts.{Deed, loads, asks, refuses, deed_of, step_of, made, after, Adds}
use Rattle.script.specs.declared.fault.ScriptFault.{ScriptFault}
use Rattle.script.specs.declared.script.Script.{Script}

pub made-append : (xs ys : List Deed) → made (xs ++ ys) ≡ made xs ++ made ys
made-append [] ys = refl
made-append (loads s ∷ xs) ys = ap (λ ds. loads s ∷ ds) (made-append xs ys)
made-append (asks c ∷ xs) ys = ap (λ ds. asks c ∷ ds) (made-append xs ys)
made-append (refuses f ∷ xs) ys = made-append xs ys

pub adds_none : (s : Script) → Adds s [] s
adds_none s = record { card = refl; calls = sym (append-nil _); steps = sym (append-nil _) }

pub adds_more : {s t u : Script} (xs ys : List Deed) → Adds s xs t → Adds t ys u → Adds s (xs ++ ys) u
adds_more {s} {t} {u} xs ys a b = record {
  card = b.card ∙ a.card;
  calls = b.calls ∙ ap (λ ds. ds ++ made ys) a.calls ∙ append_assoc (map deed_of (vec_items s.calls)) (made xs) (made ys) ∙ ap (λ ds. map deed_of (vec_items s.calls) ++ ds) (sym (made-append xs ys));
  steps = b.steps ∙ ap (λ ss. ss ++ map step_of ys) a.steps ∙ append_assoc (vec_items s.steps) (map step_of xs) (map step_of ys) ∙ ap (λ ss. vec_items s.steps ++ ss) (sym (map-append step_of xs ys));
}

pub after_more : (xs ys : List Deed) (o : Result (List Deed) ScriptFault) → after xs (after ys o) ≡ after (xs ++ ys) o
after_more xs ys (Ok zs) = ap (λ ds. Ok ds) (sym (append_assoc xs ys zs))
after_more xs ys (Err f) = refl

pub after_none : (o : Result (List Deed) ScriptFault) → after [] o ≡ o
after_none (Ok zs) = refl
after_none (Err f) = refl
