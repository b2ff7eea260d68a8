use Rattle.std.proofs.Common.{rules, ℕ, List, Option, Some, None, Result, Ok, Err, is_ok, true, IfSome, OnOk, refl, sym, ap, subst₂, ◌∙◌, ◌++◌, ◌≡◌}
use Rattle.std.proofs.KnownBytes.{Appends-of_writes}
use Rattle.report.proofs.answer.put_line.Goals as goal

if_ok : {X Y : Type 0} (r : Result X Y) (P : Type 0) → (is_ok r ≡ true → P) → OnOk r P
if_ok (Ok x) P f = f refl
if_ok (Err y) P f = tt

if_some : (o : Option (List ℕ)) (P Q : List ℕ → Type 0) → ((bs : List ℕ) → P bs → Q bs) → IfSome o P → IfSome o Q
if_some None P Q k x = tt
if_some (Some a) P Q k x = k a x

-- each call that the formatter made appended its text to the same bytes
pub returns : goal.returns
returns g c =
    let given = c.new-f.ensures.writer in
    let back = c.into_inner-inner.ensures in
    if_ok c.map_err.result _ (λ ok. if_some (g.D.Display.output c.args.line) _ _
    (λ bs k.
    let (same, appended) = Appends-of_writes (λ s. s.0.ghost_name) (λ s. Some s.0.now.items) _ bs _ (k c.new-f.ensures.plain (sym c.map_err.ensures.variant ∙ ok)).wrote in
    let name = ap (λ s. s.0.ghost_name) back ∙ same ∙ ap (λ s. s.0.ghost_name) given in
    let bytes = subst₂ (λ s t. t.0.now.items ≡ s.0.now.items ++ bs) given (sym back) appended in
    search rules)
    c.write-written.ensures.writes)
