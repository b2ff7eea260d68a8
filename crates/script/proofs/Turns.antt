-- From the lines of a script to what its text says. Assumes nothing.
use Rattle.std.proofs.Common.{◌≡◌, ℕ, ◌+◌, false, List, [], ◌++◌, map, IsErrAnd, Some, None, Ok, Err, vec_items, MatchOption, MatchResult, Option, Result, sym, refl, ap, ◌∙◌, subst, append-nil, arith}
use Rattle.std.specs.Option.{ok_or}
use Rattle.fly.specs.declared.call.Call.{Call}
use Rattle.script.specs.Lines.{is_blank, card_of}
use Rattle.script.specs.Scripts.{Deed, Adds, Says, Begins, CardSaid, Fails, Holds, IsScript, Turn, deed_of, fault, made, names, next_line, step_of, with_card}
use Rattle.script.specs.declared.fault.Expected.{Expected}
use Rattle.script.specs.declared.fault.Expected.TheVariants.{Card}
use Rattle.script.specs.declared.fault.NoScript.{NoScript}
use Rattle.script.specs.declared.fault.NoScript.TheVariants.{Fault}
use Rattle.script.specs.declared.fault.ScriptFault.{ScriptFault}
use Rattle.script.specs.declared.line.CardKind.{CardKind}
use Rattle.script.specs.declared.script.Script.{Script}
use Rattle.script.specs.declared.script.Step.{Step}

-- a value, or what was expected in its place at line k
abbrev pub placed : {A : Type 0} → ℕ → Result A Expected → Result A ScriptFault
placed k (Ok x) = Ok x
placed k (Err e) = Err (fault k e)

module _ {A : Type 0} (k : ℕ) where
  pub is_placed : (P : Expected → ScriptFault → Type 0) (q : Result A Expected) (r : Result A ScriptFault) → ((e : Expected) (f : ScriptFault) → P e f → f ≡ fault k e) → MatchResult q (λ x. r ≡ Ok x) (λ e. IsErrAnd r (P e)) → r ≡ placed k q
  is_placed P (Ok x) r all m = m
  is_placed P (Err e) (Ok x) all m = absurd m
  is_placed P (Err e) (Err f) all m = ap (λ g. Err g) (all e f m)

  pub placed_ok : (q : Result A Expected) (x : A) → placed k q ≡ Ok x → q ≡ Ok x
  placed_ok (Ok y) x e = let same : ◌≡◌ {A = A} y x = cc in ap (λ z. Ok z) same
  placed_ok (Err f) x e = let z : ◌≡◌ {A = ℕ} 0 1 = cc in absurd (omega arith)

  pub placed_err : (q : Result A Expected) (f : ScriptFault) → placed k q ≡ Err f → (e : Expected) × (q ≡ Err e) × (f ≡ fault k e)
  placed_err (Ok y) f e = let z : ◌≡◌ {A = ℕ} 0 1 = cc in absurd (omega arith)
  placed_err (Err g) f e = (g, refl, cc)

pub card_placed : (k : ℕ) (o : Option CardKind) → placed k (ok_or o Card) ≡ ok_or o (fault k Card)
card_placed k None = refl
card_placed k (Some c) = refl

-- what was taken where there was something, and where there was nothing
module _ {A E : Type 0} (d : E) (No : Type 0) (Yes : A → Type 0) where
  pub taken_none : (o : Option A) (e : E) → MatchOption o No Yes → ok_or o d ≡ Err e → No × (d ≡ e)
  taken_none None e m h = (m, cc)
  taken_none (Some x) e m h = let z : ◌≡◌ {A = ℕ} 0 1 = cc in absurd (omega arith)

  pub taken_some : (o : Option A) (x : A) → MatchOption o No Yes → ok_or o d ≡ Ok x → Yes x
  taken_some None x m h = let z : ◌≡◌ {A = ℕ} 0 1 = cc in absurd (omega arith)
  taken_some (Some y) x m h = let same : ◌≡◌ {A = A} y x = cc in subst Yes same m

pub err_only : {A E : Type 0} (r : Result A E) (f : E) (Good : A → Type 0) (P : E → Type 0) → IsErrAnd r (λ g. g ≡ f) → P f → MatchResult r Good P
err_only (Ok x) f Good P h p = absurd h
err_only (Err g) f Good P h p = subst P (sym h) p

-- the first line that is not blank
module _ (whole : List ℕ) (k₀ : ℕ) (bytes l rest : List ℕ) (k k' : ℕ) (on : (o : Result (CardKind × List Deed) ScriptFault) → Begins bytes k o → Begins whole k₀ o) (next : next_line bytes ≡ Some (l, rest)) (one : k' ≡ k + 1) (said : is_blank l ≡ false) where
  card_by : (o : Option CardKind) → card_of l ≡ o → CardSaid whole k₀ (ok_or o (fault k Card)) rest k'
  card_by None e = on (Err (fault k Card)) (Begins.wrong next said e)
  card_by (Some c) e = λ o says. on (with_card c o) (names next said e (subst (λ j. Says rest j o) one says))

  pub card_said : (r : Result CardKind ScriptFault) → r ≡ ok_or (card_of l) (fault k Card) → CardSaid whole k₀ r rest k'
  card_said r e = subst (λ (q : Result CardKind ScriptFault). CardSaid whole k₀ q rest k') (sym e) (card_by (card_of l) refl)

module _ (bytes : List ℕ) (k : ℕ) (bytes' : List ℕ) (k' : ℕ) (s s' : Script) where
  pub turn_fault : (r : Result Unit NoScript) (f : ScriptFault) → Says bytes k (Err f) → IsErrAnd r (λ e. e ≡ Fault f) → Turn bytes k bytes' k' s s' r
  turn_fault (Ok x) f p h = absurd h
  turn_fault (Err e) f p h = subst (λ e. Fails (λ f. Says bytes k (Err f)) e) (sym h) p

-- the whole text, when its end has come
pub ended : (text bytes : List ℕ) (k : ℕ) (card card' : CardKind) (deeds : List Deed) → bytes ≡ text → k ≡ 1 → card' ≡ card → Begins bytes k (Ok (card, deeds ++ [])) → IsScript text (Ok (card', deeds))
ended text bytes k card card' deeds e one same h =
    let at : Begins text 1 (Ok (card, deeds ++ [])) = subst (λ b. Begins b 1 (Ok (card, deeds ++ []))) e (subst (λ j. Begins bytes j (Ok (card, deeds ++ []))) one h) in
    subst (λ c. Begins text 1 (Ok (c, deeds))) (sym same) (subst (λ (ds : List Deed). Begins text 1 (Ok (card, ds))) (append-nil deeds) at)

pub holds_from : (start s : Script) (deeds : List Deed) → vec_items start.calls ≡ [] → vec_items start.steps ≡ [] → Adds start deeds s → Holds s deeds
holds_from start s deeds bare clear a = record { calls = a.calls ∙ ap (λ (cs : List Call). map deed_of cs ++ made deeds) bare; steps = a.steps ∙ ap (λ (ss : List Step). ss ++ map step_of deeds) clear }
