-- What holds after every run in which a sheet was loaded. Assumes nothing.
use Rattle.std.proofs.Common.{◌≡◌, ℕ, ◌⊎◌, List, [], ◌∷◌, ◌++◌, Some, None, Option, sym, refl, ap, ◌∙◌, subst, inl, inr, ⊎_elim, arith}
use Rattle.std.specs.List.Sorted.{IsPermutation}
use Rattle.std.proofs.lemmas.List.{append-nil, append_assoc}
use Rattle.std.proofs.lemmas.List.Sums.{fold_push}
use Rattle.std.proofs.lemmas.List.Sorted.{length_permutation}
use Rattle.shares.specs.Events.{Sheet, Request, mark, Event, loaded, arrived, sent, finished, nothing, seen, unseen, note}
use Rattle.shares.specs.Steps.{Books, Step, Loads, Arrives, Sends, Finishes, Rests, Runs, stop, step, New}
use Rattle.shares.specs.Law.{NoLoad}
use Rattle.shares.proofs.Sound.{Sound, sound_loaded, sound_arrived, sound_sent, sound_finished, sound_rests}
use Rattle.shares.proofs.Sees.{Sees, sees_loaded, sees_arrived, sees_sent, sees_finished, sees_nothing}

pub record Known (s : Sheet) (es : List Event) (b : Books) : Type 0 where
  pub sound : Sound s b
  pub sees : Sees (seen es) b

-- one event more
noted : (es : List Event) (e : Event) {b : Books} → Sees (note (seen es) e) b → Sees (seen (es ++ (e ∷ []))) b
noted es e {b} k = subst (λ t. Sees t b) (sym (fold_push note unseen es e)) k

same_sheet : {o : Option Sheet} {s t : Sheet} → o ≡ Some s → o ≡ Some t → s ≡ t
same_sheet p q = cc

module _ {s : Sheet} (es : List Event) {b b' : Books} (k : Known s es b) where
  now_arrived : (r : Request) → Arrives b s r b' → Known s (es ++ (arrived r ∷ [])) b'
  now_arrived r a = record {
    sound = sound_arrived k.sound a;
    sees = noted es (arrived r) (sees_arrived k.sound k.sees r a);
  }

  now_sent : (r : Request) → Sends b s r b' → Known s (es ++ (sent (mark r) ∷ [])) b'
  now_sent r a = record {
    sound = sound_sent k.sound a;
    sees = noted es (sent (mark r)) (sees_sent k.sound k.sees r a);
  }

  now_finished : (r : Request) → Finishes b r b' → Known s (es ++ (finished (mark r) ∷ [])) b'
  now_finished r a = record {
    sound = sound_finished k.sound a;
    sees = noted es (finished (mark r)) (sees_finished k.sound k.sees r a);
  }

  now_nothing : Rests b b' → Known s (es ++ (nothing ∷ [])) b'
  now_nothing a = record {
    sound = sound_rests k.sound a;
    sees = noted es nothing (sees_nothing k.sound k.sees a);
  }

now_loaded : {s : Sheet} (es : List Event) {b b' : Books} → Loads b s b' → Known s (es ++ (loaded s ∷ [])) b'
now_loaded {s} es a = record {
  sound = sound_loaded a;
  sees = noted es (loaded s) (sees_loaded (seen es) a);
}

pub known_step : {s : Sheet} (es : List Event) {b b' : Books} (e : Event) → Known s es b → NoLoad e → Step b e b' → Known s (es ++ (e ∷ [])) b'
known_step es (loaded s) k n st = absurd n
known_step es {b} {b'} (arrived r) k n st = now_arrived es k r (subst (λ s. Arrives b s r b') (same_sheet st.1 k.sound.sheet) st.2)
known_step {s} es {b} {b'} (sent m) k n st =
    subst (λ m. Known s (es ++ (sent m ∷ [])) b') st.3 (now_sent es k st.2 (subst (λ s. Sends b s st.2 b') (same_sheet st.1 k.sound.sheet) st.4))
known_step {s} es {b} {b'} (finished m) k n st = subst (λ m. Known s (es ++ (finished m ∷ [])) b') st.3 (now_finished es k st.2 st.4)
known_step es nothing k n st = now_nothing es k st

-- after any run: no sheet was loaded yet, or the above
abbrev pub Good : List Event → Books → Type 0
Good es b = (New b × ((seen es).sheet ≡ None)) ⊎ ((s : Sheet) × Known s es b)

none_left : {X : Type 0} (xs : List X) → IsPermutation [] xs → xs ≡ []
none_left [] h = refl
none_left (x ∷ xs) h = absurd (omega (arith, length_permutation [] (x ∷ xs) h))

not_new : {b : Books} {s : Sheet} → New b → b.sheet ≡ Some s → ⊥
not_new n h = let e = n.sheet in let z : ◌≡◌ {A = ℕ} 0 1 = cc in omega (arith, z)

new_rests : {b b' : Books} → New b → Rests b b' → New b'
new_rests {b} {b'} n a = record {
  sheet = a.sheet ∙ n.sheet;
  waiting = none_left b'.waiting (subst (λ l. IsPermutation l b'.waiting) n.waiting a.calm.waiting);
}

new_step : (es : List Event) {b b' : Books} (e : Event) → New b → (seen es).sheet ≡ None → Step b e b' → Good (es ++ (e ∷ [])) b'
new_step es (loaded s) n h st = inr (s, now_loaded es st)
new_step es (arrived r) n h st = absurd (not_new n st.1)
new_step es (sent m) n h st = absurd (not_new n st.1)
new_step es (finished m) n h st = absurd (not_new n st.1)
new_step es nothing n h st = inl (new_rests n st, ap (λ t. t.sheet) (fold_push note unseen es nothing) ∙ h)

later_step : {s : Sheet} (es : List Event) {b b' : Books} (e : Event) → Known s es b → Step b e b' → Good (es ++ (e ∷ [])) b'
later_step es (loaded s) k st = inr (s, now_loaded es st)
later_step {s} es (arrived r) k st = inr (s, known_step es (arrived r) k tt st)
later_step {s} es (sent m) k st = inr (s, known_step es (sent m) k tt st)
later_step {s} es (finished m) k st = inr (s, known_step es (finished m) k tt st)
later_step {s} es nothing k st = inr (s, known_step es nothing k tt st)

pub good_runs : (es : List Event) {b b' : Books} {str : List Event} → Good es b → Runs b str b' → Good (es ++ str) b'
good_runs es g stop = rw append-nil g
good_runs es {b} g (step {b' = b'} {b'' = b''} {e = e} {es = rest} st run) =
    let next : Good (es ++ (e ∷ [])) b' = ⊎_elim (λ n. new_step es e n.0 n.1 st) (λ k. later_step es e k.1 st) g in
    subst (λ l. Good l b'') (append_assoc es (e ∷ []) rest) (good_runs (es ++ (e ∷ [])) next run)

pub good_sheet : {es : List Event} {b : Books} → Good es b → (seen es).sheet ≡ b.sheet
good_sheet g = ⊎_elim (λ n. n.1 ∙ sym n.0.sheet) (λ k. k.1.sees.sheet) g

pub known_in_force : {s : Sheet} {es : List Event} {b : Books} → Good es b → b.sheet ≡ Some s → Known s es b
known_in_force {s} {es} {b} g h = ⊎_elim
    (λ n. absurd (not_new n.0 h))
    (λ k. subst (λ t. Known t es b) (same_sheet k.1.sound.sheet h) k.1)
    g
