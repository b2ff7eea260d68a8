-- Every run is fair. Assumes nothing.
use Rattle.std.proofs.Common.{◌≡◌, ℕ, ◌+◌, ◌≤◌, List, [], ◌∷◌, ◌++◌, Some, sum_by, sym, refl, ap, ◌∙◌, subst, inl, arith}
use Rattle.std.specs.List.{AllByRecursion}
use Rattle.std.specs.List.Sorted.{IsPermutation}
use Rattle.std.proofs.lemmas.List.{append-nil}
use Rattle.std.proofs.lemmas.List.Sorted.{IsPermutation-sym, IsPermutation-trans}
use Rattle.std.proofs.ByRecursion.{has_shuffled, all_shuffled}
use Rattle.shares.specs.Events.{Sheet, Request, Mark, mark, Event, arrived, sent, finished, seen}
use Rattle.shares.specs.Steps.{Books, Runs, step, New, Noted}
use Rattle.shares.specs.Law.{sent_for, finished_for, Waits, WaitsThroughout, Within, Stretch, sent_limit, finished_limit, Law, Names}
use Rattle.shares.proofs.Shuffles.{requests_from_sums}
use Rattle.shares.proofs.Sound.{Sound, Apt}
use Rattle.shares.proofs.Runs.{halves}
use Rattle.shares.proofs.Known.{Known, Good, good_runs, good_sheet, known_in_force}
use Rattle.shares.proofs.Travel.{Placed, placed, Moved, moved_runs, known_runs, in_card_lem}

-- both bounds one way, for a stretch from the books b to b' in which nf and ng are sent for f and g, and df and dg finished
module _ {s : Sheet} {f g : ℕ} {b b' : Books} {nf df ng dg : ℕ} (p : Moved f b nf df b') (q : Moved g b ng dg b') where
  close_sent : Placed s f b → Placed s f b' → Placed s g b → Placed s g b' → nf ≤ ng + (sent_limit s f g)
  close_sent f₀ f₁ g₀ g₁ = omega (arith, p.sent, q.sent, f₀.low, f₁.high, g₀.high, g₁.low)

  close_finished : Sound s b → Sound s b' → nf ≤ ng + (sent_limit s f g) → df ≤ dg + (finished_limit s f g)
  close_finished i i' h = omega (arith, h, p.finished, q.finished, in_card_lem f i, in_card_lem g i')

-- the two ends of a stretch
module _ {s : Sheet} {pre str : List Event} {b b' : Books} (k : Known s pre b) (run : Runs b str b') {f g : ℕ} (h : Stretch s pre str f g) where
  ends : Known s (pre ++ str) b'
  ends = known_runs pre k h.unloaded run

  at_start : (e : ℕ) → WaitsThroughout e pre str → Placed s e b
  at_start e w = placed e k (subst (Waits e) (append-nil pre) (w [] str refl))

  at_end : (e : ℕ) → WaitsThroughout e pre str → Placed s e b'
  at_end e w = placed e ends (w str [] (append-nil str))

  moves : (e : ℕ) → WaitsThroughout e pre str → Moved e b (sum_by (sent_for e) str) (sum_by (finished_for e) str) b'
  moves e w = moved_runs e pre k h.unloaded w run

  stretch_sent : Within (sum_by (sent_for f) str) (sum_by (sent_for g) str) (sent_limit s f g)
  stretch_sent =
      let p = moves f h.waits_f in
      let q = moves g h.waits_g in
      let f₀ = at_start f h.waits_f in
      let f₁ = at_end f h.waits_f in
      let g₀ = at_start g h.waits_g in
      let g₁ = at_end g h.waits_g in
      (close_sent p q f₀ f₁ g₀ g₁, omega (arith, close_sent q p g₀ g₁ f₀ f₁))

  stretch_finished : Within (sum_by (finished_for f) str) (sum_by (finished_for g) str) (finished_limit s f g)
  stretch_finished =
      let p = moves f h.waits_f in
      let q = moves g h.waits_g in
      let i = k.sound in
      let i' = ends.sound in
      (close_finished p q i i' stretch_sent.0, omega (arith, close_finished q p i i' (omega (arith, stretch_sent.1))))

-- the books by what was seen
same_waiting : {s : Sheet} {es : List Event} {b : Books} → Known s es b → IsPermutation (seen es).waiting b.waiting
same_waiting {s} {es} {b} k = requests_from_sums (seen es).waiting b.waiting k.sees.waiting

same_card : {s : Sheet} {es : List Event} {b : Books} → Known s es b → IsPermutation (seen es).unfinished b.card
same_card {s} {es} {b} k = requests_from_sums (seen es).unfinished b.card k.sees.card

-- r is named by its mark, where it left the list cs, which is that of the observer
named : {s : Sheet} {rs cs cs' : List Request} {r : Request} {m : Mark} → IsPermutation rs cs → IsPermutation cs (r ∷ cs') → AllByRecursion (Apt s) cs → mark r ≡ m → Names s rs m
named {s} {rs} {cs} {cs'} {r} {m} same out apt told =
    let all = IsPermutation-trans rs cs (r ∷ cs') same out in
    record {
      request = r;
      there = has_shuffled (r ∷ cs') rs r (IsPermutation-sym rs (r ∷ cs') all) (0, omega arith, λ d. refl);
      told = told;
      charge = ap (λ (n : Mark). n.charge) (sym told) ∙ (all_shuffled (Apt s) cs (r ∷ cs') out apt).0.charge;
    }

module _ {new b : Books} (n : New new) where
  -- the books at a point of the run
  point : (pre post es : List Event) → pre ++ post ≡ es → Runs new es b → (c : Books) × Good pre c × Runs c post b
  point pre post es e run =
      let h = halves pre post (subst (λ l. Runs new l b) (sym e) run) in
      (h.0, good_runs [] (inl (n, refl)) h.1, h.2)

  at_arrived : (pre post : List Event) (r : Request) {c : Books} → Good pre c → Runs c (arrived r ∷ post) b → r.ticket ≡ (seen pre).count
  at_arrived pre post r g (step st run) = let k = known_in_force g st.1 in st.2.ticket ∙ sym k.sees.count

  at_sent : (pre post : List Event) (m : Mark) {c : Books} → Good pre c → Runs c (sent m ∷ post) b → (s : Sheet) × ((seen pre).sheet ≡ Some s) × Names s (seen pre).waiting m
  at_sent pre post m {c} g (step st run) =
      let k = known_in_force g st.1 in
      (st.0, good_sheet g ∙ st.1, named (same_waiting k) st.4.waiting k.sound.queue.apt st.3)

  at_finished : (pre post : List Event) (m : Mark) {c : Books} → Good pre c → Runs c (finished m ∷ post) b → (s : Sheet) × ((seen pre).sheet ≡ Some s) × Names s (seen pre).unfinished m
  at_finished pre post m {c} g (step st run) =
      let k = known_in_force g st.1 in
      (st.0, good_sheet g ∙ st.1, named (same_card k) st.4.card k.sound.card st.3)

  pub law : (es : List Event) → Runs new es b → Law es
  law es run = record {
    sent_alike = λ pre str post s f g e h.
        let p = point pre (str ++ post) es e run in
        stretch_sent (known_in_force p.1 (sym (good_sheet p.1) ∙ h.sheet)) (halves str post p.2).1 h;
    finished_alike = λ pre str post s f g e h.
        let p = point pre (str ++ post) es e run in
        stretch_finished (known_in_force p.1 (sym (good_sheet p.1) ∙ h.sheet)) (halves str post p.2).1 h;
    tickets = λ pre post r e. let p = point pre (arrived r ∷ post) es e run in at_arrived pre post r p.1 p.2;
    sends = λ pre post m e. let p = point pre (sent m ∷ post) es e run in at_sent pre post m p.1 p.2;
    finishes = λ pre post m e. let p = point pre (finished m ∷ post) es e run in at_finished pre post m p.1 p.2;
  }

  pub noted : (es : List Event) → Runs new es b → Noted es b
  noted es run =
      let end : Good es b = good_runs [] (inl (n, refl)) run in
      record {
        sheet = good_sheet end;
        waiting = λ s h. same_waiting (known_in_force end h);
        card = λ s h. same_card (known_in_force end h);
        room = λ s h. (known_in_force end h).sound.room;
      }
