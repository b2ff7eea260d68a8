-- A flow that waits throughout a stretch: what is sent for it is what its place in virtual time has moved. Assumes nothing.
use Rattle.std.proofs.Common.{◌≡◌, ℕ, ◌+◌, ◌-◌, ◌*◌, ◌<◌, ◌≤◌, max, cond, eqb, List, [], ◌∷◌, ◌++◌, sum_by, sym, refl, ap, subst, ⊎_elim, mul-le-mul_right, arith}
use Rattle.std.specs.List.{AllByRecursion}
use Rattle.std.proofs.ByRecursion.{All-weaker, sum_by_le}
use Rattle.std.proofs.lemmas.List.{append-nil, append_assoc}
use Rattle.std.proofs.lemmas.List.Sums.{sum_by-cons}
use Rattle.std.proofs.lemmas.List.Sorted.{sum_by-IsPermutation}
use Rattle.std.proofs.lemmas.Bool.{cases_eq}
use Rattle.shares.specs.Events.{Sheet, Request, Event, loaded, arrived, sent, finished, nothing}
use Rattle.shares.specs.Steps.{Books, Step, Arrives, Sends, Finishes, Rests, Runs, stop, step}
use Rattle.shares.specs.Law.{NoLoad, Waits, WaitsThroughout, sent_for, finished_for}
use Rattle.shares.proofs.Sums.{own, other, gains, loses, sum_by_mono, sum_by_same, all_with}
use Rattle.shares.proofs.Sound.{Sound, Apt, own_charge, above_for}
use Rattle.shares.proofs.Known.{Known, known_step}

-- the charges of f that wait, and those in the card
abbrev W : ℕ → Books → ℕ
W f b = sum_by (own_charge f) b.waiting

abbrev C : ℕ → Books → ℕ
C f b = sum_by (own_charge f) b.card

if_own : (k f m n : ℕ) → m ≤ n → cond (eqb k f) m 0 ≤ cond (eqb k f) n 0
if_own k f m n h = ⊎_elim (λ e. omega (arith, h, own k f m e, own k f n e)) (λ d. omega (arith, other k f m d)) (cases_eq k f)

-- where f waits, its end tag less what waits lies at most T + cmax f above the virtual time
pub record Placed (s : Sheet) (f : ℕ) (b : Books) : Type 0 where
  pub waits : 0 < W f b
  pub low : b.time + W f b ≤ b.end f
  pub high : b.end f ≤ b.time + s.threshold + s.largest f + W f b

pub placed : {s : Sheet} {es : List Event} {b : Books} (f : ℕ) → Known s es b → Waits f es → Placed s f b
placed {s} {es} {b} f k w =
    let i = k.sound.queue in
    let x : ℕ = b.time + s.threshold + s.largest f in
    let one = sum_by_mono (λ r. cond (eqb r.flow f) 1 0) (own_charge f) b.waiting (All-weaker (Apt s) _ (λ r a. if_own r.flow f 1 r.charge a.some) b.waiting i.apt) in
    let some : 0 < W f b = omega (arith, w, one, k.sees.waiting (λ r. cond (eqb r.flow f) 1 0)) in
    let whole = sum_by_same (above_for f b.time) (own_charge f) b.waiting
    (all_with (λ r. b.time ≤ r.start) (Apt s) _ (λ r l a. ap (λ n. cond (eqb r.flow f) n 0) (omega (arith, l, a.ends))) b.waiting i.least i.apt) in
    let part = sum_by_mono (above_for f x) (own_charge f) b.waiting
    (All-weaker (Apt s) _ (λ r a. if_own r.flow f (r.end - max r.start x) r.charge (omega (arith, a.ends))) b.waiting i.apt) in
    record {
      waits = some;
      low = omega (arith, some, whole, i.low f b.time);
      high = omega (arith, part, i.high f x (omega arith));
    }

-- one step, and a stretch, in which n is sent and d is finished for f
pub record Moved (f : ℕ) (b : Books) (n d : ℕ) (b' : Books) : Type 0 where
  pub sent : n + W f b' + b.end f ≡ b'.end f + W f b
  pub finished : d + C f b' ≡ n + C f b

module _ {s : Sheet} {f : ℕ} {b b' : Books} (p : Placed s f b) where
  moved_arrived : (t : Sheet) (r : Request) → Arrives b t r b' → Moved f b 0 0 b'
  moved_arrived t r a =
      let sum = gains (own_charge f) r b.waiting b'.waiting a.waiting in
      record {
        sent = ⊎_elim
            (λ e. omega (arith, p.low, p.waits, sum, own r.flow f r.charge e, ap b.end e, ap b'.end e, a.tag, a.starts, a.ends))
            (λ n. omega (arith, sum, other r.flow f r.charge n, a.tags f (λ e. n (sym e))))
            (cases_eq r.flow f);
        finished = omega (arith, sum_by-IsPermutation (own_charge f) b.card b'.card a.card);
      }

  moved_sent : (t : Sheet) (r : Request) → Sends b t r b' → Moved f b (own_charge f r) 0 b'
  moved_sent t r a = record {
    sent = omega (arith, loses (own_charge f) r b.waiting b'.waiting a.waiting, a.tags f);
    finished = omega (arith, gains (own_charge f) r b.card b'.card a.card);
  }

  moved_finished : (r : Request) → Finishes b r b' → Moved f b 0 (own_charge f r) b'
  moved_finished r a = record {
    sent = omega (arith, sum_by-IsPermutation (own_charge f) b.waiting b'.waiting a.calm.waiting, a.tags f);
    finished = omega (arith, loses (own_charge f) r b.card b'.card a.card);
  }

  moved_nothing : Rests b b' → Moved f b 0 0 b'
  moved_nothing a = record {
    sent = omega (arith, sum_by-IsPermutation (own_charge f) b.waiting b'.waiting a.calm.waiting, a.tags f);
    finished = omega (arith, sum_by-IsPermutation (own_charge f) b.card b'.card a.card);
  }

  moved_step : (e : Event) → NoLoad e → Step b e b' → Moved f b (sent_for f e) (finished_for f e) b'
  moved_step (loaded t) n st = absurd n
  moved_step (arrived r) n st = moved_arrived st.0 r st.2
  moved_step (sent m) n st = subst (λ m. Moved f b (sent_for f (sent m)) 0 b') st.3 (moved_sent st.0 st.2 st.4)
  moved_step (finished m) n st = subst (λ m. Moved f b 0 (finished_for f (finished m)) b') st.3 (moved_finished st.2 st.4)
  moved_step nothing n st = moved_nothing st

pub known_runs : {s : Sheet} (es : List Event) {b b' : Books} {str : List Event} → Known s es b → AllByRecursion NoLoad str → Runs b str b' → Known s (es ++ str) b'
known_runs {s} es {b} k n stop = rw append-nil k
known_runs {s} es k n (step {b'' = b''} {e = e} {es = rest} st run) =
    subst (λ l. Known s l b'') (append_assoc es (e ∷ []) rest) (known_runs (es ++ (e ∷ [])) (known_step es e k n.0 st) n.1 run)

pub moved_runs : {s : Sheet} (f : ℕ) (es : List Event) {b b' : Books} {str : List Event} → Known s es b → AllByRecursion NoLoad str → WaitsThroughout f es str → Runs b str b'
    → Moved f b (sum_by (sent_for f) str) (sum_by (finished_for f) str) b'
moved_runs f es k n w stop = record { sent = omega arith; finished = refl }
moved_runs f es k n w (step {e = e} {es = rest} st run) =
    let here = rw append-nil at (w [] (e ∷ rest) refl) in
    let one = moved_step (placed f k here) e n.0 st in
    let all = moved_runs f (es ++ (e ∷ [])) (known_step es e k n.0 st) n.1
    (λ done left q. subst (Waits f) (sym (append_assoc es (e ∷ []) done)) (w (e ∷ done) left (ap (λ l. e ∷ l) q))) run in
    record {
      sent = omega (arith, one.sent, all.sent, sum_by-cons (sent_for f) e rest);
      finished = omega (arith, one.finished, all.finished, sum_by-cons (sent_for f) e rest, sum_by-cons (finished_for f) e rest);
    }

-- what a flow has in the card
pub in_card_lem : {s : Sheet} {b : Books} (f : ℕ) → Sound s b → C f b ≤ s.slots * s.largest f
in_card_lem {s} {b} f i =
    let each = All-weaker (Apt s) (λ r. own_charge f r ≤ s.largest f) (λ r a. ⊎_elim (λ e. omega (arith, own r.flow f r.charge e, ap s.largest e, a.most)) (λ n. omega (arith, other r.flow f r.charge n)) (cases_eq r.flow f)) b.card i.card in
    omega (arith, sum_by_le (own_charge f) (s.largest f) b.card each, mul-le-mul_right (s.largest f) i.room)
