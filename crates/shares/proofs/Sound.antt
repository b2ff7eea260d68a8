-- What holds of the books after each step under the sheet s. Assumes nothing.
use Rattle.std.proofs.Common.{◌≡◌, ℕ, ◌+◌, ◌-◌, ◌≤◌, max, cond, eqb, ◌∷◌, length, Some, sum_by, sym, refl, ap, ◌∙◌, ⊎_elim, arith}
use Rattle.std.specs.List.{AllByRecursion}
use Rattle.std.proofs.lemmas.List.Sorted.{sum_by-IsPermutation, length_permutation}
use Rattle.std.proofs.ByRecursion.{all_shuffled}
use Rattle.std.proofs.lemmas.Bool.{cases_eq}
use Rattle.shares.specs.Events.{Sheet, Request}
use Rattle.shares.specs.Steps.{Books, Calm, Loads, Arrives, Sends, Finishes, Rests}
use Rattle.shares.proofs.Sums.{own, other, gains, loses}

-- the charge of r, and how much of its interval lies above x, if it is of the flow f
abbrev pub own_charge : ℕ → Request → ℕ
own_charge f r = cond (eqb r.flow f) r.charge 0

abbrev pub above_for : ℕ → ℕ → Request → ℕ
above_for f x r = cond (eqb r.flow f) (r.end - max r.start x) 0

abbrev pub has_ticket : ℕ → Request → ℕ
has_ticket k r = cond (eqb r.ticket k) 1 0

-- how many have the ticket k
abbrev pub tickets : ℕ → Books → ℕ
tickets k b = sum_by (has_ticket k) b.waiting + sum_by (has_ticket k) b.card

pub record Apt (s : Sheet) (r : Request) : Type 0 where
  pub charge : r.charge ≡ s.charge r.flow r.sectors
  pub ends : r.end ≡ r.start + r.charge
  pub some : 1 ≤ r.charge
  pub most : r.charge ≤ s.largest r.flow

-- The intervals of f's waiting requests lie below its end tag and do not overlap (low). Above v + T + cmax f they leave no gap below it (high).
pub record Queue (s : Sheet) (b : Books) : Type 0 where
  pub low : (f x : ℕ) → sum_by (above_for f x) b.waiting ≤ b.end f - x
  pub high : (f x : ℕ) → b.time + s.threshold + s.largest f ≤ x → b.end f - x ≤ sum_by (above_for f x) b.waiting
  pub least : AllByRecursion (λ r. b.time ≤ r.start) b.waiting
  pub apt : AllByRecursion (Apt s) b.waiting

pub record Tickets (b : Books) : Type 0 where
  pub once : (k : ℕ) → tickets k b ≤ 1
  pub fresh : (k : ℕ) → b.count ≤ k → tickets k b ≡ 0

pub record Sound (s : Sheet) (b : Books) : Type 0 where
  pub sheet : b.sheet ≡ Some s
  pub queue : Queue s b
  pub card : AllByRecursion (Apt s) b.card
  pub room : length b.card ≤ s.slots
  pub tickets : Tickets b

queue_arrived : {s : Sheet} {b b' : Books} {r : Request} → Queue s b → Arrives b s r b' → Queue s b'
queue_arrived {s} {b} {b'} {r} i a = record {
  low = λ f x.
      let sum = gains (above_for f x) r b.waiting b'.waiting a.waiting in
      let was = i.low f x in
      ⊎_elim
      (λ e. omega (arith, sum, was, own r.flow f (r.end - max r.start x) e, ap b.end e, ap b'.end e, a.tag, a.starts, a.ends))
      (λ n. omega (arith, sum, was, other r.flow f (r.end - max r.start x) n, a.tags f (λ e. n (sym e))))
      (cases_eq r.flow f);
  high = λ f x h.
      let sum = gains (above_for f x) r b.waiting b'.waiting a.waiting in
      let was = i.high f x (omega (arith, h, a.clock.onward)) in
      ⊎_elim
      (λ e. omega (arith, h, sum, was, own r.flow f (r.end - max r.start x) e, ap b.end e, ap b'.end e, ap s.largest e, a.tag, a.starts, a.ends, a.most, a.clock.onward))
      (λ n. omega (arith, sum, was, other r.flow f (r.end - max r.start x) n, a.tags f (λ e. n (sym e))))
      (cases_eq r.flow f);
  least = a.clock.least;
  apt = all_shuffled (Apt s) (r ∷ b.waiting) b'.waiting a.waiting (record { charge = a.charge; ends = a.ends; some = a.some; most = a.most }, i.apt);
}

sent_apt : {s : Sheet} {b b' : Books} {r : Request} → Queue s b → Sends b s r b' → AllByRecursion (Apt s) (r ∷ b'.waiting)
sent_apt {s} {b} {b'} {r} i a = all_shuffled (Apt s) b.waiting (r ∷ b'.waiting) a.waiting i.apt

queue_sent : {s : Sheet} {b b' : Books} {r : Request} → Queue s b → Sends b s r b' → Queue s b'
queue_sent {s} {b} {b'} {r} i a =
    let apt = sent_apt i a in
    record {
      low = λ f x. omega (arith, loses (above_for f x) r b.waiting b'.waiting a.waiting, i.low f x, a.tags f);
      high = λ f x h.
          let sum = loses (above_for f x) r b.waiting b'.waiting a.waiting in
          let was = i.high f x (omega (arith, h, a.clock.onward)) in
          ⊎_elim
          (λ e. omega (arith, h, sum, was, own r.flow f (r.end - max r.start x) e, ap s.largest e, apt.0.ends, apt.0.most, a.near, a.tags f, a.clock.onward))
          (λ n. omega (arith, sum, was, other r.flow f (r.end - max r.start x) n, a.tags f))
          (cases_eq r.flow f);
      least = a.clock.least;
      apt = apt.1;
    }

queue_calm : {s : Sheet} {b b' : Books} → Queue s b → Calm b b' → ((f : ℕ) → b'.end f ≡ b.end f) → Queue s b'
queue_calm {s} {b} {b'} i a tags = record {
  low = λ f x. omega (arith, sum_by-IsPermutation (above_for f x) b.waiting b'.waiting a.waiting, i.low f x, tags f);
  high = λ f x h. omega (arith, sum_by-IsPermutation (above_for f x) b.waiting b'.waiting a.waiting, i.high f x (omega (arith, h, a.onward)), tags f);
  least = all_shuffled (λ r. b'.time ≤ r.start) b.waiting b'.waiting a.waiting (⊎_elim (λ e. rw e tt) (λ e. rw e i.least) a.still);
  apt = all_shuffled (Apt s) b.waiting b'.waiting a.waiting i.apt;
}

tickets_fewer : {b b' : Books} → Tickets b → ((k : ℕ) → tickets k b' ≤ tickets k b) → b'.count ≡ b.count → Tickets b'
tickets_fewer i h e = record {
  once = λ k. omega (arith, i.once k, h k);
  fresh = λ k l. omega (arith, i.fresh k (omega (arith, l, e)), h k);
}

pub sound_arrived : {s : Sheet} {b b' : Books} {r : Request} → Sound s b → Arrives b s r b' → Sound s b'
sound_arrived {s} {b} {b'} {r} i a =
    let more : (k : ℕ) → tickets k b' ≡ has_ticket k r + tickets k b = λ k.
    omega (arith, gains (has_ticket k) r b.waiting b'.waiting a.waiting, sum_by-IsPermutation (has_ticket k) b.card b'.card a.card) in
    record {
      sheet = a.sheet ∙ i.sheet;
      queue = queue_arrived i.queue a;
      card = all_shuffled (Apt s) b.card b'.card a.card i.card;
      room = omega (arith, length_permutation b.card b'.card a.card, i.room);
      tickets = record {
        once = λ k.
            ⊎_elim
            (λ e. omega (arith, more k, own r.ticket k 1 e, i.tickets.fresh k (omega (arith, a.ticket, e))))
            (λ n. omega (arith, more k, other r.ticket k 1 n, i.tickets.once k))
            (cases_eq r.ticket k);
        fresh = λ k h. omega (arith, more k, other r.ticket k 1 (λ e. omega (arith, e, h, a.ticket, a.count)), i.tickets.fresh k (omega (arith, h, a.count)));
      };
    }

pub sound_sent : {s : Sheet} {b b' : Books} {r : Request} → Sound s b → Sends b s r b' → Sound s b'
sound_sent {s} {b} {b'} {r} i a = record {
  sheet = a.sheet ∙ i.sheet;
  queue = queue_sent i.queue a;
  card = all_shuffled (Apt s) (r ∷ b.card) b'.card a.card ((sent_apt i.queue a).0, i.card);
  room = omega (arith, length_permutation (r ∷ b.card) b'.card a.card, a.room);
  tickets = tickets_fewer i.tickets (λ k. omega (arith, loses (has_ticket k) r b.waiting b'.waiting a.waiting, gains (has_ticket k) r b.card b'.card a.card)) a.count;
}

pub sound_finished : {s : Sheet} {b b' : Books} {r : Request} → Sound s b → Finishes b r b' → Sound s b'
sound_finished {s} {b} {b'} {r} i a = record {
  sheet = a.sheet ∙ i.sheet;
  queue = queue_calm i.queue a.calm a.tags;
  card = (all_shuffled (Apt s) b.card (r ∷ b'.card) a.card i.card).1;
  room = omega (arith, length_permutation b.card (r ∷ b'.card) a.card, i.room);
  tickets = tickets_fewer i.tickets (λ k. omega (arith, sum_by-IsPermutation (has_ticket k) b.waiting b'.waiting a.calm.waiting, loses (has_ticket k) r b.card b'.card a.card)) a.count;
}

pub sound_rests : {s : Sheet} {b b' : Books} → Sound s b → Rests b b' → Sound s b'
sound_rests {s} {b} {b'} i a = record {
  sheet = a.sheet ∙ i.sheet;
  queue = queue_calm i.queue a.calm a.tags;
  card = all_shuffled (Apt s) b.card b'.card a.card i.card;
  room = omega (arith, length_permutation b.card b'.card a.card, i.room);
  tickets = tickets_fewer i.tickets (λ k. omega (arith, sum_by-IsPermutation (has_ticket k) b.waiting b'.waiting a.calm.waiting, sum_by-IsPermutation (has_ticket k) b.card b'.card a.card)) a.count;
}

pub sound_loaded : {s : Sheet} {b b' : Books} → Loads b s b' → Sound s b'
sound_loaded {s} {b} {b'} a = record {
  sheet = a.sheet;
  queue = record {
    low = λ f x. rw a.waiting (omega arith);
    high = λ f x h. omega (arith, a.tags f);
    least = rw a.waiting tt;
    apt = rw a.waiting tt;
  };
  card = rw a.card tt;
  room = rw a.card (omega arith);
  tickets = record { once = λ k. rw (a.waiting, a.card) (omega arith); fresh = λ k h. rw (a.waiting, a.card) refl };
}
