-- What the rule of an arrival gives, and that it keeps the books sound. Assumes nothing.
use Rattle.std.proofs.Common.{◌≡◌, ℕ, ◌+◌, ◌-◌, ◌<◌, ◌≤◌, cond, ◌||◌, eqb, ltb, leb, List, [], length, get_or, set, Ok, Err, Result, sym, ap, ◌∙◌, subst, ⊎_elim, arith}
use Rattle.std.proofs.lemmas.List.{length-set, get_or-set_same, get_or-set_other}
use Rattle.std.proofs.lemmas.Bool.{cond-true, cond-false, lt-leb, le-leb, ne_eqb, eq-eqb, le-ltb, or_from, cases_eq}
use Rattle.heap.specs.Sorting.{insert}
use Rattle.heap.proofs.Sorting.{length-insert}
use Rattle.lanes.specs.Lanes.{starts}
use Rattle.books.specs.Model.{State, Arrival, Meets, most, flow_at, lane_at, time_of, tagged, entered, arrive_rule}
use Rattle.lanes.specs.Records.{by_start, ticket_is}
use Rattle.books.specs.Model.{waiting}
use Rattle.books.specs.Sound.{highest, Shaped, Started, Sound}
use Rattle.books.specs.declared.refusal.Refusal.{Refusal}
use Rattle.books.specs.declared.refusal.Refusal.TheVariants.{LaneFull, NoTicket}
use Rattle.lanes.specs.declared.records.Request.{Request}
use Rattle.books.proofs.Sums.{waiting_mono, waiting_more, least_high, least_again}

-- flow, lane and length are right
pub record Right (s : State) (f l n : ℕ) : Type 0 where
  pub flow : f < length s.sheet.flows
  pub lane : l < length s.sheet.lanes
  pub some : 0 < n
  pub most : n ≤ (flow_at s f).longest

-- the ways that are left then
abbrev rest : State → ℕ → ℕ → ℕ → Result Arrival Refusal × State
rest s f l n =
    cond (leb (get_or s.sheet.lanes l 0) (length (lane_at s l))) (Err LaneFull, s)
    (cond (leb most s.arrivals) (Err NoTicket, s)
    (let r = tagged s f n in (Ok (r.ticket, (r.start, r.start + r.charge)), entered s l r)))

right : (s : State) (f l n : ℕ) → Right s f l n → arrive_rule s f l n ≡ rest s f l n
right s f l n h =
    cond-false (leb (length s.sheet.flows) f) _ _ (lt-leb _ _ h.flow)
    ∙ cond-false (leb (length s.sheet.lanes) l) _ _ (lt-leb _ _ h.lane)
    ∙ cond-false (eqb n 0 || ltb (flow_at s f).longest n) _ _ (or_from (eqb n 0) (ltb (flow_at s f).longest n) (ne_eqb n 0 (λ e. omega (arith, e, h.some))) (le-ltb _ _ h.most))

meets : {A : Type 0} (a : A) (s s' : State) (v : A × State) → v ≡ (a, s) → s' ≡ s → Meets a s' v
meets {A} a s s' v e p = (ap (λ (x : A × State). x.0) (sym e), p ∙ ap (λ (x : A × State). x.1) (sym e))

pub full : (s s' : State) (f l n : ℕ) → Right s f l n → get_or s.sheet.lanes l 0 ≤ length (lane_at s l) → s' ≡ s → Meets {A = Result Arrival Refusal} (Err LaneFull) s' (arrive_rule s f l n)
full s s' f l n h c p = meets (Err LaneFull) s s' (arrive_rule s f l n) (right s f l n h ∙ cond-true (leb (get_or s.sheet.lanes l 0) (length (lane_at s l))) _ _ (le-leb _ _ c)) p

pub spent : (s s' : State) (f l n : ℕ) → Right s f l n → length (lane_at s l) < get_or s.sheet.lanes l 0 → most ≤ s.arrivals → s' ≡ s → Meets {A = Result Arrival Refusal} (Err NoTicket) s' (arrive_rule s f l n)
spent s s' f l n h c t p =
    meets (Err NoTicket) s s' (arrive_rule s f l n)
    (right s f l n h ∙ cond-false (leb (get_or s.sheet.lanes l 0) (length (lane_at s l))) _ _ (lt-leb _ _ c) ∙ cond-true (leb most s.arrivals) _ _ (le-leb most s.arrivals t)) p

-- an arrival that is accepted, and what is then in the books
pub record Entry (s : State) (f l n : ℕ) (r : Request) (e time' : ℕ) (ends' : List ℕ) (lanes' : List (List Request)) : Type 0 where
  pub right : Right s f l n
  pub room : length (lane_at s l) < get_or s.sheet.lanes l 0
  pub few : s.arrivals < most
  pub request : r ≡ tagged s f n
  pub end : e ≡ r.start + r.charge
  pub time : time' ≡ time_of s lanes'
  pub ends : ends' ≡ set s.ends f e
  pub lanes : lanes' ≡ set s.lanes l (insert by_start r (lane_at s l))

module _ {s : State} {f l n : ℕ} {r : Request} {e time' : ℕ} {ends' : List ℕ} {lanes' : List (List Request)} (h : Entry s f l n r e time' ends' lanes') where
  after : State
  after = record { sheet = s.sheet; time = time'; ends = ends'; lanes = lanes'; in_card = s.in_card; arrivals = s.arrivals + 1 }

  lanes_are : lanes' ≡ set s.lanes l (insert by_start (tagged s f n) (lane_at s l))
  lanes_are = h.lanes ∙ ap (λ q. set s.lanes l (insert by_start q (lane_at s l))) h.request

  end_is : e ≡ (tagged s f n).start + (tagged s f n).charge
  end_is = h.end ∙ ap (λ (q : Request). q.start + q.charge) h.request

  after_is : after ≡ entered s l (tagged s f n)
  unfolding after
  after_is = λ i. record { sheet = s.sheet; time = (h.time ∙ ap (time_of s) lanes_are) i; ends = (h.ends ∙ ap (set s.ends f) end_is) i; lanes = lanes_are i; in_card = s.in_card; arrivals = s.arrivals + 1 }

  pub enters : Meets {A = Result Arrival Refusal} (Ok (s.arrivals, (r.start, e))) (record { sheet = s.sheet; time = time'; ends = ends'; lanes = lanes'; in_card = s.in_card; arrivals = s.arrivals + 1 }) (arrive_rule s f l n)
  unfolding after
  enters =
      let q = tagged s f n in
      let v = right s f l n h.right ∙ cond-false (leb (get_or s.sheet.lanes l 0) (length (lane_at s l))) _ _ (lt-leb _ _ h.room) ∙ cond-false (leb most s.arrivals) _ _ (lt-leb most s.arrivals h.few) in
      let m = meets (Ok (q.ticket, (q.start, q.start + q.charge))) (entered s l q) after (arrive_rule s f l n) v after_is in
      let said : ◌≡◌ {A = Result Arrival Refusal} (Ok (s.arrivals, (r.start, e))) (Ok (q.ticket, (q.start, q.start + q.charge))) = λ j. Ok (s.arrivals, ((h.request j).start, end_is j)) in
      (said ∙ m.0, m.1)

  -- what an arrival adds to a sum
  gains : (g : Request → ℕ) → Shaped s → l < 8 → waiting g (entered s l (tagged s f n)).lanes ≡ g (tagged s f n) + waiting g s.lanes
  gains g p b = waiting_more g s.lanes l (tagged s f n) (omega (arith, p.0, b))

  entered_sound : Sound s → f < 16 → l < 8 → (tagged s f n).charge ≤ 1720320 → Sound (entered s l (tagged s f n))
  entered_sound k f16 l8 small =
      let q = tagged s f n in
      let s' = entered s l q in
      let low : q.start ≤ highest s = omega (arith, k.timed, k.tagged f) in
      let more = highest s' in
      let started' : Started s' = omega (arith, gains (λ (x : Request). x.start - more) k.shaped l8, waiting_mono (λ (x : Request). x.start - more) (λ (x : Request). x.start - highest s) s.lanes (λ x. omega arith), k.started, low) in
      record {
        shaped = (length-set s.lanes l _ ∙ k.shaped.0, length-set s.ends f _ ∙ k.shaped.1);
        few = omega (arith, h.few);
        timed = least_high more s.time s'.lanes (omega (arith, k.timed)) started';
        tagged =
            λ j. ⊎_elim
            (λ (same : j ≡ f). omega (arith, ap (λ i. get_or s'.ends i 0) same, get_or-set_same s.ends f (q.start + q.charge) 0 (omega (arith, k.shaped.1, f16)), low, small))
            (λ other. omega (arith, get_or-set_other s.ends f j (q.start + q.charge) 0 other, k.tagged j))
            (cases_eq j f);
        started = started';
        fresh = λ t b. omega (arith, gains (ticket_is t) k.shaped l8, k.fresh t (omega (arith, b)), cond-false {A = ℕ} (eqb q.ticket t) 1 0 (ne_eqb q.ticket t (omega (arith, b))));
        once =
            λ t. ⊎_elim
            (λ (same : q.ticket ≡ t). omega (arith, gains (ticket_is t) k.shaped l8, k.fresh t (omega (arith, same)), cond-true {A = ℕ} (eqb q.ticket t) 1 0 (eq-eqb q.ticket t same)))
            (λ other. omega (arith, gains (ticket_is t) k.shaped l8, k.once t, cond-false {A = ℕ} (eqb q.ticket t) 1 0 (ne_eqb q.ticket t other)))
            (cases_eq q.ticket t);
        within =
            λ j. ⊎_elim
            (λ (same : j ≡ l). omega (arith, ap (λ i. length (get_or s'.lanes i [])) same, ap (λ i. get_or s.sheet.lanes i 0) same, ap length (get_or-set_same s.lanes l (insert by_start q (lane_at s l)) [] (omega (arith, k.shaped.0, l8))), length-insert by_start q (lane_at s l), h.room))
            (λ other. omega (arith, ap length (get_or-set_other s.lanes l j (insert by_start q (lane_at s l)) [] other), k.within j))
            (cases_eq j l);
        deep = k.deep;
        timely = least_again s.time (starts s'.lanes);
      }

  pub enters_sound : Sound s → f < 16 → l < 8 → (tagged s f n).charge ≤ 1720320 → Sound (record { sheet = s.sheet; time = time'; ends = ends'; lanes = lanes'; in_card = s.in_card; arrivals = s.arrivals + 1 })
  unfolding after
  enters_sound k f16 l8 small = subst Sound (sym after_is) (entered_sound k f16 l8 small)
