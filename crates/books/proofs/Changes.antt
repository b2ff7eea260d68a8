-- What an arrival, a send and a finish make of the books' fields. Assumes nothing.
use Rattle.std.proofs.Common.{◌≡◌, ℕ, ◌+◌, ◌-◌, ◌<◌, ◌≤◌, max, Bool, cond, ltb, List, ◌∷◌, length, get_or, set, Some, Ok, sum_by, Result, sym, refl, ap, ◌∙◌, subst, arith}
use Rattle.std.proofs.lemmas.List.{get_or-map}
use Rattle.std.proofs.lemmas.Bool.{cond-true, and_from, lt-ltb}
use Rattle.heap.specs.Sorting.{insert}
use Rattle.heap.proofs.Sorting.{sum_by-insert}
use Rattle.charge.specs.Charge.{charge_of}
use Rattle.charge.proofs.Charges.{laws}
use Rattle.sheet.specs.Sheets.{FlowIn, LaneIn, flow_charge}
use Rattle.sheet.specs.declared.flow.Flow.{Flow}
use Rattle.lanes.specs.Lanes.{lanes_of, has_room}
use Rattle.lanes.specs.Records.{by_start, by_ticket}
use Rattle.lanes.specs.Table.{in_card_of, Removes}
use Rattle.lanes.specs.declared.lanes.Lanes.{Lanes}
use Rattle.lanes.specs.declared.records.Request.{Request}
use Rattle.lanes.specs.declared.table.InCard.{InCard}
use Rattle.books.specs.Model.{Arrival as Ticket, Meets, most, waiting, flow_is, flow_at, lane_at, time_of, arrive_rule, move_rule, finished}
use Rattle.books.specs.Sound.{Sound}
use Rattle.books.specs.States.{ends_of, state_from}
use Rattle.books.specs.Views.{state_of}
use Rattle.books.specs.declared.books.Books.{Books}
use Rattle.books.specs.declared.flows.FlowRecord.{FlowRecord}
use Rattle.books.specs.declared.refusal.Refusal.{Refusal}
use Rattle.books.proofs.Arrivals.{Entry, enters, enters_sound}
use Rattle.books.proofs.Counts.{own, flow_le, recorded, led_there, count_stays, count_up, count_down}
use Rattle.books.proofs.Moves.{Move, moves, moves_sound}
use Rattle.books.proofs.Opened.{Whole, kept, sound, sixteen, end_at, ends_set, ends_stay, priced}
use Rattle.books.proofs.Removes.{removed_sound, removed_without, with_in_card}
use Rattle.books.proofs.Sums.{waiting_more, waiting_less}

abbrev pub no_record : FlowRecord
no_record = record { end = 0; waiting = 0; in_card = 0 }

abbrev pub record_at : Books → ℕ → FlowRecord
record_at b f = get_or b.flows f no_record

-- ---- a request leaves the card

module _ (b : Books) (t : ℕ) (r : Request) (c' : InCard) (out : Removes t (in_card_of b.in_card) (Some r) (in_card_of c')) where
  less : (g : Request → ℕ) → sum_by g (in_card_of b.in_card) ≡ g r + sum_by g (in_card_of c')
  less g = ap (sum_by g) out.1 ∙ sum_by-insert by_ticket g r (in_card_of c')

  -- its flow has a record, which counts it
  pub out_counted : (r.flow < 16) × (1 ≤ (record_at b r.flow).in_card)
  out_counted =
      let f = r.flow in
      let k = recorded (λ (x : FlowRecord). x.in_card) b.flows f (sum_by (flow_is f) (in_card_of b.in_card)) no_record (b.counts_in_card f) (omega (arith, less (flow_is f), own r f refl)) in
      (omega (arith, k.0, sixteen b), omega (arith, k.1, less (flow_is f), own r f refl))

  module _ (x : FlowRecord) (is : x ≡ record { end = (record_at b r.flow).end; waiting = (record_at b r.flow).waiting; in_card = (record_at b r.flow).in_card - 1 }) where
    there : r.flow < length b.flows
    there = omega (arith, out_counted.0, sixteen b)

    ends_are : ends_of (set b.flows r.flow x) ≡ ends_of b.flows
    ends_are = ends_stay b.flows r.flow x no_record there (ap (λ (y : FlowRecord). y.end) is)

    pub out_whole : Whole b.sheet b.time (set b.flows r.flow x) b.lanes c' b.arrivals
    out_whole =
        let one = out_counted.1 in
        let in_card_lem = ap (λ (y : FlowRecord). y.in_card) is in
        kept (set b.flows r.flow x) (state_from b.sheet b.time (set b.flows r.flow x) b.lanes c' b.arrivals)
        (count_stays (λ (y : FlowRecord). y.waiting) b.flows r.flow x no_record (λ j. waiting (flow_is j) (lanes_of b.lanes)) there (ap (λ (y : FlowRecord). y.waiting) is) b.counts_waiting)
        (count_down (λ (y : FlowRecord). y.in_card) b.flows x no_record (λ j. sum_by (flow_is j) (in_card_of b.in_card)) (λ j. sum_by (flow_is j) (in_card_of c')) r r.flow refl there (omega (arith, in_card_lem, one)) (λ j. less (flow_is j)) b.counts_in_card)
        (subst (λ es. Sound (record { sheet = (state_of b).sheet; time = b.time; ends = es; lanes = (state_of b).lanes; in_card = in_card_of c'; arrivals = b.arrivals })) (sym ends_are) (removed_sound (state_of b) t (in_card_of c') (Some r) out (sound b)))

    pub out_state : state_from b.sheet b.time (set b.flows r.flow x) b.lanes c' b.arrivals ≡ finished (state_of b) t
    out_state =
        ap (λ es. record { sheet = (state_of b).sheet; time = b.time; ends = es; lanes = (state_of b).lanes; in_card = in_card_of c'; arrivals = b.arrivals }) ends_are
        ∙ ap (with_in_card (state_of b)) (removed_without t (in_card_of b.in_card) (in_card_of c') (Some r) (omega (arith, b.sound.once t)) out)

-- ---- a request goes into the card

module _ (b : Books) (l : ℕ) (r : Request) (rest : List Request) (lane : lane_at (state_of b) l ≡ r ∷ rest) where
  lane_there : l < 8
  lane_there = omega (arith, led_there (state_of b).lanes l r rest lane, b.sound.shaped.0)

  gone : (g : Request → ℕ) → waiting g (state_of b).lanes ≡ g r + waiting g (set (state_of b).lanes l rest)
  gone g = waiting_less g (state_of b).lanes l r rest (led_there (state_of b).lanes l r rest lane) lane

  pub lead_counted : (r.flow < 16) × (1 ≤ (record_at b r.flow).waiting) × ((record_at b r.flow).in_card ≤ 32)
  lead_counted =
      let f = r.flow in
      let k = recorded (λ (x : FlowRecord). x.waiting) b.flows f (waiting (flow_is f) (state_of b).lanes) no_record (b.counts_waiting f) (omega (arith, gone (flow_is f), own r f refl)) in
      let there : f < length b.flows = k.0 in
      let sits = sym (get_or-map (λ (x : FlowRecord). x.in_card) b.flows f no_record 0 there) ∙ b.counts_in_card f in
      (omega (arith, k.0, sixteen b), omega (arith, k.1, gone (flow_is f), own r f refl), omega (arith, sits, flow_le f (state_of b).in_card, b.sound.deep, b.sheet.few_slots))

  module _ (x : FlowRecord) (time' : ℕ) (lanes' : Lanes) (c' : InCard) (pushed : Bool)
      (is : x ≡ record { end = (record_at b r.flow).end; waiting = (record_at b r.flow).waiting - 1; in_card = (record_at b r.flow).in_card + 1 })
      (left : lanes_of lanes' ≡ set (state_of b).lanes l rest) (time : time' ≡ time_of (state_of b) (lanes_of lanes'))
      (room : length (state_of b).in_card < (state_of b).sheet.slots) (answer : pushed ≡ ltb (length (state_of b).in_card) 32)
      (in_card_lem : in_card_of c' ≡ cond pushed (insert by_ticket r (state_of b).in_card) (state_of b).in_card) where
    flow_there : r.flow < length b.flows
    flow_there = omega (arith, lead_counted.0, sixteen b)

    entered_card : in_card_of c' ≡ insert by_ticket r (state_of b).in_card
    entered_card = in_card_lem ∙ cond-true pushed _ _ (answer ∙ lt-ltb (length (state_of b).in_card) 32 (omega (arith, room, b.sheet.few_slots)))

    move : Move (state_of b) l r rest time' (ends_of (set b.flows r.flow x)) (lanes_of lanes') (in_card_of c')
    move = record {
      lead = lane;
      lanes = left;
      time = time;
      ends = ends_stay b.flows r.flow x no_record flow_there (ap (λ (y : FlowRecord). y.end) is);
      in_card = entered_card;
    }

    pub moved_whole : Whole b.sheet time' (set b.flows r.flow x) lanes' c' b.arrivals
    moved_whole =
        let waits = ap (λ (y : FlowRecord). y.waiting) is in
        let sits = ap (λ (y : FlowRecord). y.in_card) is in
        let some = lead_counted.1 in
        kept (set b.flows r.flow x) (state_from b.sheet time' (set b.flows r.flow x) lanes' c' b.arrivals)
        (count_down (λ (y : FlowRecord). y.waiting) b.flows x no_record (λ j. waiting (flow_is j) (state_of b).lanes) (λ j. waiting (flow_is j) (lanes_of lanes')) r r.flow refl flow_there (omega (arith, waits, some))
        (λ j. omega (arith, gone (flow_is j), ap (waiting (flow_is j)) left)) b.counts_waiting)
        (count_up (λ (y : FlowRecord). y.in_card) b.flows x no_record (λ j. sum_by (flow_is j) (state_of b).in_card) (λ j. sum_by (flow_is j) (in_card_of c')) r r.flow refl flow_there sits
        (λ j. ap (sum_by (flow_is j)) entered_card ∙ sum_by-insert by_ticket (flow_is j) r (state_of b).in_card) b.counts_in_card)
        (moves_sound move (sound b) lane_there room)

    pub moved_state : state_from b.sheet time' (set b.flows r.flow x) lanes' c' b.arrivals ≡ move_rule (state_of b) l
    moved_state = moves move ∙ sym (cond-true (ltb (length (state_of b).in_card) (state_of b).sheet.slots) _ _ (lt-ltb _ _ room))

-- ---- a request arrives

-- what the ways of an arrival that is accepted have done
pub record Arrival (b : Books) (f l n : ℕ) (share : Flow) (k charge start e time' : ℕ) (x : FlowRecord) (lanes' : Lanes) (pushed : Bool) : Type 0 where
  pub flow : FlowIn (state_of b).sheet f share
  pub lane : LaneIn (state_of b).sheet l k
  pub price : 1 ≤ share.weight → share.weight ≤ 100 → share.longest ≤ 2048 → Some charge ≡ flow_charge share n
  pub starts : start ≡ max b.time (record_at b f).end
  pub ends : e ≡ start + charge
  pub tagged : x ≡ record { end = e; waiting = (record_at b f).waiting + 1; in_card = (record_at b f).in_card }
  pub room : length (lane_at (state_of b) l) < k
  pub few : b.arrivals < most
  pub answer : pushed ≡ has_room l (lanes_of b.lanes)
  pub lanes : lanes_of lanes' ≡ cond pushed (set (lanes_of b.lanes) l (insert by_start (record { start = start; ticket = b.arrivals; flow = f; sectors = n; charge = charge }) (lane_at (state_of b) l))) (lanes_of b.lanes)
  pub time : time' ≡ time_of (state_of b) (lanes_of lanes')

module _ {b : Books} {f l n : ℕ} {share : Flow} {k charge start e time' : ℕ} {x : FlowRecord} {lanes' : Lanes} {pushed : Bool} (a : Arrival b f l n share k charge start e time' x lanes' pushed) where
  flow_in : f < length b.flows
  flow_in = omega (arith, a.flow.few, sixteen b)

  entry : Entry (state_of b) f l n (record { start = start; ticket = b.arrivals; flow = f; sectors = n; charge = charge }) e time' (ends_of (set b.flows f x)) (lanes_of lanes')
  entry =
      let p = priced (state_of b) f l n share k charge a.flow a.lane a.price in
      let end = sym (end_at b.flows f no_record (omega (arith, b.sound.shaped.1, a.flow.few))) in
      record {
        right = p.0;
        room = omega (arith, a.room, a.lane.is);
        few = a.few;
        request = λ i. record { start = (a.starts ∙ ap (max b.time) end) i; ticket = b.arrivals; flow = f; sectors = n; charge = p.1 i };
        end = a.ends;
        time = a.time;
        ends = ends_set b.flows f x e (ap (λ (y : FlowRecord). y.end) a.tagged);
        lanes = a.lanes ∙ cond-true pushed _ _ (a.answer ∙ and_from (ltb l 8) _ (lt-ltb l 8 a.lane.few) (lt-ltb (length (lane_at (state_of b) l)) 32 (omega (arith, a.room, a.lane.most))));
      }

  pub entered_state : Meets {A = Result Ticket Refusal} (Ok (b.arrivals, (start, e))) (state_from b.sheet time' (set b.flows f x) lanes' b.in_card (b.arrivals + 1)) (arrive_rule (state_of b) f l n)
  entered_state = enters entry

  pub entered_whole : Whole b.sheet time' (set b.flows f x) lanes' b.in_card (b.arrivals + 1)
  entered_whole =
      let s = state_of b in
      let share-is = a.flow.is in
      let small : charge_of n (flow_at s f).weight ≤ 1720320 = laws.largest n (flow_at s f).weight (omega (arith, entry.right.most, ap (λ (y : Flow). y.longest) share-is, a.flow.most)) (omega (arith, a.flow.some, ap (λ (y : Flow). y.weight) share-is)) in
      kept (set b.flows f x) (state_from b.sheet time' (set b.flows f x) lanes' b.in_card (b.arrivals + 1))
      (count_up (λ (y : FlowRecord). y.waiting) b.flows x no_record (λ j. waiting (flow_is j) s.lanes) (λ j. waiting (flow_is j) (lanes_of lanes')) (record { start = start; ticket = b.arrivals; flow = f; sectors = n; charge = charge }) f refl flow_in (ap (λ (y : FlowRecord). y.waiting) a.tagged)
      (λ j. ap (waiting (flow_is j)) entry.lanes ∙ waiting_more (flow_is j) s.lanes l _ (omega (arith, a.lane.few, b.sound.shaped.0))) b.counts_waiting)
      (count_stays (λ (y : FlowRecord). y.in_card) b.flows f x no_record (λ j. sum_by (flow_is j) s.in_card) flow_in (ap (λ (y : FlowRecord). y.in_card) a.tagged) b.counts_in_card)
      (enters_sound entry (sound b) a.flow.few a.lane.few small)
