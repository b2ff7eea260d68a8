-- The refusals of a full lane and of no ticket put the flow's record back; the last way is `enters`.
use Rattle.std.proofs.Common.{◌≡◌, ℕ, ◌+◌, ◌<◌, max, length, set, sym, ap, ◌∙◌, subst, arith}
use Rattle.std.proofs.lemmas.List.{get_or-map}
use Rattle.books.specs.States.{state_from}
use Rattle.books.specs.Views.{state_of}
use Rattle.books.specs.declared.books.Books.{Books}
use Rattle.books.specs.declared.flows.FlowRecord.{FlowRecord}
use Rattle.books.proofs.Arrivals.{full, spent}
use Rattle.books.proofs.Changes.{no_record, record_at, entered_state, entered_whole}
use Rattle.books.proofs.Opened.{Whole, whole, sixteen, few_waiting, end_at, restored, priced}
use Rattle.books.proofs.books.Books.arrive.Goals as goal

pub tag-start-requires : goal.tag-start-requires
tag-start-requires c =
    let b = c.args.self.now in
    let f = c.args.flow in
    let there : f < length b.flows = omega (arith, sixteen b, c.in-Some.ensures.few) in
    let x = c.new-guard.ensures.holds.1 in
    record {
      fits = omega (arith, b.sound.few, b.sound.timed, b.sound.tagged f, end_at b.flows f no_record (omega (arith, b.sound.shaped.1, c.in-Some.ensures.few)), ap (λ (y : FlowRecord). y.end) x, c.in-Some-charge.ensures.bounds.1);
      few = omega (arith, ap (λ (y : FlowRecord). y.waiting) x, get_or-map (λ (y : FlowRecord). y.waiting) b.flows f no_record 0 there, b.counts_waiting f, few_waiting b f);
    }

-- the record is back, so the books are as they were
back_whole : (b : Books) (f : ℕ) (x : FlowRecord) → x ≡ record_at b f → Whole b.sheet b.time (set b.flows f x) b.lanes b.in_card b.arrivals
back_whole b f x e = subst (λ fs. Whole b.sheet b.time fs b.lanes b.in_card b.arrivals) (sym (restored b.flows f x no_record e)) (whole b)

back_state : (b : Books) (f : ℕ) (x : FlowRecord) → x ≡ record_at b f → state_from b.sheet b.time (set b.flows f x) b.lanes b.in_card b.arrivals ≡ state_of b
back_state b f x e = ap (λ fs. state_from b.sheet b.time fs b.lanes b.in_card b.arrivals) (restored b.flows f x no_record e)

pub invariant_of-self-then-waiting-capacity : goal.invariant_of-self-then-waiting-capacity
invariant_of-self-then-waiting-capacity c = back_whole c.args.self.now c.args.flow _ (c.drop-guard.ensures ∙ c.tag-start.ensures.kept ∙ c.new-guard.ensures.holds.0)

pub returns-then-waiting-capacity : goal.returns-then-waiting-capacity
returns-then-waiting-capacity c =
    let b = c.args.self.now in
    full (state_of b) _ c.args.flow c.args.lane c.args.length (priced (state_of b) c.args.flow c.args.lane c.args.length c.in-Some.share c.in-Some-lane.capacity c.in-Some-charge.charge c.in-Some.ensures c.in-Some-lane.ensures c.in-Some-charge.ensures.value).0 (omega (arith, c.if-waiting-capacity.true, c.len-waiting.ensures.count, c.in-Some-lane.ensures.is))
    (back_state b c.args.flow _ (c.drop-guard.ensures ∙ c.tag-start.ensures.kept ∙ c.new-guard.ensures.holds.0))

pub invariant_of-self-then-self-ge-MOST : goal.invariant_of-self-then-self-ge-MOST
invariant_of-self-then-self-ge-MOST c = back_whole c.args.self.now c.args.flow _ (c.drop-guard-then-self-ge-MOST.ensures ∙ c.tag-start.ensures.kept ∙ c.new-guard.ensures.holds.0)

pub returns-then-self-ge-MOST : goal.returns-then-self-ge-MOST
returns-then-self-ge-MOST c =
    let b = c.args.self.now in
    spent (state_of b) _ c.args.flow c.args.lane c.args.length (priced (state_of b) c.args.flow c.args.lane c.args.length c.in-Some.share c.in-Some-lane.capacity c.in-Some-charge.charge c.in-Some.ensures c.in-Some-lane.ensures c.in-Some-charge.ensures.value).0 (omega (arith, c.if-waiting-capacity.false, c.len-waiting.ensures.count, c.in-Some-lane.ensures.is)) (omega (arith, c.if-self-ge-MOST.true))
    (back_state b c.args.flow _ (c.drop-guard-then-self-ge-MOST.ensures ∙ c.tag-start.ensures.kept ∙ c.new-guard.ensures.holds.0))

pub invariant_of-self-2 : goal.invariant_of-self-2
invariant_of-self-2 c =
    entered_whole {b = c.args.self.now} {f = c.args.flow} {l = c.args.lane} {n = c.args.length} {lanes' = c.push.new.self} (record {
      flow = c.in-Some.ensures;
      lane = c.in-Some-lane.ensures;
      price = c.in-Some-charge.ensures.value;
      starts = c.tag-start.ensures.tags.0 ∙ ap (λ (y : FlowRecord). max c.args.self.now.time y.end) c.new-guard.ensures.holds.1;
      ends = c.tag-start.ensures.tags.1;
      tagged = c.confirm.ensures ∙ c.tag-start.ensures.flow ∙ ap (λ (y : FlowRecord). record { end = c.tag-start.result.1; waiting = y.waiting + 1; in_card = y.in_card }) c.new-guard.ensures.holds.1;
      room = omega (arith, c.if-waiting-capacity.false, c.len-waiting.ensures.count);
      few = omega (arith, c.if-self-ge-MOST.false);
      answer = c.push.ensures.answer;
      lanes = c.push.ensures.after;
      time = c.least_start-self.ensures;
    })

pub returns : goal.returns
returns c =
    entered_state {b = c.args.self.now} {f = c.args.flow} {l = c.args.lane} {n = c.args.length} {lanes' = c.push.new.self} (record {
      flow = c.in-Some.ensures;
      lane = c.in-Some-lane.ensures;
      price = c.in-Some-charge.ensures.value;
      starts = c.tag-start.ensures.tags.0 ∙ ap (λ (y : FlowRecord). max c.args.self.now.time y.end) c.new-guard.ensures.holds.1;
      ends = c.tag-start.ensures.tags.1;
      tagged = c.confirm.ensures ∙ c.tag-start.ensures.flow ∙ ap (λ (y : FlowRecord). record { end = c.tag-start.result.1; waiting = y.waiting + 1; in_card = y.in_card }) c.new-guard.ensures.holds.1;
      room = omega (arith, c.if-waiting-capacity.false, c.len-waiting.ensures.count);
      few = omega (arith, c.if-self-ge-MOST.false);
      answer = c.push.ensures.answer;
      lanes = c.push.ensures.after;
      time = c.least_start-self.ensures;
    })
