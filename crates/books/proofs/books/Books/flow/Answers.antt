use Rattle.std.proofs.Common.{◌<◌, leb, length, get_or, Ok, sym, ◌∙◌, arith}
use Rattle.std.proofs.lemmas.List.{get_or-map}
use Rattle.std.proofs.lemmas.Bool.{cond-false, lt-leb}
use Rattle.std.proofs.lemmas.Option.{MatchOption-at_some}
use Rattle.books.specs.Views.{state_of}
use Rattle.books.specs.declared.flows.FlowRecord.{FlowRecord}
use Rattle.books.proofs.Opened.{sixteen}
use Rattle.books.proofs.books.Books.flow.Goals as goal

pub returns : goal.returns
returns c =
    let b = c.args.self.now in
    let f = c.args.flow in
    let s = state_of b in
    let share = MatchOption-at_some _ _ c.in_ok-share.share c.in_ok-share.ensures.ok_part c.flow.ensures in
    let none : FlowRecord = record { end = 0; waiting = 0; in_card = 0 } in
    let x = get_or b.flows f none in
    let there : f < length b.flows = omega (arith, sixteen b, share.few) in
    let end = sym (get_or-map (λ (r : FlowRecord). r.end) b.flows f none 0 there) in
    let waits = sym (get_or-map (λ (r : FlowRecord). r.waiting) b.flows f none 0 there) ∙ b.counts_waiting f in
    let sits = sym (get_or-map (λ (r : FlowRecord). r.in_card) b.flows f none 0 there) ∙ b.counts_in_card f in
    (λ i. Ok (record { weight = (share.is i).weight; longest = (share.is i).longest; end = end i; waiting = waits i; in_card = sits i }))
    ∙ sym (cond-false (leb (length s.sheet.flows) f) _ _ (lt-leb _ _ share.below))
