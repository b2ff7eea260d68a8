-- The lines of answers.
use Rattle.std.specs.Prelude.{ℕ, List, [], ◌∷◌, ◌++◌, Ok, Err, codes, decimal, Result}
use Rattle.board.specs.declared.answer.Reaping.{Reaping}
use Rattle.board.specs.declared.answer.Reaping.TheVariants.{Finished, NotYet, Idle}
use Rattle.board.specs.declared.answer.Sending.{Sending}
use Rattle.board.specs.declared.answer.Sending.TheVariants.{Empty, Throttled, NoSlot, Sent}
use Rattle.books.specs.declared.flows.FlowState.{FlowState}
use Rattle.books.specs.declared.refusal.Refusal.{Refusal}
use Rattle.books.specs.declared.refusal.Refusal.TheVariants.{Busy, TooDeep, NoFlow, NoLane, BadLength, LaneFull, NoTicket, ByCard, Stray}
use Rattle.card.specs.declared.CardFault.{CardFault}
use Rattle.card.specs.declared.CardFault.TheVariants.{Full, HeldAlready}
use Rattle.fly.specs.declared.call.Answer.{Answer}
use Rattle.fly.specs.declared.call.Answer.TheVariants.{Loaded, Arrived, Moved, Reaped, VirtualTime, ReadyLanes, OfFlow}
use Rattle.reader.specs.Verdict.{refusal_number}
use Rattle.reader.specs.declared.fault.SheetFault.{SheetFault}
use Rattle.script.specs.declared.script.Step.{Step}
use Rattle.script.specs.declared.script.Step.TheVariants.{Made, Unread}

-- numbers in decimal, a space before each
abbrev pub spaced : List ℕ → List ℕ
spaced [] = []
spaced (n ∷ ns) = 32 ∷ (decimal n ++ spaced ns)

-- a line: a word, numbers, a line feed
abbrev pub sentence : List ℕ → List ℕ → List ℕ
sentence word ns = word ++ (spaced ns ++ 10 ∷ [])

-- the card's own refusal
abbrev pub card_line : CardFault → List ℕ
card_line Full = sentence (codes "refused 13 full") []
card_line HeldAlready = sentence (codes "refused 13 held already") []

-- a refused call: the refusal's number, with what the card says at 13 and the ticket at 14
abbrev pub refused_line : Refusal → List ℕ
refused_line Busy = sentence (codes "refused") (6 ∷ [])
refused_line TooDeep = sentence (codes "refused") (7 ∷ [])
refused_line NoFlow = sentence (codes "refused") (8 ∷ [])
refused_line NoLane = sentence (codes "refused") (9 ∷ [])
refused_line BadLength = sentence (codes "refused") (10 ∷ [])
refused_line LaneFull = sentence (codes "refused") (11 ∷ [])
refused_line NoTicket = sentence (codes "refused") (12 ∷ [])
refused_line (ByCard fault) = card_line fault
refused_line (Stray ticket) = sentence (codes "refused") (14 ∷ ticket ∷ [])

abbrev pub sending_line : Sending → List ℕ
sending_line Empty = sentence (codes "empty") []
sending_line (Throttled excess) = sentence (codes "throttled") (excess ∷ [])
sending_line NoSlot = sentence (codes "no slot") []
sending_line (Sent ticket flow charge) = sentence (codes "sent") (ticket ∷ flow ∷ charge ∷ [])

abbrev pub reaping_line : Reaping → List ℕ
reaping_line (Finished ticket flow charge status) = sentence (codes "finished") (ticket ∷ flow ∷ charge ∷ status ∷ [])
reaping_line NotYet = sentence (codes "not yet") []
reaping_line Idle = sentence (codes "idle") []

abbrev pub flow_line : FlowState → List ℕ
flow_line s = sentence (codes "flow") (s.weight ∷ s.longest ∷ s.end ∷ s.waiting ∷ s.in_card ∷ [])

-- the line of an answer
abbrev pub answer_line : Answer → List ℕ
answer_line (Loaded (Ok _)) = sentence (codes "loaded") []
answer_line (Loaded (Err e)) = refused_line e
answer_line (Arrived (Ok a)) = sentence (codes "arrived") (a.0 ∷ a.1.0 ∷ a.1.1 ∷ [])
answer_line (Arrived (Err e)) = refused_line e
answer_line (Moved (Ok s)) = sending_line s
answer_line (Moved (Err e)) = refused_line e
answer_line (Reaped (Ok r)) = reaping_line r
answer_line (Reaped (Err e)) = refused_line e
answer_line (VirtualTime v) = sentence (codes "time") (v ∷ [])
answer_line (ReadyLanes bits number) = sentence (codes "ready") (bits ∷ number ∷ [])
answer_line (OfFlow (Ok s)) = flow_line s
answer_line (OfFlow (Err e)) = refused_line e

-- the line of a sheet that is refused
abbrev pub unread_line : SheetFault → List ℕ
unread_line f = sentence (codes "refused") (refusal_number f.refusal ∷ f.line ∷ [])

-- the line of a step: of the answer of its call, or of its sheet
abbrev pub step_line : Result Answer SheetFault → List ℕ
step_line (Ok a) = answer_line a
step_line (Err f) = unread_line f

-- One line for each step, in order: the next answer's, or that of a refused sheet.
abbrev pub report : List Step → List Answer → List ℕ
report [] answers = []
report (Made ∷ steps) [] = []
report (Made ∷ steps) (a ∷ answers) = answer_line a ++ report steps answers
report (Unread f ∷ steps) answers = unread_line f ++ report steps answers
