-- Each call is a step of the law's books. Assumes nothing.
use Rattle.std.proofs.Common.{◌≡◌, ℕ, ◌+◌, ◌-◌, ◌⊎◌, List, [], ◌∷◌, ◌++◌, map, get_or, Some, None, Ok, Err, Option, Result, sym, refl, ap, ◌∙◌, subst, inl, inr, ⊎_elim, arith, MatchResult}
use Rattle.std.proofs.lemmas.List.{map_push}
use Rattle.std.proofs.lemmas.List.Sums.{fold_push}
use Rattle.std.proofs.lemmas.List.Sorted.{IsPermutation-refl}
use Rattle.sheet.specs.Sheets.{content_of, blank}
use Rattle.sheet.specs.declared.shape.Sheet.{Sheet}
use Rattle.card.specs.declared.Card.{Ghosts}
use Rattle.card.specs.declared.Command.{Command}
use Rattle.shares.specs.Events as share
use Rattle.shares.specs.Steps as step
use Rattle.shares.proofs.Runs.{runs_push}
use Rattle.books.specs.Model.{State, Arrival, tagged, arrive_rule, empty}
use Rattle.books.specs.Sound.{Sound}
use Rattle.books.specs.Views.{state_of}
use Rattle.books.specs.declared.refusal.Refusal.{Refusal}
use Rattle.books.proofs.Opened.{sound}
use Rattle.board.specs.Rules.{Outcome, send_rule, kick_rule, reap_rule, load_rule}
use Rattle.board.specs.declared.answer.Reaping.{Reaping}
use Rattle.board.specs.declared.answer.Reaping.TheVariants.{Finished, NotYet, Idle}
use Rattle.board.specs.declared.answer.Sending.{Sending}
use Rattle.board.specs.declared.answer.Sending.TheVariants.{Empty, Throttled, NoSlot, Sent}
use Rattle.board.specs.declared.board.Board.{Board}
use Rattle.laws.specs.Steps.{request_of, shares_of, waiting_of, books_of, Fair, sent_by, finished_by}
use Rattle.laws.proofs.Keeps.{arrivals_step_lem}
use Rattle.laws.proofs.Sent.{sends_step_lem, kicks_step_lem, reaps_step_lem, loads_step_lem, books_fair_lem}
use Rattle.fly.specs.Flights.{Entry, told, event, Step, Did, Run, start, more}
use Rattle.fly.specs.declared.call.Answer.{Answer}
use Rattle.fly.specs.declared.call.Answer.TheVariants.{Loaded, Arrived, Moved, Reaped}
use Rattle.fly.specs.declared.call.Call.{Call}
use Rattle.fly.specs.declared.call.Call.TheVariants.{Load, Arrive, Send, Kick, Reap, Time, Ready, Flow}
use Rattle.fly.proofs.Rules.{Enters, loads_empty, arrives_so, send_sheet, kick_sheet, reap_sheet, blank_arrives, blank_sends, blank_kicks}

-- the sheet in force after an event
abbrev pub sheet_after : Option share.Sheet → share.Event → Option share.Sheet
sheet_after o (share.loaded s) = Some s
sheet_after o (share.arrived r) = o
sheet_after o (share.sent m) = o
sheet_after o (share.finished m) = o
sheet_after o share.nothing = o

note_sheet : (t : share.Seen) (e : share.Event) → (share.note t e).sheet ≡ sheet_after t.sheet e
note_sheet t (share.loaded s) = refl
note_sheet t (share.arrived r) = refl
note_sheet t (share.sent m) = refl
note_sheet t (share.finished m) = refl
note_sheet t share.nothing = refl

-- one entry more
pub after_push : (log : List Entry) (e : Entry) → share.seen (map event (log ++ e ∷ [])) ≡ share.note (share.seen (map event log)) (event e)
after_push log e = ap share.seen (map_push event log e) ∙ fold_push share.note share.unseen (map event log) (event e)

pub sheet_push : (log : List Entry) (e : Entry) → (share.seen (map event (log ++ e ∷ []))).sheet ≡ sheet_after (share.seen (map event log)).sheet (event e)
sheet_push log e = ap (λ (t : share.Seen). t.sheet) (after_push log e) ∙ note_sheet (share.seen (map event log)) (event e)

-- the law's books, whatever sheet is in force
abbrev pub bare : Option share.Sheet → State → step.Books
bare o s = record { sheet = o; time = s.time; end = λ f. get_or s.ends f 0; waiting = waiting_of s.lanes; card = map request_of s.in_card; count = s.arrivals }

rests : (o : Option share.Sheet) (s : State) → step.Rests (bare o s) (bare o s)
rests o s = record { card = IsPermutation-refl _; calm = record { waiting = IsPermutation-refl _; onward = omega arith; still = inr refl }; tags = λ f. refl; count = refl; sheet = refl }

-- one event under a sheet
abbrev pub MovesSo : State → share.Event → State → Type 0
MovesSo s e s' = step.Step (books_of s) e (books_of s') × (sheet_after (Some (shares_of s.sheet)) e ≡ Some (shares_of s'.sheet))

still : (s s' : State) → s' ≡ s → MovesSo s share.nothing s'
still s s' e = subst (λ t. MovesSo s share.nothing t) (sym e) (rests (Some (shares_of s.sheet)) s, refl)

-- to an answer and books that are those of the rule
to : (s : State) {s' s₀ : State} (call : Call) {a a₀ : Answer} → a ≡ a₀ → s' ≡ s₀ → MovesSo s (told call a₀) s₀ → MovesSo s (told call a) s'
to s {s'} {s₀} call {a} {a₀} p q m = subst (λ x. MovesSo s (told call x) s') (sym p) (subst (λ t. MovesSo s (told call a₀) t) (sym q) m)

module _ (s : State) (sheet : Sheet) (o : Option share.Sheet) where
  -- a load, whatever sheet was in force
  abbrev LoadsSo : Result (Unit {0}) Refusal → State → Type 0
  LoadsSo r t = MatchResult r (λ _. step.Step (bare o s) (share.loaded (shares_of (content_of sheet))) (books_of t) × (t ≡ empty (content_of sheet))) (λ _. t ≡ s)

  loaded : (depth : ℕ) (held : List Command) → LoadsSo (load_rule depth held s (content_of sheet)).0 (load_rule depth held s (content_of sheet)).1
  loaded depth held = both (load_rule depth held s (content_of sheet)).0 (load_rule depth held s (content_of sheet)).1 (loads_step_lem depth held s (content_of sheet) o) (loads_empty depth held s (content_of sheet))
    where
      both : (r : Result (Unit {0}) Refusal) (t : State) → MatchResult r (λ _. step.Step (bare o s) (share.loaded (shares_of (content_of sheet))) (books_of t)) (λ _. t ≡ s)
          → MatchResult r (λ _. t ≡ empty (content_of sheet)) (λ _. t ≡ s) → LoadsSo r t
      both (Ok u) t a b = (a, b)
      both (Err e) t a b = b

load_moves : (s : State) (sheet : Sheet) (r : Result (Unit {0}) Refusal) (t : State) → LoadsSo s sheet (Some (shares_of s.sheet)) r t → MovesSo s (told (Load sheet) (Loaded r)) t
load_moves s sheet (Ok u) t h = (h.0, ap (λ (x : State). Some (shares_of x.sheet)) (sym h.1))
load_moves s sheet (Err e) t h = still s t h

arrive_moves : (s : State) (f l n : ℕ) (r : Result Arrival Refusal) (t : State) → MatchResult r (λ _. step.Step (books_of s) (share.arrived (request_of (tagged s f n))) (books_of t)) (λ _. t ≡ s) → Enters s f l n (r, t) → MovesSo s (told (Arrive f l n) (Arrived r)) t
arrive_moves s f l n (Ok a) t st so =
    let q = tagged s f n in
    let back : q.charge ≡ (q.start + q.charge) - q.start = omega arith in
    let same : ◌≡◌ {A = share.Request} (request_of q) (record { ticket = q.ticket; flow = f; sectors = n; start = q.start; end = q.start + q.charge; charge = (q.start + q.charge) - q.start }) =
    λ i. record { ticket = q.ticket; flow = f; sectors = n; start = q.start; end = q.start + q.charge; charge = back i } in
    let at : step.Step (books_of s) (told (Arrive f l n) (Arrived (Ok (s.arrivals, (q.start, q.start + q.charge))))) (books_of t) = subst (λ r. step.Step (books_of s) (share.arrived r) (books_of t)) same st in
    (subst (λ (x : Arrival). step.Step (books_of s) (told (Arrive f l n) (Arrived (Ok x))) (books_of t)) (sym so.0) at, ap (λ (x : State). Some (shares_of x.sheet)) (sym so.1))
arrive_moves s f l n (Err e) t st so = still s t so

sent_told : (c : Call) (r : Result Sending Refusal) → told c (Moved r) ≡ sent_by r
sent_told c (Ok Empty) = refl
sent_told c (Ok (Throttled n)) = refl
sent_told c (Ok NoSlot) = refl
sent_told c (Ok (Sent t f k)) = refl
sent_told c (Err e) = refl

sent_sheet : (o : Option share.Sheet) (r : Result Sending Refusal) → sheet_after o (sent_by r) ≡ o
sent_sheet o (Ok Empty) = refl
sent_sheet o (Ok (Throttled n)) = refl
sent_sheet o (Ok NoSlot) = refl
sent_sheet o (Ok (Sent t f k)) = refl
sent_sheet o (Err e) = refl

ended_told : (c : Call) (r : Result Reaping Refusal) → told c (Reaped r) ≡ finished_by r
ended_told c (Ok (Finished t f k status)) = refl
ended_told c (Ok NotYet) = refl
ended_told c (Ok Idle) = refl
ended_told c (Err e) = refl

ended_sheet : (o : Option share.Sheet) (r : Result Reaping Refusal) → sheet_after o (finished_by r) ≡ o
ended_sheet o (Ok (Finished t f k status)) = refl
ended_sheet o (Ok NotYet) = refl
ended_sheet o (Ok Idle) = refl
ended_sheet o (Err e) = refl

send_moves : (call : Call) (s : State) (o : Outcome) → step.Step (books_of s) (sent_by o.says) (books_of o.books) → o.books.sheet ≡ s.sheet → MovesSo s (told call (Moved o.says)) o.books
send_moves call s o st sheet =
    subst (λ e. MovesSo s e o.books) (sym (sent_told call o.says)) (st, sent_sheet (Some (shares_of s.sheet)) o.says ∙ ap (λ x. Some (shares_of x)) (sym sheet))

reap_moves : (s : State) (done : Option (ℕ × ℕ)) → Sound s → MovesSo s (told Reap (Reaped (reap_rule s done).0)) (reap_rule s done).1
reap_moves s done k =
    subst (λ e. MovesSo s e (reap_rule s done).1) (sym (ended_told Reap (reap_rule s done).0))
    (reaps_step_lem s done k, ended_sheet (Some (shares_of s.sheet)) (reap_rule s done).0 ∙ ap (λ x. Some (shares_of x)) (sym (reap_sheet s done)))

-- before the first load: nothing is told, or a sheet is loaded
abbrev pub First : share.Event → State → Type 0
First e s' = ((e ≡ share.nothing) × (s' ≡ empty blank)) ⊎ (step.Step (bare None (empty blank)) e (books_of s') × (sheet_after None e ≡ Some (shares_of s'.sheet)))

load_first : (sheet : Sheet) (r : Result (Unit {0}) Refusal) (t : State) → LoadsSo (empty blank) sheet None r t → First (told (Load sheet) (Loaded r)) t
load_first sheet (Ok u) t h = inr (h.0, ap (λ (x : State). Some (shares_of x.sheet)) (sym h.1))
load_first sheet (Err e) t h = inl (refl, h)

-- what is told where nothing can be sent or finished
pub idle : (done : Option (ℕ × ℕ)) → (told Reap (Reaped (reap_rule (empty blank) done).0) ≡ share.nothing) × ((reap_rule (empty blank) done).1 ≡ empty blank)
idle None = (refl, refl)
idle (Some d) = (refl, refl)

pub arrive_quiet : (f l n : ℕ) → (told (Arrive f l n) (Arrived (arrive_rule (empty blank) f l n).0) ≡ share.nothing) × ((arrive_rule (empty blank) f l n).1 ≡ empty blank)
arrive_quiet f l n = let is = blank_arrives f l n in (ap (λ (v : Result Arrival Refusal × State). told (Arrive f l n) (Arrived v.0)) is, ap (λ (v : Result Arrival Refusal × State). v.1) is)

pub send_quiet : (depth : ℕ) (held : List Command) (l : ℕ) → (told (Send l) (Moved (send_rule depth held (empty blank) l).says) ≡ share.nothing) × ((send_rule depth held (empty blank) l).books ≡ empty blank)
send_quiet depth held l = let is = blank_sends depth held l in (ap (λ (v : Outcome). told (Send l) (Moved v.says)) is, ap (λ (v : Outcome). v.books) is)

pub kick_quiet : (depth : ℕ) (held : List Command) (l : ℕ) → (told (Kick l) (Moved (kick_rule depth held (empty blank) l).says) ≡ share.nothing) × ((kick_rule depth held (empty blank) l).books ≡ empty blank)
kick_quiet depth held l = let is = blank_kicks depth held l in (ap (λ (v : Outcome). told (Kick l) (Moved v.says)) is, ap (λ (v : Outcome). v.books) is)

-- the law's books, by the sheet in force
abbrev pub At : Option share.Sheet → State → step.Books → Type 0
At o s c = ((o ≡ None) × (s ≡ empty blank) × (c ≡ bare None (empty blank))) ⊎ ((o ≡ Some (shares_of s.sheet)) × (c ≡ books_of s))

abbrev Next : Option share.Sheet → share.Event → State → step.Books → Type 0
Next o e s' c = (c' : step.Books) × step.Step c e c' × At (sheet_after o e) s' c'

module _ {C : Type 0} (cards : Ghosts C) where
  moves : (s s' : State) (c c' : C) (call : Call) (a : Answer) → Sound s → Fair s → Step cards.DEPTH cards.held cards.finishes s c call a s' c' → MovesSo s (told call a) s'
  moves s s' c c' (Load sheet) a k fair st = to s (Load sheet) st.0 st.1 (load_moves s sheet (load_rule cards.DEPTH (cards.held c) s (content_of sheet)).0 (load_rule cards.DEPTH (cards.held c) s (content_of sheet)).1 (loaded s sheet (Some (shares_of s.sheet)) cards.DEPTH (cards.held c)))
  moves s s' c c' (Arrive f l n) a k fair st = to s (Arrive f l n) st.0 st.1 (arrive_moves s f l n (arrive_rule s f l n).0 (arrive_rule s f l n).1 (arrivals_step_lem s f l n k fair) (arrives_so s f l n))
  moves s s' c c' (Send l) a k fair st = to s (Send l) st.0 st.1 (send_moves (Send l) s (send_rule cards.DEPTH (cards.held c) s l) (sends_step_lem cards.DEPTH (cards.held c) s l k fair) (send_sheet cards.DEPTH (cards.held c) s l))
  moves s s' c c' (Kick l) a k fair st = to s (Kick l) st.0 st.1 (send_moves (Kick l) s (kick_rule cards.DEPTH (cards.held c) s l) (kicks_step_lem cards.DEPTH (cards.held c) s l k fair) (kick_sheet cards.DEPTH (cards.held c) s l))
  moves s s' c c' Reap a k fair st = to s Reap st.3 st.4 (reap_moves s st.0 k)
  moves s s' c c' Time a k fair st = to s Time st.0 st.1 (still s s refl)
  moves s s' c c' Ready a k fair st = to s Ready st.0 st.1 (still s s refl)
  moves s s' c c' (Flow f) a k fair st = to s (Flow f) st.0 st.1 (still s s refl)

  quiet : (call : Call) {a a₀ : Answer} {s' s₀ : State} → a ≡ a₀ → s' ≡ s₀ → (told call a₀ ≡ share.nothing) × (s₀ ≡ empty blank) → First (told call a) s'
  quiet call p q h = inl (ap (told call) p ∙ h.0, q ∙ h.1)

  firsts : (s' : State) (c c' : C) (call : Call) (a : Answer) → Step cards.DEPTH cards.held cards.finishes (empty blank) c call a s' c' → First (told call a) s'
  firsts s' c c' (Load sheet) a st =
      let v = load_rule cards.DEPTH (cards.held c) (empty blank) (content_of sheet) in
      subst (λ x. First (told (Load sheet) x) s') (sym st.0) (subst (λ t. First (told (Load sheet) (Loaded v.0)) t) (sym st.1) (load_first sheet v.0 v.1 (loaded (empty blank) sheet None cards.DEPTH (cards.held c))))
  firsts s' c c' (Arrive f l n) a st = quiet (Arrive f l n) st.0 st.1 (arrive_quiet f l n)
  firsts s' c c' (Send l) a st = quiet (Send l) st.0 st.1 (send_quiet cards.DEPTH (cards.held c) l)
  firsts s' c c' (Kick l) a st = quiet (Kick l) st.0 st.1 (kick_quiet cards.DEPTH (cards.held c) l)
  firsts s' c c' Reap a st = quiet Reap st.3 st.4 (idle st.0)
  firsts s' c c' Time a st = quiet Time st.0 st.1 (refl, refl)
  firsts s' c c' Ready a st = quiet Ready st.0 st.1 (refl, refl)
  firsts s' c c' (Flow f) a st = quiet (Flow f) st.0 st.1 (refl, refl)

  next : (o : Option share.Sheet) (b : Board C cards) (call : Call) (answer : Answer) (b' : Board C cards) (c : step.Books) → At o (state_of b.books) c → Did cards b call answer b' → Next o (told call answer) (state_of b'.books) c
  next o b call answer b' c at did =
      let e = told call answer in
      let s = state_of b.books in
      let s' = state_of b'.books in
      ⊎_elim
      (λ (new : (o ≡ None) × (s ≡ empty blank) × (c ≡ bare None (empty blank))).
      let st = subst (λ t. Step cards.DEPTH cards.held cards.finishes t b.card call answer s' b'.card) new.1 did.step in
      subst (λ p. (c' : step.Books) × step.Step c e c' × At (sheet_after p e) s' c') (sym new.0)
      (subst (λ q. (c' : step.Books) × step.Step q e c' × At (sheet_after None e) s' c') (sym new.2)
      (⊎_elim
      (λ (rest : (e ≡ share.nothing) × (s' ≡ empty blank)).
      subst (λ x. (c' : step.Books) × step.Step (bare None (empty blank)) x c' × At (sheet_after None x) s' c') (sym rest.0) (bare None (empty blank), rests None (empty blank), inl (refl, rest.1, refl)))
      (λ (first : step.Step (bare None (empty blank)) e (books_of s') × (sheet_after None e ≡ Some (shares_of s'.sheet))). (books_of s', first.0, inr (first.1, refl)))
      (firsts s' b.card b'.card call answer st))))
      (λ (old : (o ≡ Some (shares_of s.sheet)) × (c ≡ books_of s)).
      let m = moves s s' b.card b'.card call answer (sound b.books) (books_fair_lem b.books) did.step in
      subst (λ p. (c' : step.Books) × step.Step c e c' × At (sheet_after p e) s' c') (sym old.0)
      (subst (λ q. (c' : step.Books) × step.Step q e c' × At (sheet_after (Some (shares_of s.sheet)) e) s' c') (sym old.1) (books_of s', m.0, inr (m.1, refl))))
      at

  -- a flight is a run of the law's books
  pub tied : {first : Board C cards} {log : List Entry} {b : Board C cards} → state_of first.books ≡ empty blank → Run cards first log b
      → (c : step.Books) × step.Runs (bare None (empty blank)) (map event log) c × At (share.seen (map event log)).sheet (state_of b.books) c
  tied new start = (bare None (empty blank), step.stop, inl (refl, new, refl))
  tied new (more {log = log} {b = b} {b' = b'} call answer run did) =
      let k = tied new run in
      let n = next (share.seen (map event log)).sheet b call answer b' k.0 k.2 did in
      (n.0, subst (λ es. step.Runs (bare None (empty blank)) es n.0) (sym (map_push event log (call, answer))) (runs_push (event (call, answer)) k.1 n.1), subst (λ o. At o (state_of b'.books) n.0) (sym (sheet_push log (call, answer))) n.2)
