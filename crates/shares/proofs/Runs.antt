-- Runs, taken apart and made longer. Assumes nothing.
use Rattle.std.proofs.Common.{List, [], ◌∷◌, ◌++◌}
use Rattle.shares.specs.Events.{Event}
use Rattle.shares.specs.Steps.{Books, Step, Runs, stop, step}

pub halves : (pre post : List Event) {b b'' : Books} → Runs b (pre ++ post) b'' → (b' : Books) × Runs b pre b' × Runs b' post b''
halves [] post {b} run = (b, stop, run)
halves (e ∷ pre) post (step st run) = let h = halves pre post run in (h.0, step st h.1, h.2)

pub runs_append : {b b' b'' : Books} {es fs : List Event} → Runs b es b' → Runs b' fs b'' → Runs b (es ++ fs) b''
runs_append stop more = more
runs_append (step st run) more = step st (runs_append run more)

-- for code that adds each event to a log
pub runs_push : {b b' b'' : Books} {es : List Event} (e : Event) → Runs b es b' → Step b' e b'' → Runs b (es ++ (e ∷ [])) b''
runs_push e run st = runs_append run (step st stop)
