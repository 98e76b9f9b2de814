-- Histories: lists of calls with their answers, and the states that they lead to.
use Rattle.std.specs.Prelude.{cond, ◌≡◌, List, [], ◌∷◌, ◌++◌, ℕ, ℤ, Option, Some, None, Result, Ok, Err}
use Rattle.rules.specs.Types.{Answer, Refusal, Fault}
use Rattle.rules.specs.Answers.{contents, message_of}
use Rattle.rules.specs.Flowchart.{Program}
use Rattle.rules.specs.Primary.{Told, sent, tell}
use Rattle.rules.specs.WellFormed.{WellFormed}
use Rattle.rules.specs.Turns.{Tables, begun, turn}
use Rattle.rules.specs.Calls.{readied, Machine, StepBy, Offer, Take}

-- a call with its answer
pub data Call : Type 0 where
  -- a load that accepted the program, and the number of processes that it answered
  loaded : Program → ℕ → Call
  -- a load that was refused, and the fault told
  load_refused : Fault → Call
  stepped : Result Answer Refusal → Call
  -- an offer of a value at an address
  offered : ℕ → ℤ → Result Answer Refusal → Call
  -- a take at an address
  took : ℕ → Result Answer Refusal → Call

-- an engine, by what a call with this answer makes of its state
abbrev pub Engine : Type 1
Engine = Machine → Call → Machine → Type 0

-- after an accepted load: the tables at the start, the queue cleared, process 0 ready
abbrev pub fresh : Program → Machine
fresh pg = record { program = Some pg; tables = begun pg; held = readied (λ p. 0) 0 }

-- an engine whose steps are as given; a load accepts well-formed programs and answers how many processes they have, a refused one changes nothing
abbrev pub engine_by : (Machine → Result Answer Refusal → Machine → Type 0) → Engine
engine_by steps m (loaded pg n) m' = WellFormed pg × (n ≡ pg.processes) × (m' ≡ fresh pg)
engine_by steps m (load_refused f) m' = m' ≡ m
engine_by steps m (stepped r) m' = steps m r m'
engine_by steps m (offered a v r) m' = Offer m a v r m'
engine_by steps m (took a r) m' = Take m a r m'

-- the engine
abbrev pub engine : Engine
engine = engine_by (StepBy turn)

-- the history leads to the state: a new engine has no program and an empty queue, whatever its tables; then call by call
pub data Reached (does : Engine) : List Call → Machine → Type 0 where
  new : (t : Tables) → Reached does [] (record { program = None; tables = t; held = λ p. 0 })
  also : {calls : List Call} {m m' : Machine} (c : Call) → Reached does calls m → does m c m' → Reached does (calls ++ (c ∷ [])) m'

-- a channel and value as a communication
abbrev pub communication : Option (ℕ × ℤ) → Option Told
communication None = None
communication (Some cv) = Some (sent cv.0 cv.1)

-- what was told, and then what the answer tells; a refusal tells nothing
abbrev pub also_told : Result Answer Refusal → List Told → List Told
also_told (Ok x) ts = tell (cond (contents x).2 (communication (message_of x)) None) ts
also_told (Err e) ts = ts

-- the program last accepted and what was told since, with one call more
abbrev pub with_call : Call → Option Program × List Told → Option Program × List Told
with_call (loaded pg n) before = (Some pg, [])
with_call (load_refused f) before = before
with_call (stepped r) before = (before.0, also_told r before.1)
with_call (offered a v r) before = (before.0, also_told r before.1)
with_call (took a r) before = (before.0, also_told r before.1)

-- the same with any calls more
abbrev pub with_calls : Option Program × List Told → List Call → Option Program × List Told
with_calls before [] = before
with_calls before (c ∷ calls) = with_calls (with_call c before) calls

-- the program last accepted, if any was
abbrev pub last_accepted : List Call → Option Program
last_accepted calls = (with_calls (None, []) calls).0

-- the communications told since the last accepted load, in order
abbrev pub told : List Call → List Told
told calls = (with_calls (None, []) calls).1
