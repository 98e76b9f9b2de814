-- Engines that break the promise: each does as the engine does, but for one thing.
use Rattle.std.specs.Prelude.{true, ◌≡◌, List, [], ◌∷◌, ℕ, ℤ, Option, Some, None, Ok}
use Rattle.rules.specs.Types.{Moved, Slept, Stuck}
use Rattle.rules.specs.Answers.{message_of}
use Rattle.rules.specs.Functions.{changed}
use Rattle.rules.specs.Flowchart.{Guard, skip_guard, input_guard, Node, assignment, skip, stop, input, output, test, par, alt, Program}
use Rattle.rules.specs.Turns.{Record, empty, reader, writer, chooser, outside, Tables, line_of, Turn, no_rule, did, turn}
use Rattle.rules.specs.Calls.{Gives, StepBy}
use Rattle.rules.specs.History.{Engine, engine_by}
use Rattle.rules.specs.Promise.{KeepsPromise}

-- the guards of an ALT
abbrev pub guards_of : Node → List Guard
guards_of (assignment x e to) = []
guards_of (skip to) = []
guards_of stop = []
guards_of (input c x to) = []
guards_of (output c e to) = []
guards_of (test e a b) = []
guards_of (par bs to) = []
guards_of (alt gs) = gs

-- a writer's record is emptied, another stays
abbrev pub unwritten : Record → Record
unwritten empty = empty
unwritten (reader p) = reader p
unwritten (writer p v) = empty
unwritten (chooser p) = chooser p
unwritten (outside v) = outside v

-- the writers of all guards' channels are cleared
abbrev pub cleared : List Guard → (ℕ → Record) → ℕ → Record
cleared [] f = f
cleared (skip_guard e to ∷ gs) f = cleared gs f
cleared (input_guard e c x to ∷ gs) f = changed (cleared gs f) c (unwritten (cleared gs f c))

-- a turn after which the guards' writers are cleared
abbrev pub clearing : List Guard → Turn → Turn
clearing gs no_rule = no_rule
clearing gs (did a t ready) = did a (record { variables = t.variables; place = t.place; channel = cleared gs t.channel; ended = t.ended }) ready

-- an engine that clears a passed-over guard's writer
abbrev pub clears_writers : Engine
clears_writers = engine_by (StepBy (λ pg t p. clearing (guards_of (pg.node (line_of (t.place p)))) (turn pg t p)))

-- an engine that joins at the first end: it takes every branch for ended
abbrev pub joins_early : Engine
joins_early = engine_by (StepBy (λ pg t p. turn pg (record { variables = t.variables; place = t.place; channel = t.channel; ended = λ q. true }) p))

-- where the record holds an outside value, p sleeps and nothing changes
abbrev pub past_outside : Tables → ℕ → Record → Turn → Turn
past_outside t p empty tn = tn
past_outside t p (reader q) tn = tn
past_outside t p (writer q v) tn = tn
past_outside t p (chooser q) tn = tn
past_outside t p (outside v) tn = did (Slept p) t []

-- the same, of the channel that a turn passes a value on
abbrev pub past_message : Tables → ℕ → Option (ℕ × ℤ) → Turn → Turn
past_message t p None tn = tn
past_message t p (Some cv) tn = past_outside t p (t.channel cv.0) tn

-- a turn that passes no value from outside
abbrev pub sleeping : Tables → ℕ → Turn → Turn
sleeping t p no_rule = no_rule
sleeping t p (did a t' ready) = past_message t p (message_of a) (did a t' ready)

-- an engine that sleeps past a held outside value
abbrev pub sleeps_past : Engine
sleeps_past = engine_by (StepBy (λ pg t p. sleeping t p (turn pg t p)))

-- an engine that says stuck at once
abbrev pub stuck_early : Engine
stuck_early = engine_by (λ m r m'. (pg : Program) × (m.program ≡ Some pg) × Gives (Ok Stuck, m) r m')

-- an engine that answers moved and does nothing
abbrev pub moves_nothing : Engine
moves_nothing = engine_by (λ m r m'. (pg : Program) × (m.program ≡ Some pg) × Gives (Ok (Moved 0), m) r m')

-- none of them keeps the promise
abbrev pub WrongShutOut : Type 0
WrongShutOut = (¬ KeepsPromise clears_writers) × (¬ KeepsPromise joins_early) × (¬ KeepsPromise sleeps_past) × (¬ KeepsPromise stuck_early) × (¬ KeepsPromise moves_nothing)
