-- The engine's calls, over any queue: a queue means how often it holds each number.
use Rattle.std.specs.Prelude.{cond, ◌&&◌, ◌≡◌, ◌≢◌, List, [], ◌∷◌, ℕ, ◌-◌, ◌<◌, eqb, ltb, ℤ, Option, Some, None, Result, Ok, Err}
use Rattle.rules.specs.Types.{Outgoing, Incoming, Answer, Finished, Waits, Stuck, Taken, Held, Refusal, NoProgram, NoLink, LinkHolds, NoOutput, NoRule}
use Rattle.rules.specs.Flowchart.{Program}
use Rattle.rules.specs.Primary.{HasEnded}
use Rattle.rules.specs.Turns.{Record, empty, reader, writer, chooser, outside, Tables, view, go, write, mark, variable_at, follower, Turn, no_rule, did}

-- how often a queue holds each number; who is held is ready
abbrev pub Counts : Type 0
Counts = ℕ → ℕ

-- a take that handed over p
abbrev pub lowered : Counts → ℕ → Counts
lowered held p k = held k - cond (eqb k p) 1 0

-- a put of p: held once if it is a number up to 63 that was not held
abbrev pub readied : Counts → ℕ → Counts
readied held p k = cond (eqb k p && (ltb p 64 && eqb (held p) 0)) 1 (held k)

-- puts, one after the other
abbrev pub all_ready : Counts → List ℕ → Counts
all_ready held [] = held
all_ready held (p ∷ ps) = all_ready (readied held p) ps

-- an engine's state: the program if one is loaded, the tables, the queue
pub record Machine : Type 0 where
  pub program : Option Program
  pub tables : Tables
  pub held : Counts

-- the same program with other tables and another queue
abbrev pub next : Machine → Tables → Counts → Machine
next m t held = record { program = m.program; tables = t; held = held }

-- what a call comes to: its answer or refusal, and the state after it
abbrev pub Outcome : Type 0
Outcome = Result Answer Refusal × Machine

-- the call answered r and left m', as the outcome says
abbrev pub Gives : Outcome → Result Answer Refusal → Machine → Type 0
Gives o r m' = (r ≡ o.0) × (m' ≡ o.1)

-- a step that took p and did its turn; without a rule for it the number is put back
abbrev pub after_turn : Machine → ℕ → Turn → Outcome
after_turn m p (did a t ready) = (Ok a, next m t (all_ready (lowered m.held p) ready))
after_turn m p no_rule = (Err NoRule, next m m.tables (readied (lowered m.held p) p))

-- a process sleeps on a link
pub data SleepsOnLink (pg : Program) (t : Tables) : Type 0 where
  reading : (c a p : ℕ) → pg.kind c ≡ Incoming a → t.channel c ≡ reader p → SleepsOnLink pg t
  choosing : (c a p : ℕ) → pg.kind c ≡ Incoming a → t.channel c ≡ chooser p → SleepsOnLink pg t
  writing : (c a p : ℕ) (v : ℤ) → pg.kind c ≡ Outgoing a → t.channel c ≡ writer p v → SleepsOnLink pg t

-- the answer when the queue hands over nothing: finished when process 0 has ended; else waits when a process sleeps on a link, else stuck
pub data IdleAnswer (pg : Program) (t : Tables) : Answer → Type 0 where
  finishes : HasEnded (view t) → IdleAnswer pg t Finished
  awaits : ¬ HasEnded (view t) → SleepsOnLink pg t → IdleAnswer pg t Waits
  sticks : ¬ HasEnded (view t) → ¬ SleepsOnLink pg t → IdleAnswer pg t Stuck

-- a step, whose turns are as given: any number held may be handed over, and nothing exactly when none is
pub data StepBy (turn : Program → Tables → ℕ → Turn) (m : Machine) (r : Result Answer Refusal) (m' : Machine) : Type 0 where
  no_program : m.program ≡ None → Gives (Err NoProgram, m) r m' → StepBy turn m r m'
  turns : (pg : Program) (p : ℕ) → m.program ≡ Some pg → 0 < m.held p → Gives (after_turn m p (turn pg m.tables p)) r m' → StepBy turn m r m'
  idles : (pg : Program) (a : Answer) → m.program ≡ Some pg → ((p : ℕ) → m.held p ≡ 0) → IdleAnswer pg m.tables a → Gives (Ok a, m) r m' → StepBy turn m r m'

-- an offer of v at the incoming link c, by its record: a reader takes it and goes on; else the link keeps it, and a sleeping chooser becomes ready
abbrev pub offer_to : Program → Machine → ℕ → ℤ → Record → Outcome
offer_to pg m c v empty = (Ok (Held c v), next m (mark m.tables c (outside v)) m.held)
offer_to pg m c v (reader p) = (Ok (Taken p c v), next m (go (write (mark m.tables c empty) (variable_at pg m.tables p) v) p (follower pg m.tables p)) (readied m.held p))
offer_to pg m c v (writer p w) = (Err NoRule, m)
offer_to pg m c v (chooser p) = (Ok (Held c v), next m (mark m.tables c (outside v)) (readied m.held p))
offer_to pg m c v (outside w) = (Err LinkHolds, m)

-- an offer of the value v at the address a
pub data Offer (m : Machine) (a : ℕ) (v : ℤ) (r : Result Answer Refusal) (m' : Machine) : Type 0 where
  no_program : m.program ≡ None → Gives (Err NoProgram, m) r m' → Offer m a v r m'
  no_link : (pg : Program) → m.program ≡ Some pg → ((c : ℕ) → pg.kind c ≢ Incoming a) → Gives (Err NoLink, m) r m' → Offer m a v r m'
  at_link : (pg : Program) (c : ℕ) → m.program ≡ Some pg → pg.kind c ≡ Incoming a → Gives (offer_to pg m c v (m.tables.channel c)) r m' → Offer m a v r m'

-- a take at the outgoing link c, by its record: a waiting output's process goes on
abbrev pub take_from : Program → Machine → ℕ → Record → Outcome
take_from pg m c empty = (Err NoOutput, m)
take_from pg m c (reader p) = (Err NoOutput, m)
take_from pg m c (writer p v) = (Ok (Taken p c v), next m (go (mark m.tables c empty) p (follower pg m.tables p)) (readied m.held p))
take_from pg m c (chooser p) = (Err NoOutput, m)
take_from pg m c (outside v) = (Err NoOutput, m)

-- a take at the address a
pub data Take (m : Machine) (a : ℕ) (r : Result Answer Refusal) (m' : Machine) : Type 0 where
  no_program : m.program ≡ None → Gives (Err NoProgram, m) r m' → Take m a r m'
  no_link : (pg : Program) → m.program ≡ Some pg → ((c : ℕ) → pg.kind c ≢ Outgoing a) → Gives (Err NoLink, m) r m' → Take m a r m'
  at_link : (pg : Program) (c : ℕ) → m.program ≡ Some pg → pg.kind c ≡ Outgoing a → Gives (take_from pg m c (m.tables.channel c)) r m' → Take m a r m'
