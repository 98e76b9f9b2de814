-- The promise: what every history of an engine is owed at the state that it leads to.
use Rattle.std.specs.Prelude.{◌≡◌, ◌⊎◌, ◌≢◌, List, [], ◌∷◌, ◌++◌, ℕ, ◌+◌, ◌<◌, length, ℤ, Some, None, Result, Ok, Err}
use Rattle.rules.specs.Types.{Incoming, Outgoing, Answer, Halted, Moved, Slept, Passed, Ended, Finished, Waits, Stuck, Taken, Held, Refusal, NoRule}
use Rattle.rules.specs.Functions.{In, Any}
use Rattle.rules.specs.Flowchart.{Program}
use Rattle.rules.specs.Primary.{State, Told, sent, Fires, LinkOut, Puts, Run, CanFire, CanLinkOut, HasEnded, Outside, initial}
use Rattle.rules.specs.WellFormed.{WellFormed}
use Rattle.rules.specs.Turns.{view, turn}
use Rattle.rules.specs.Calls.{Machine, StepBy, Offer, Take}
use Rattle.rules.specs.History.{Call, loaded, load_refused, stepped, offered, took, Engine, Reached, told, last_accepted}

-- what a step's answer means: which rule fired between the two states, if any; the answer's process took part in it
pub data StepMeans (pg : Program) (s : State) : Answer → State → Type 0 where
  halted : (p : ℕ) → StepMeans pg s (Halted p) s
  moved : (p : ℕ) {ps : List ℕ} {s' : State} → In p ps → Fires pg s ps None s' → StepMeans pg s (Moved p) s'
  slept : (p : ℕ) → StepMeans pg s (Slept p) s
  passed : (p c : ℕ) (v : ℤ) {ps : List ℕ} {s' : State} → In p ps → Fires pg s ps (Some (sent c v)) s' → StepMeans pg s (Passed p c v) s'
  ended : (p : ℕ) → StepMeans pg s (Ended p) s
  finished : HasEnded s → StepMeans pg s Finished s
  waits : StepMeans pg s Waits s
  stuck : StepMeans pg s Stuck s

-- what the answer to an offer of v at the address a means: held, the outside's put; taken, that and then link in
pub data OfferMeans (pg : Program) (s : State) (a : ℕ) (v : ℤ) : Answer → State → Type 0 where
  passed_in : (p c : ℕ) {s₁ s' : State} → pg.kind c ≡ Incoming a → Puts pg s c v s₁ → Fires pg s₁ (p ∷ []) (Some (sent c v)) s' → OfferMeans pg s a v (Taken p c v) s'
  held : (c : ℕ) {s' : State} → pg.kind c ≡ Incoming a → Puts pg s c v s' → OfferMeans pg s a v (Held c v) s'

-- what the answer to a take at the address a means: link out
pub data TakeMeans (pg : Program) (s : State) (a : ℕ) : Answer → State → Type 0 where
  passed_out : (p c : ℕ) (v : ℤ) {s' : State} → pg.kind c ≡ Outgoing a → LinkOut pg s p (sent c v) s' → TakeMeans pg s a (Taken p c v) s'

-- a refused call fires no rule; and no call is refused for want of a rule
abbrev pub RefusalMeans : State → Refusal → State → Type 0
RefusalMeans s e s' = (e ≢ NoRule) × (s' ≡ s)

-- what a call with its answer means, between the state before and the state after
abbrev pub Means : Program → State → Call → State → Type 0
Means pg s (loaded pg' n) s' = s' ≡ initial pg'
Means pg s (load_refused f) s' = s' ≡ s
Means pg s (stepped (Ok x)) s' = StepMeans pg s x s'
Means pg s (stepped (Err e)) s' = RefusalMeans s e s'
Means pg s (offered a v (Ok x)) s' = OfferMeans pg s a v x s'
Means pg s (offered a v (Err e)) s' = RefusalMeans s e s'
Means pg s (took a (Ok x)) s' = TakeMeans pg s a x s'
Means pg s (took a (Err e)) s' = RefusalMeans s e s'

-- a put or a take of the outside would fire a rule or let one fire
abbrev pub OneHelps : Program → State → Type 0
OneHelps pg s = CanLinkOut pg s ⊎ ((c : ℕ) × (v : ℤ) × (s' : State) × Puts pg s c v s' × CanFire pg s')

-- the engine itself would answer such an offer with taken, or with held and then a rule can fire, or such a take with taken
pub data CallHelps (does : Engine) (pg : Program) (m : Machine) : Type 0 where
  offer_taken : (a p c : ℕ) (v : ℤ) (m' : Machine) → does m (offered a v (Ok (Taken p c v))) m' → CallHelps does pg m
  offer_held : (a c : ℕ) (v : ℤ) (m' : Machine) → does m (offered a v (Ok (Held c v))) m' → CanFire pg (view m'.tables) → CallHelps does pg m
  take_taken : (a p c : ℕ) (v : ℤ) (m' : Machine) → does m (took a (Ok (Taken p c v))) m' → CallHelps does pg m

-- offers and takes of the engine's own, one after the other
pub data OutsideCalls (does : Engine) (m : Machine) : Machine → Type 0 where
  no_call : OutsideCalls does m m
  then_offered : {k k' : Machine} (a : ℕ) (v : ℤ) (r : Result Answer Refusal) → OutsideCalls does m k → does k (offered a v r) k' → OutsideCalls does m k'
  then_took : {k k' : Machine} (a : ℕ) (r : Result Answer Refusal) → OutsideCalls does m k → does k (took a r) k' → OutsideCalls does m k'

-- steps one after the other, with their answers
pub data StepsInARow (does : Engine) : Machine → List (Result Answer Refusal) → Type 0 where
  no_step : {m : Machine} → StepsInARow does m []
  one_more : {m m' : Machine} {r : Result Answer Refusal} {rs : List (Result Answer Refusal)} → does m (stepped r) m' → StepsInARow does m' rs → StepsInARow does m (r ∷ rs)

-- the answer says that a rule fired, or is finished, waits or stuck
pub data Settles : Result Answer Refusal → Type 0 where
  by_moving : (p : ℕ) → Settles (Ok (Moved p))
  by_passing : (p c : ℕ) (v : ℤ) → Settles (Ok (Passed p c v))
  by_finishing : Settles (Ok Finished)
  by_waiting : Settles (Ok Waits)
  by_sticking : Settles (Ok Stuck)

-- what is owed at a state, of the program last accepted and what was told since
pub record Kept (does : Engine) (pg : Program) (ts : List Told) (m : Machine) : Type 0 where
  -- some run of the program has told the same, in the same order, and stands at the engine's variables, places and links
  pub fits : Run pg (view m.tables) ts
  -- if a step now answers waits, no rule can fire, and an offer or a take would fire one or let one fire, by the rules and by the engine's own answers
  pub waiting : (m' : Machine) → does m (stepped (Ok Waits)) m' → (¬ CanFire pg (view m.tables)) × OneHelps pg (view m.tables) × CallHelps does pg m
  -- if a step now answers stuck, the program has not ended, and no rule can fire now, or in or after any offers and takes, by the rules and by the engine's own answers
  pub sticking : (m' : Machine) → does m (stepped (Ok Stuck)) m' →
      (¬ HasEnded (view m.tables)) ×
      ((s : State) → Outside pg (view m.tables) s → (¬ CanFire pg s) × (¬ CanLinkOut pg s)) ×
      ((k : Machine) → OutsideCalls does m k → (¬ CanFire pg (view k.tables)) × (¬ CallHelps does pg k))
  -- of any P + 1 steps in a row one fires a rule or answers finished, waits or stuck
  pub moving : (rs : List (Result Answer Refusal)) → StepsInARow does m rs → length rs ≡ pg.processes + 1 → Any Settles rs
  -- moved, passed and taken mean that exactly that rule fired, every other answer that none did, and no turn meets a record that it has no rule for
  pub meant : (c : Call) (m' : Machine) → does m c m' → Means pg (view m.tables) c (view m'.tables)

-- the promise to a history at the state that it leads to
pub record Promise (does : Engine) (calls : List Call) (m : Machine) : Type 0 where
  -- the engine runs the program last accepted
  pub in_force : m.program ≡ last_accepted calls
  -- and keeps what is owed of it; before any load is accepted nothing is
  pub kept : (pg : Program) → last_accepted calls ≡ Some pg → Kept does pg (told calls) m

-- every history of the engine is kept the promise
abbrev pub KeepsPromise : Engine → Type 0
KeepsPromise does = (calls : List Call) (m : Machine) → Reached does calls m → Promise does calls m

-- a call that carries the promise on: whatever history led to the state before, with this call it leads to the state after, and is kept the promise there
abbrev pub Carries : Engine → Machine → Call → Machine → Type 0
Carries does m c m' = (calls : List Call) → Reached does calls m → Reached does (calls ++ (c ∷ [])) m' × Promise does (calls ++ (c ∷ [])) m'

-- two different numbers are held, so a queue may hand over either
abbrev pub TwoHeld : Machine → Type 0
TwoHeld m = (p : ℕ) × (q : ℕ) × (p ≢ q) × (0 < m.held p) × (0 < m.held q)

-- with a well-formed program loaded, a call has one answer and leaves one state, but for the number that a queue hands over
abbrev pub Pinned : Type 0
Pinned = (pg : Program) (m : Machine) → WellFormed pg → m.program ≡ Some pg → (r r' : Result Answer Refusal) (m₁ m₂ : Machine) →
    (StepBy turn m r m₁ → StepBy turn m r' m₂ → ((r ≡ r') × (m₁ ≡ m₂)) ⊎ TwoHeld m) ×
    ((a : ℕ) (v : ℤ) → Offer m a v r m₁ → Offer m a v r' m₂ → (r ≡ r') × (m₁ ≡ m₂)) ×
    ((a : ℕ) → Take m a r m₁ → Take m a r' m₂ → (r ≡ r') × (m₁ ≡ m₂))
