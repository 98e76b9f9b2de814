-- What the engine's tables and its queue keep between calls.
use Rattle.std.proofs.Common.{Bool, List, None, Some, [], ◌<◌, ◌∷◌, ◌≡◌, ◌≢◌, ◌⊎◌, false, true, ℕ, ℤ}
use Rattle.rules.specs.Types.{Absent, At, End, Expression, Holding, Incoming, Line, Place, Standing, Store, int_value, truth_value}
use Rattle.rules.specs.Flowchart.{Branch, Guard, Node, Program, alt, assignment, input, input_guard, output, par, skip, skip_guard, stop, test}
use Rattle.rules.specs.Functions.{All, In}
use Rattle.rules.specs.Turns.{Record, Tables, all_valued, chooser, empty, outside, reader, writer}

-- the process is not absent
abbrev pub Present : Standing → Type 0
Present Absent = ⊥
Present (Holding n) = Unit {0}
Present (At s) = Unit {0}

-- p stands at an ALT of which a TRUE guard inputs from c
pub record ChoosesAt (pg : Program) (f : ℕ → Standing) (s : Store) (p c : ℕ) : Type 0 where
  pub line_number : ℕ
  pub guards : List Guard
  pub condition : Expression
  pub variable_number : ℕ
  pub to : Place
  pub stands : f p ≡ At (Line line_number)
  pub is_alt : pg.node line_number ≡ alt guards
  pub all_have_values : all_valued s guards ≡ true
  pub guard_in : In (input_guard condition c variable_number to) guards
  pub guard_true : truth_value s condition ≡ Some true

-- p stands at an input from c
pub record ReadsAt (pg : Program) (f : ℕ → Standing) (p c : ℕ) : Type 0 where
  pub line_number : ℕ
  pub variable_number : ℕ
  pub to : Place
  pub stands : f p ≡ At (Line line_number)
  pub is_input : pg.node line_number ≡ input c variable_number to

-- p stands at an output of v to c
pub record WritesAt (pg : Program) (f : ℕ → Standing) (s : Store) (p c : ℕ) (v : ℤ) : Type 0 where
  pub line_number : ℕ
  pub expression : Expression
  pub to : Place
  pub stands : f p ≡ At (Line line_number)
  pub is_output : pg.node line_number ≡ output c expression to
  pub has_value : int_value s expression ≡ Some v

-- what a record says, by its case
abbrev pub RecordOk : Program → (ℕ → Standing) → Store → (ℕ → Bool) → ℕ → Record → Type 0
RecordOk pg f s r c empty = Unit {0}
RecordOk pg f s r c (reader p) = (r p ≡ false) × ReadsAt pg f p c
RecordOk pg f s r c (writer p v) = (r p ≡ false) × WritesAt pg f s p c v
RecordOk pg f s r c (chooser p) = ChoosesAt pg f s p c
RecordOk pg f s r c (outside v) = (k : ℕ) × (pg.kind c ≡ Incoming k)

-- the record names the process
abbrev pub Names : Record → ℕ → Type 0
Names empty q = ⊥
Names (reader p) q = p ≡ q
Names (writer p v) q = p ≡ q
Names (chooser p) q = p ≡ q
Names (outside v) q = ⊥

-- no TRUE guard is SKIP, and each channel of a TRUE guard has p as chooser
abbrev pub Chosen : Store → (ℕ → Record) → ℕ → List Guard → Type 0
Chosen s f p [] = Unit {0}
Chosen s f p (skip_guard b to ∷ gs) = (truth_value s b ≢ Some true) × Chosen s f p gs
Chosen s f p (input_guard b c x to ∷ gs) = (truth_value s b ≡ Some true → f c ≡ chooser p) × Chosen s f p gs

-- why p, standing at the line, is not ready
abbrev pub Rests : Store → (ℕ → Record) → ℕ → Node → Type 0
Rests s f p (assignment x e to) = int_value s e ≡ None
Rests s f p (skip to) = ⊥
Rests s f p stop = Unit {0}
Rests s f p (input c x to) = f c ≡ reader p
Rests s f p (output c e to) = (int_value s e ≡ None) ⊎ ((v : ℤ) × (f c ≡ writer p v))
Rests s f p (test e a b) = truth_value s e ≡ None
Rests s f p (par bs to) = ⊥
Rests s f p (alt gs) = (all_valued s gs ≡ false) ⊎ Chosen s f p gs

-- the tables, and who is ready, fit each other
pub record Sound (pg : Program) (t : Tables) (r : ℕ → Bool) : Type 0 where
  pub rooted : Present (t.place 0)
  pub small : (p : ℕ) → Present (t.place p) → p < pg.processes
  pub owned : (p n : ℕ) → t.place p ≡ At (Line n) → pg.owner n ≡ p
  pub holder : (p n : ℕ) → t.place p ≡ Holding n → (pg.owner n ≡ p) × ((b : Branch) × (bs : List Branch) × (to : Place) × (pg.node n ≡ par (b ∷ bs) to))
  pub up : (p : ℕ) → Present (t.place p) → 0 < p → t.place (pg.parent p) ≡ Holding (pg.home p)
  pub unjoined : (p n : ℕ) (bs : List Branch) (to : Place) → t.place p ≡ Holding n → pg.node n ≡ par bs to → ¬ All (λ b. t.ended b.process ≡ true) bs
  pub ready_at : (p : ℕ) → r p ≡ true → (s : Place) × (t.place p ≡ At s)
  pub records : (c : ℕ) → RecordOk pg t.place t.variables r c (t.channel c)
  pub asleep : (p n : ℕ) → r p ≡ false → t.place p ≡ At (Line n) → Rests t.variables t.channel p (pg.node n)
  pub ended_is : (p : ℕ) → t.ended p ≡ true → (r p ≡ false) × (t.place p ≡ At End)
  pub asleep_ended : (p : ℕ) → r p ≡ false → t.place p ≡ At End → t.ended p ≡ true
