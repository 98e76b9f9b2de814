-- What an accepted program is known for: its tree of processes, its places, its use of variables, channels and links.
use Rattle.std.specs.Prelude.{◌≢◌, ◌≡◌, List, [], ◌∷◌, ℕ, ◌<◌, ◌≤◌}
use Rattle.rules.specs.Types.{Expression, Reads, Place, Line, End, Outgoing, Incoming}
use Rattle.rules.specs.Functions.{In, All}
use Rattle.rules.specs.Flowchart.{Guard, skip_guard, input_guard, condition_of, Branch, Node, assignment, skip, stop, input, output, test, par, alt, Program}

-- the line reads the variable x
pub data LineReads (m : Node) (x : ℕ) : Type 0 where
  in_assignment : (y : ℕ) (e : Expression) (to : Place) → m ≡ assignment y e to → Reads e x → LineReads m x
  in_output : (c : ℕ) (e : Expression) (to : Place) → m ≡ output c e to → Reads e x → LineReads m x
  in_test : (e : Expression) (a b : Place) → m ≡ test e a b → Reads e x → LineReads m x
  in_condition : (gs : List Guard) (g : Guard) → m ≡ alt gs → In g gs → Reads (condition_of g) x → LineReads m x

-- the line inputs from the channel c into the variable x
pub data LineInputs (m : Node) (c x : ℕ) : Type 0 where
  at_input : (to : Place) → m ≡ input c x to → LineInputs m c x
  at_guard : (gs : List Guard) (e : Expression) (to : Place) → m ≡ alt gs → In (input_guard e c x to) gs → LineInputs m c x

-- the line outputs to the channel c
pub data LineOutputs (m : Node) (c : ℕ) : Type 0 where
  at_output : (e : Expression) (to : Place) → m ≡ output c e to → LineOutputs m c

-- the line writes the variable x, by an assignment or by what it inputs
pub data LineWrites (m : Node) (x : ℕ) : Type 0 where
  by_assignment : (e : Expression) (to : Place) → m ≡ assignment x e to → LineWrites m x
  by_receiving : (c : ℕ) → LineInputs m c x → LineWrites m x

-- two lines of two branches of one PAR
pub record Apart (m n : Node) : Type 0 where
  -- what one writes the other does not read
  pub none_reads : (x : ℕ) → LineWrites m x → LineReads n x → ⊥
  -- no channel is input by both
  pub one_inputs : (c x y : ℕ) → LineInputs m c x → LineInputs n c y → ⊥
  -- no channel is output by both
  pub one_outputs : (c : ℕ) → LineOutputs m c → LineOutputs n c → ⊥

-- p is the process b, or stands below it in the tree of processes
pub data Under (pg : Program) (b : ℕ) : ℕ → Type 0 where
  itself : Under pg b b
  below : {p : ℕ} → 0 < p → Under pg b (pg.parent p) → Under pg b p

-- the place is a line of process p, or its end
abbrev pub Inside : Program → ℕ → Place → Type 0
Inside pg p (Line n) = pg.owner n ≡ p
Inside pg p End = Unit {0}

-- each guard leads to a place of process p
abbrev pub GuardsInside : Program → ℕ → List Guard → Type 0
GuardsInside pg p [] = Unit {0}
GuardsInside pg p (skip_guard e to ∷ gs) = Inside pg p to × GuardsInside pg p gs
GuardsInside pg p (input_guard e c x to ∷ gs) = Inside pg p to × GuardsInside pg p gs

-- the line leads to places of process p
abbrev pub Leads : Program → ℕ → Node → Type 0
Leads pg p (assignment x e to) = Inside pg p to
Leads pg p (skip to) = Inside pg p to
Leads pg p stop = Unit {0}
Leads pg p (input c x to) = Inside pg p to
Leads pg p (output c e to) = Inside pg p to
Leads pg p (test e a b) = Inside pg p a × Inside pg p b
Leads pg p (par bs to) = Inside pg p to
Leads pg p (alt gs) = GuardsInside pg p gs

-- b is a branch of the PAR at line n
pub record BranchOf (pg : Program) (n : ℕ) (b : Branch) : Type 0 where
  -- it is one of the program's processes
  pub counted : b.process < pg.processes
  -- it comes after the process of the PAR
  pub later : pg.owner n < b.process
  -- its parent is the process of the PAR
  pub parent_is : pg.parent b.process ≡ pg.owner n
  -- its home is the PAR's line
  pub home_is : pg.home b.process ≡ n
  -- it starts at a line of its own, or at its end
  pub inside : Inside pg b.process b.entry

-- an accepted program
pub record WellFormed (pg : Program) : Type 0 where
  -- there is process 0
  pub root : 0 < pg.processes
  -- there are at most 64 processes
  pub few : pg.processes ≤ 64
  -- a parent comes before its branches
  pub older : (p : ℕ) → 0 < p → p < pg.processes → pg.parent p < p
  -- the program starts in process 0
  pub entry_inside : Inside pg 0 pg.entry
  -- a line leads to places of its own process
  pub leads : (n : ℕ) → Leads pg (pg.owner n) (pg.node n)
  -- what a PAR lists are its branches
  pub branches : (n : ℕ) (bs : List Branch) (to : Place) → pg.node n ≡ par bs to → All (BranchOf pg n) bs
  -- the PAR at a branch's home lists it
  pub listed : (q : ℕ) → 0 < q → q < pg.processes → (bs : List Branch) (to : Place) → pg.node (pg.home q) ≡ par bs to →
      (b : Branch) × In b bs × (q ≡ b.process)
  -- the usage rule: any line under one branch of a PAR is apart from any line under another
  pub apart : (a b m n : ℕ) → 0 < a → 0 < b → a ≢ b → pg.parent a ≡ pg.parent b → pg.home a ≡ pg.home b →
      Under pg a (pg.owner m) → Under pg b (pg.owner n) → Apart (pg.node m) (pg.node n)
  -- no line inputs from an outgoing link
  pub inputs_in : (n c x a : ℕ) → LineInputs (pg.node n) c x → pg.kind c ≢ Outgoing a
  -- no line outputs to an incoming link
  pub outputs_out : (n c a : ℕ) → LineOutputs (pg.node n) c → pg.kind c ≢ Incoming a
  -- no two channels are outgoing links at one address
  pub one_outgoing : (c d a : ℕ) → pg.kind c ≡ Outgoing a → pg.kind d ≡ Outgoing a → c ≡ d
  -- no two channels are incoming links at one address; so an address names at most one link
  pub one_incoming : (c d a : ℕ) → pg.kind c ≡ Incoming a → pg.kind d ≡ Incoming a → c ≡ d
