-- A program as a flowchart: nodes by line, kinds of channel, the tree of processes.
use Rattle.std.specs.Prelude.{List, ℕ}
use Rattle.rules.specs.Types.{Expression, Place, Kind}

-- a guard of an ALT: `condition & SKIP`, or `condition & channel ? variable`, and the place of its process
pub data Guard : Type 0 where
  skip_guard : Expression → Place → Guard
  input_guard : Expression → ℕ → ℕ → Place → Guard

-- a guard's condition; one written without a condition has TRUE
abbrev pub condition_of : Guard → Expression
condition_of (skip_guard e to) = e
condition_of (input_guard e c x to) = e

-- a branch of a PAR: its process and the place where that starts
pub record Branch : Type 0 where
  pub process : ℕ
  pub entry : Place

-- what stands at a line, and the place or places that it leads to
pub data Node : Type 0 where
  -- variable := expression
  assignment : ℕ → Expression → Place → Node
  skip : Place → Node
  -- STOP, and the line of an IF, which is reached when no choice is TRUE
  stop : Node
  -- channel ? variable
  input : ℕ → ℕ → Place → Node
  -- channel ! expression
  output : ℕ → Expression → Place → Node
  -- a choice or WHILE: where TRUE leads, and where FALSE does
  test : Expression → Place → Place → Node
  par : List Branch → Place → Node
  alt : List Guard → Node

-- a program; processes, lines, channels and variables are numbers from 0, process 0 is the program itself
pub record Program : Type 0 where
  pub node : ℕ → Node
  pub kind : ℕ → Kind
  -- where process 0 starts
  pub entry : Place
  -- how many processes there are
  pub processes : ℕ
  -- the process that a line belongs to
  pub owner : ℕ → ℕ
  -- of a branch, the process of its PAR
  pub parent : ℕ → ℕ
  -- of a branch, the line of its PAR
  pub home : ℕ → ℕ
