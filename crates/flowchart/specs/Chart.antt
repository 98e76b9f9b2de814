-- What the code's flowchart stands for in the rules.
use Rattle.std.specs.Prelude.{◌≡◌, ℕ, map, get_or, Some, None, vec_items, Option, slice_index_or}
use Rattle.std.proofs.Common.{lit<}
use Rattle.std.specs.Borrow.{Bor}
use Rattle.expressions.specs.Expression.{shape}
use Rattle.numbers.specs.Kinds.{Process, Variable}
use Rattle.rules.specs.declared.Kind.TheVariants.{Internal}
use Rattle.rules.specs.declared.Place.{Place}
use Rattle.rules.specs.Flowchart as chart
use Rattle.flowchart.specs.declared.program.Branch.{Branch}
use Rattle.flowchart.specs.declared.program.Guard.{Guard}
use Rattle.flowchart.specs.declared.program.Guard.TheVariants as guard
use Rattle.flowchart.specs.declared.program.Line.{Line}
use Rattle.flowchart.specs.declared.program.Node.{Node}
use Rattle.flowchart.specs.declared.program.Node.TheVariants.{Assignment, Skip, Stop, Input, Output, Test, Par, Alt}
use Rattle.flowchart.specs.declared.program.Origin.{Origin}
use Rattle.flowchart.specs.declared.program.Program.{Program}

abbrev pub guard_of : Guard → chart.Guard
guard_of (guard.Skip e to) = chart.skip_guard (shape e) to
guard_of (guard.Input e c x to) = chart.input_guard (shape e) c.number x.number to

abbrev pub branch_of : Branch → chart.Branch
branch_of b = record { process = b.process.number; entry = b.entry }

abbrev pub node_of : Node → chart.Node
node_of (Assignment x e to) = chart.assignment x.number (shape e) to
node_of (Skip to) = chart.skip to
node_of Stop = chart.stop
node_of (Input c x to) = chart.input c.number x.number to
node_of (Output c e to) = chart.output c.number (shape e) to
node_of (Test e a b) = chart.test (shape e) a b
node_of (Par bs to) = chart.par (map branch_of (vec_items bs)) to
node_of (Alt gs) = chart.alt (map guard_of (vec_items gs))

-- process 0
abbrev pub root : Process
root = record { number = 0; below = lit< tt }

-- where a process comes from that no PAR starts
abbrev pub rootless : Origin
rootless = record { parent = root; home = 0 }

-- what stands past the last line: a STOP of process 0
abbrev pub beyond : Line
beyond = record { node = Stop; owner = root; number = 0 }

-- the program of the rules
abbrev pub program_of : Program → chart.Program
program_of pg = record {
  node = λ n. node_of (get_or (vec_items pg.lines) n beyond).node;
  kind = λ c. slice_index_or pg.kinds c Internal;
  entry = pg.entry;
  processes = pg.processes;
  owner = λ n. (get_or (vec_items pg.lines) n beyond).owner.number;
  parent = λ p. (get_or pg.origins p rootless).parent.number;
  home = λ p. (get_or pg.origins p rootless).home;
}

-- what stands at line n
abbrev pub Noded : Program → ℕ → Option (Bor Node) → Type 0
Noded pg n None = (program_of pg).node n ≡ chart.stop
Noded pg n (Some x) = (program_of pg).node n ≡ node_of x.now

-- a variable by its number, and a place
abbrev pub exchanged : Variable × Place → ℕ × Place
exchanged r = (r.0.number, r.1)
