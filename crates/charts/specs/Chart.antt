-- The flowchart of a list of lines. The lines below a line, or beside it, are those of one level in the lines after it, up to the first with fewer.
use Rattle.std.specs.Prelude.{true, cond, List, [], ◌∷◌, ℕ, zero, suc, ◌+◌, ◌-◌, eqb, ltb, length, get_or}
use Rattle.expressions.specs.Expression.{truth}
use Rattle.rules.specs.declared.Kind.{Kind}
use Rattle.rules.specs.declared.Place.{Place}
use Rattle.rules.specs.declared.Place.TheVariants.{Line, End}
use Rattle.rules.specs.Functions.{changed}
use Rattle.rules.specs.Flowchart as chart
use Rattle.rules.specs.Flowchart.{Branch, Guard, Node, Program}
use Rattle.lines.specs.Judgement as form
use Rattle.lines.specs.Judgement.{Formed}
use Rattle.lines.specs.Text.{Entered}
use Rattle.lines.specs.declared.syntax.Lone.{Lone}
use Rattle.lines.specs.declared.syntax.Lone.TheVariants as alone
use Rattle.structure.specs.Sorts.{manner, sort_of}
use Rattle.structure.specs.declared.sorts.Manner.{Manner}
use Rattle.structure.specs.declared.sorts.Manner.TheVariants.{Sequence, Branches, Loop, Choices, Body}

-- of a line with a levels: what is said of one with fewer than l, with l, with more
unfoldable pub compared : {A : Type 0} → ℕ → ℕ → A → A → A → A
compared a l fewer same more = cond (ltb a l) fewer (cond (eqb a l) same more)

-- how the lines below a line go on
abbrev pub manner_of : Entered → Manner
manner_of r = manner (sort_of r.form)

-- the first line of level l ahead, or k where there is none; i is the number of the first line
abbrev pub first_line_of : ℕ → List Entered → ℕ → Place → Place
first_line_of i [] l k = k
first_line_of i (r ∷ rs) l k = compared r.level l k (Line i) (first_line_of (i + 1) rs l k)

-- a SEQ is entered at its first process, an IF at its first choice, others at their line
abbrev pub through : Manner → Place → Place → Place → Place
through Sequence here process choice = process
through Branches here process choice = here
through Loop here process choice = here
through Choices here process choice = choice
through Body here process choice = here

-- where the lines of level l ahead are entered in turn: k, what follows them, where there is none
abbrev pub entered : ℕ → List Entered → ℕ → Place → Place
entered i [] l k = k
entered i (r ∷ rs) l k =
    compared r.level l k
    (through (manner_of r) (Line i) (entered (i + 1) rs (r.level + 1) (entered (i + 1) rs l k)) (first_line_of (i + 1) rs (r.level + 1) (Line i)))
    (entered (i + 1) rs l k)

-- where line i is entered, k being what follows it
abbrev pub entry : ℕ → Entered → List Entered → Place → Place
entry i r rs k = through (manner_of r) (Line i) (entered (i + 1) rs (r.level + 1) k) (first_line_of (i + 1) rs (r.level + 1) (Line i))

-- what stands around the lines of a level: how they go on, the line above them, its process, and what follows them
pub record Frame : Type 0 where
  pub manner : Manner
  pub home : ℕ
  pub owner : ℕ
  pub after : Place

-- at a line: what stands around each level, and how many processes have begun
pub record Context : Type 0 where
  pub frame : ℕ → Frame
  pub processes : ℕ

-- around the program: process 0, which leads to its end
abbrev pub outermost : Frame
outermost = record { manner = Body; home = 0; owner = 0; after = End }

-- before the first line
abbrev pub start : Context
start = record { frame = λ l. outermost; processes = 1 }

-- each process of a SEQ leads to the next; the last, and any other line, to what follows
abbrev pub onward : Manner → Place → Place → Place
onward Sequence next after = next
onward Branches next after = after
onward Loop next after = after
onward Choices next after = after
onward Body next after = after

-- what follows a line
abbrev pub follow : Context → ℕ → Entered → List Entered → Place
follow s i r rs = onward (s.frame r.level).manner (entered (i + 1) rs r.level (s.frame r.level).after) (s.frame r.level).after

-- what follows the lines below line i, of which k follows: a branch leads to its end, a loop's process back to the WHILE
abbrev pub after_below : Manner → ℕ → Place → Place
after_below Sequence i k = k
after_below Branches i k = End
after_below Loop i k = Line i
after_below Choices i k = k
after_below Body i k = k

-- x for a branch of a PAR, y for any other line
abbrev pub branching : {A : Type 0} → Manner → A → A → A
branching Sequence x y = y
branching Branches x y = x
branching Loop x y = y
branching Choices x y = y
branching Body x y = y

-- the process that the line belongs to: a branch of a PAR is the next one
abbrev pub own : Context → ℕ → Entered → List Entered → ℕ
own s i r rs = branching (s.frame r.level).manner s.processes (s.frame r.level).owner

-- what stands around the lines below line i
abbrev pub inside : Context → ℕ → Entered → List Entered → Frame
inside s i r rs = record { manner = manner_of r; home = i; owner = own s i r rs; after = after_below (manner_of r) i (follow s i r rs) }

-- after line i
abbrev pub next : Context → ℕ → Entered → List Entered → Context
next s i r rs = record { frame = changed s.frame (r.level + 1) (inside s i r rs); processes = branching (s.frame r.level).manner (s.processes + 1) s.processes }

-- f at line n of the lines rs, of which the first is line i; d past the last
abbrev pub at_line : {A : Type 0} → (Context → ℕ → Entered → List Entered → A) → A → Context → ℕ → List Entered → ℕ → A
at_line f d s i [] n = d
at_line f d s i (r ∷ rs) zero = f s i r rs
at_line f d s i (r ∷ rs) (suc n) = at_line f d (next s i r rs) (i + 1) rs n

-- a process that a PAR starts: the PAR's process and line, and where it starts
pub record Birth : Type 0 where
  pub parent : ℕ
  pub home : ℕ
  pub start : Place

-- the branches of all PARs, in text order
abbrev pub births : Context → ℕ → List Entered → List Birth
births s i [] = []
births s i (r ∷ rs) =
    branching (s.frame r.level).manner
    (record { parent = (s.frame r.level).owner; home = (s.frame r.level).home; start = entry i r rs End } ∷ births (next s i r rs) (i + 1) rs)
    (births (next s i r rs) (i + 1) rs)

-- the branches of the PAR at line n; q is the number of the first process of the list
abbrev pub branches_of : ℕ → ℕ → List Birth → List Branch
branches_of n q [] = []
branches_of n q (b ∷ bs) = cond (eqb b.home n) (record { process = q; entry = b.start } ∷ branches_of n (q + 1) bs) (branches_of n (q + 1) bs)

-- a line under an ALT as a guard that leads to a place, before other guards; an input without a condition has TRUE
abbrev pub guarded : Formed → Place → List Guard → List Guard
guarded (form.variables first count) to gs = gs
guarded (form.channels first count) to gs = gs
guarded (form.place c a) to gs = gs
guarded (form.lone l) to gs = gs
guarded (form.assign x e) to gs = gs
guarded (form.input c x) to gs = chart.input_guard (truth true) c x to ∷ gs
guarded (form.output c e) to gs = gs
guarded (form.while e) to gs = gs
guarded (form.choice e) to gs = gs
guarded (form.guard e c x) to gs = chart.input_guard e c x to ∷ gs
guarded (form.skip_guard e) to gs = chart.skip_guard e to ∷ gs

-- the guards of level l ahead, each leading to its process, and that to k
abbrev pub gathered : ℕ → List Entered → ℕ → Place → List Guard
gathered i [] l k = []
gathered i (r ∷ rs) l k = compared r.level l [] (guarded r.form (entered (i + 1) rs (r.level + 1) k) (gathered (i + 1) rs l k)) (gathered (i + 1) rs l k)

-- what stands at a line that is keywords alone; no process comes to a SEQ's line
abbrev pub lone_node : List Birth → Lone → Context → ℕ → Entered → List Entered → Node
lone_node bs alone.Skip s i r rs = chart.skip (follow s i r rs)
lone_node bs alone.Stop s i r rs = chart.stop
lone_node bs alone.Seq s i r rs = chart.stop
lone_node bs alone.Par s i r rs = chart.par (branches_of i 1 bs) (follow s i r rs)
lone_node bs alone.If s i r rs = chart.stop
lone_node bs alone.Alt s i r rs = chart.alt (gathered (i + 1) rs (r.level + 1) (follow s i r rs))
lone_node bs alone.PriAlt s i r rs = chart.alt (gathered (i + 1) rs (r.level + 1) (follow s i r rs))

-- what stands at a line, by its form; no process comes to a declaration's line, nor to a guard's
abbrev pub node_by : List Birth → Formed → Context → ℕ → Entered → List Entered → Node
node_by bs (form.variables first count) s i r rs = chart.stop
node_by bs (form.channels first count) s i r rs = chart.stop
node_by bs (form.place c a) s i r rs = chart.stop
node_by bs (form.lone l) s i r rs = lone_node bs l s i r rs
node_by bs (form.assign x e) s i r rs = chart.assignment x e (follow s i r rs)
node_by bs (form.input c x) s i r rs = chart.input c x (follow s i r rs)
node_by bs (form.output c e) s i r rs = chart.output c e (follow s i r rs)
node_by bs (form.while e) s i r rs = chart.test e (entered (i + 1) rs (r.level + 1) (Line i)) (follow s i r rs)
node_by bs (form.choice e) s i r rs =
    chart.test e (entered (i + 1) rs (r.level + 1) (follow s i r rs)) (first_line_of (i + 1) rs r.level (Line (s.frame r.level).home))
node_by bs (form.guard e c x) s i r rs = chart.stop
node_by bs (form.skip_guard e) s i r rs = chart.stop

-- what stands at a line
abbrev pub node_at : List Birth → Context → ℕ → Entered → List Entered → Node
node_at bs s i r rs = node_by bs r.form s i r rs

-- where process p comes from
abbrev pub born : List Entered → ℕ → Birth
born rs p = get_or (births start 0 rs) (p - 1) (record { parent = 0; home = 0; start = End })

-- the flowchart of the lines of a text whose channels are of those kinds
abbrev pub charted : List Entered → (ℕ → Kind) → Program
charted rs kinds = record {
  node = at_line (node_at (births start 0 rs)) chart.stop start 0 rs;
  kind = kinds;
  entry = entered 0 rs 0 End;
  processes = 1 + length (births start 0 rs);
  owner = at_line own 0 start 0 rs;
  parent = λ p. (born rs p).parent;
  home = λ p. (born rs p).home;
}
