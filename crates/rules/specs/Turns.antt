-- The engine's tables, and a turn of a process: what is answered, the tables after it, and who becomes ready, in order.
use Rattle.std.specs.Prelude.{Bool, true, false, cond, ◌&&◌, ◌||◌, List, [], ◌∷◌, map, ℕ, eqb, ℤ, pos, Option, Some, None}
use Rattle.rules.specs.Types.{option_is_some, Store, int_value, truth_value, Place, Line, End, Standing, Absent, Holding, At, Kind, Internal, Outgoing, Incoming, Answer, Halted, Moved, Slept, Passed, Ended}
use Rattle.rules.specs.Functions.{changed}
use Rattle.rules.specs.Flowchart.{Guard, skip_guard, input_guard, condition_of, Branch, Node, assignment, skip, stop, input, output, test, par, alt, Program}
use Rattle.rules.specs.Primary.{State, starts, leaves}

-- a channel's record: who waits there, or the value from outside that the link holds
pub data Record : Type 0 where
  empty : Record
  reader : ℕ → Record
  writer : ℕ → ℤ → Record
  chooser : ℕ → Record
  outside : ℤ → Record

-- the variables, where each process stands, each channel's record, and which branches have had their end's turn since they started
pub record Tables : Type 0 where
  pub variables : Store
  pub place : ℕ → Standing
  pub channel : ℕ → Record
  pub ended : ℕ → Bool

-- the tables of a program that is started: process 0 at its entry
abbrev pub begun : Program → Tables
begun pg = record { variables = λ x. pos 0; place = changed (λ p. Absent) 0 (At pg.entry); channel = λ c. empty; ended = λ p. false }

-- the value from outside in a record
abbrev pub held_value : Record → Option ℤ
held_value empty = None
held_value (reader p) = None
held_value (writer p v) = None
held_value (chooser p) = None
held_value (outside v) = Some v

-- the engine's variables, places and links
abbrev pub view : Tables → State
view t = record { variables = t.variables; place = t.place; link = λ c. held_value (t.channel c) }

-- process p moves on to a place
abbrev pub go : Tables → ℕ → Place → Tables
go t p to = record { variables = t.variables; place = changed t.place p (At to); channel = t.channel; ended = t.ended }

-- variable x takes the value v
abbrev pub write : Tables → ℕ → ℤ → Tables
write t x v = record { variables = changed t.variables x v; place = t.place; channel = t.channel; ended = t.ended }

-- channel c has the record k
abbrev pub mark : Tables → ℕ → Record → Tables
mark t c k = record { variables = t.variables; place = t.place; channel = changed t.channel c k; ended = t.ended }

-- branch p has had its end's turn
abbrev pub finish : Tables → ℕ → Tables
finish t p = record { variables = t.variables; place = t.place; channel = t.channel; ended = changed t.ended p true }

-- what a turn gives: its answer, the tables after it and who becomes ready in order; or there is no rule for it
pub data Turn : Type 0 where
  no_rule : Turn
  did : Answer → Tables → List ℕ → Turn

-- the line of a process that waits in a record
abbrev pub line_of : Standing → ℕ
line_of Absent = 0
line_of (Holding n) = n
line_of (At (Line n)) = n
line_of (At End) = 0

-- of an input or output, the variable that it receives into and the place that it leads to
abbrev pub exchange : Node → ℕ × Place
exchange (assignment x e to) = (0, End)
exchange (skip to) = (0, End)
exchange stop = (0, End)
exchange (input c x to) = (x, to)
exchange (output c e to) = (0, to)
exchange (test e a b) = (0, End)
exchange (par bs to) = (0, End)
exchange (alt gs) = (0, End)

-- the variable that the partner q receives into
abbrev pub variable_at : Program → Tables → ℕ → ℕ
variable_at pg t q = (exchange (pg.node (line_of (t.place q)))).0

-- where the partner q goes on
abbrev pub follower : Program → Tables → ℕ → Place
follower pg t q = (exchange (pg.node (line_of (t.place q)))).1

-- a missing value halts the process, for good
abbrev pub after_value : {A : Type 0} → Option A → Tables → ℕ → (A → Turn) → Turn
after_value None t p f = did (Halted p) t []
after_value (Some v) t p f = f v

-- input: from a writer, both go on; from an outside value, the process goes on; the record empties. An empty record makes it the reader
abbrev pub input_turn : Program → Tables → ℕ → ℕ → ℕ → Place → Record → Turn
input_turn pg t p c x to empty = did (Slept p) (mark t c (reader p)) []
input_turn pg t p c x to (reader q) = no_rule
input_turn pg t p c x to (writer q v) = did (Passed p c v) (go (go (write (mark t c empty) x v) q (follower pg t q)) p to) (q ∷ (p ∷ []))
input_turn pg t p c x to (chooser q) = no_rule
input_turn pg t p c x to (outside v) = did (Passed p c v) (go (write (mark t c empty) x v) p to) (p ∷ [])

-- output to an internal channel: to a reader, both go on and the record empties; otherwise it becomes the writer, and a sleeping chooser becomes ready
abbrev pub internal_output : Program → Tables → ℕ → ℕ → ℤ → Place → Record → Turn
internal_output pg t p c v to empty = did (Slept p) (mark t c (writer p v)) []
internal_output pg t p c v to (reader q) = did (Passed p c v) (go (go (write (mark t c empty) (variable_at pg t q) v) q (follower pg t q)) p to) (q ∷ (p ∷ []))
internal_output pg t p c v to (writer q w) = no_rule
internal_output pg t p c v to (chooser q) = did (Slept p) (mark t c (writer p v)) (q ∷ [])
internal_output pg t p c v to (outside w) = no_rule

-- output to an outgoing link: it becomes the writer
abbrev pub link_output : Tables → ℕ → ℕ → ℤ → Record → Turn
link_output t p c v empty = did (Slept p) (mark t c (writer p v)) []
link_output t p c v (reader q) = no_rule
link_output t p c v (writer q w) = no_rule
link_output t p c v (chooser q) = no_rule
link_output t p c v (outside w) = no_rule

-- output, by the channel's kind
abbrev pub output_turn : Program → Tables → ℕ → ℕ → ℤ → Place → Kind → Turn
output_turn pg t p c v to Internal = internal_output pg t p c v to (t.channel c)
output_turn pg t p c v to (Outgoing a) = link_output t p c v (t.channel c)
output_turn pg t p c v to (Incoming a) = no_rule

-- which guard an ALT takes: none; one that meets a record without a rule; a SKIP; an input from a writer; an input of an outside value
pub data Choice : Type 0 where
  no_guard : Choice
  unruled : Choice
  by_skip : Place → Choice
  by_writer : ℕ → ℕ → Place → ℕ → ℤ → Choice
  by_outside : ℕ → ℕ → Place → ℤ → Choice

-- an input guard of process p, by the channel's record; else the guards that follow
abbrev pub guard_record : ℕ → ℕ → ℕ → Place → Record → Choice → Choice
guard_record p c x to empty rest = rest
guard_record p c x to (reader q) rest = unruled
guard_record p c x to (writer q v) rest = by_writer c x to q v
guard_record p c x to (chooser q) rest = cond (eqb q p) rest unruled
guard_record p c x to (outside v) rest = by_outside c x to v

-- a guard counts where its condition is TRUE
abbrev pub if_true : Option Bool → Choice → Choice → Choice
if_true None a b = b
if_true (Some true) a b = a
if_true (Some false) a b = b

-- the first TRUE guard in text order that is SKIP or has a writer or an outside value
abbrev pub choose : Tables → ℕ → List Guard → Choice
choose t p [] = no_guard
choose t p (skip_guard e to ∷ gs) = if_true (truth_value t.variables e) (by_skip to) (choose t p gs)
choose t p (input_guard e c x to ∷ gs) = if_true (truth_value t.variables e) (guard_record p c x to (t.channel c) (choose t p gs)) (choose t p gs)

-- the condition has the value TRUE
abbrev pub is_true : Option Bool → Bool
is_true None = false
is_true (Some b) = b

-- every condition has a value
abbrev pub all_valued : Store → List Guard → Bool
all_valued s [] = true
all_valued s (g ∷ gs) = option_is_some (truth_value s (condition_of g)) && all_valued s gs

-- some guard is TRUE
abbrev pub any_true : Store → List Guard → Bool
any_true s [] = false
any_true s (g ∷ gs) = is_true (truth_value s (condition_of g)) || any_true s gs

-- all channels of TRUE guards get p as chooser
abbrev pub enlist : Store → ℕ → List Guard → (ℕ → Record) → ℕ → Record
enlist s p [] f = f
enlist s p (skip_guard e to ∷ gs) f = enlist s p gs f
enlist s p (input_guard e c x to ∷ gs) f = cond (is_true (truth_value s e)) (changed (enlist s p gs f) c (chooser p)) (enlist s p gs f)

-- a record that names p as chooser empties
abbrev pub release : ℕ → Record → Record
release p empty = empty
release p (reader q) = reader q
release p (writer q v) = writer q v
release p (chooser q) = cond (eqb q p) empty (chooser q)
release p (outside v) = outside v

-- p has been made the chooser of its TRUE guards' channels
abbrev pub enlisted : Tables → ℕ → List Guard → Tables
enlisted t p gs = record { variables = t.variables; place = t.place; channel = enlist t.variables p gs t.channel; ended = t.ended }

-- every record naming p as chooser has been emptied
abbrev pub freed : Tables → ℕ → Tables
freed t p = record { variables = t.variables; place = t.place; channel = λ c. release p (t.channel c); ended = t.ended }

-- ALT, by the guard taken; without a TRUE guard it halts, for good
abbrev pub alt_turn : Program → Tables → ℕ → List Guard → Choice → Turn
alt_turn pg t p gs no_guard = cond (any_true t.variables gs) (did (Slept p) (enlisted t p gs) []) (did (Halted p) t [])
alt_turn pg t p gs unruled = no_rule
alt_turn pg t p gs (by_skip to) = did (Moved p) (go (freed t p) p to) (p ∷ [])
alt_turn pg t p gs (by_writer c x to q v) = did (Passed p c v) (go (go (write (freed (mark t c empty) p) x v) q (follower pg t q)) p to) (q ∷ (p ∷ []))
alt_turn pg t p gs (by_outside c x to v) = did (Passed p c v) (go (write (freed (mark t c empty) p) x v) p to) (p ∷ [])

-- the process holds, and each branch stands at its entry
abbrev pub split : Tables → ℕ → ℕ → List Branch → Tables
split t p n bs = record { variables = t.variables; place = starts bs (changed t.place p (Holding n)); channel = t.channel; ended = t.ended }

-- PAR: the branches become ready in text order; without branches it moves on
abbrev pub par_turn : Tables → ℕ → ℕ → Place → List Branch → Turn
par_turn t p n to [] = did (Moved p) (go t p to) (p ∷ [])
par_turn t p n to (b ∷ bs) = did (Moved p) (split t p n (b ∷ bs)) (map (λ a. a.process) (b ∷ bs))

-- the branches other than p have all had their end's turn
abbrev pub others_ended : ℕ → (ℕ → Bool) → List Branch → Bool
others_ended p e [] = true
others_ended p e (b ∷ bs) = (eqb b.process p || e b.process) && others_ended p e bs

-- the branches have not had their end's turn
abbrev pub unended : List Branch → (ℕ → Bool) → ℕ → Bool
unended [] f = f
unended (b ∷ bs) f = changed (unended bs f) b.process false

-- the holder h moves on, and the branches become absent
abbrev pub joined : Tables → ℕ → List Branch → Place → Tables
joined t h bs to = record { variables = t.variables; place = changed (leaves bs t.place) h (At to); channel = t.channel; ended = unended bs t.ended }

-- the end of branch p, whose PAR stands in process h: the join if it is the last, else only ended
abbrev pub end_turn : Tables → ℕ → ℕ → Node → Turn
end_turn t p h (assignment x e to) = no_rule
end_turn t p h (skip to) = no_rule
end_turn t p h stop = no_rule
end_turn t p h (input c x to) = no_rule
end_turn t p h (output c e to) = no_rule
end_turn t p h (test e a b) = no_rule
end_turn t p h (alt gs) = no_rule
end_turn t p h (par bs to) = cond (others_ended p t.ended bs) (did (Moved p) (joined t h bs to) (h ∷ [])) (did (Ended p) (finish t p) [])

-- the turn of p at line n, by what stands there
abbrev pub line_turn : Program → Tables → ℕ → ℕ → Node → Turn
line_turn pg t p n (assignment x e to) = after_value (int_value t.variables e) t p (λ v. did (Moved p) (go (write t x v) p to) (p ∷ []))
line_turn pg t p n (skip to) = did (Moved p) (go t p to) (p ∷ [])
line_turn pg t p n stop = did (Halted p) t []
line_turn pg t p n (input c x to) = input_turn pg t p c x to (t.channel c)
line_turn pg t p n (output c e to) = after_value (int_value t.variables e) t p (λ v. output_turn pg t p c v to (pg.kind c))
line_turn pg t p n (test e a b) = after_value (truth_value t.variables e) t p (λ v. did (Moved p) (go t p (cond v a b)) (p ∷ []))
line_turn pg t p n (par bs to) = par_turn t p n to bs
line_turn pg t p n (alt gs) = cond (all_valued t.variables gs) (alt_turn pg t p gs (choose t p gs)) (did (Halted p) t [])

-- the turn of p, by where it stands; the program's own end joins nothing
abbrev pub place_turn : Program → Tables → ℕ → Standing → Turn
place_turn pg t p Absent = no_rule
place_turn pg t p (Holding n) = no_rule
place_turn pg t p (At (Line n)) = line_turn pg t p n (pg.node n)
place_turn pg t p (At End) = cond (eqb p 0) (did (Ended p) (finish t p) []) (end_turn t p (pg.parent p) (pg.node (pg.home p)))

-- a turn of process p
abbrev pub turn : Program → Tables → ℕ → Turn
turn pg t p = place_turn pg t p (t.place p)
