-- The primary rules: which rules can fire in a state, what each tells and leaves, and the runs made of them.
use Rattle.std.specs.Prelude.{Bool, true, cond, ◌≡◌, List, [], ◌∷◌, ◌++◌, map, ℕ, ℤ, pos, Option, Some, None}
use Rattle.rules.specs.Types.{Expression, Store, int_value, truth_value, Place, Line, End, Standing, Absent, Holding, At, Outgoing, Incoming}
use Rattle.rules.specs.Functions.{changed, In, All}
use Rattle.rules.specs.Flowchart.{Guard, skip_guard, input_guard, condition_of, Branch, assignment, skip, input, output, test, par, alt, Program}

-- the variables, where each process stands, and what each incoming link holds
pub record State : Type 0 where
  pub variables : Store
  pub place : ℕ → Standing
  pub link : ℕ → Option ℤ

-- a communication, link in or link out, by channel and value
pub data Told : Type 0 where
  sent : ℕ → ℤ → Told

-- process p moves on to a place
abbrev pub moves : State → ℕ → Place → State
moves s p to = record { variables = s.variables; place = changed s.place p (At to); link = s.link }

-- variable x takes the value v
abbrev pub writes : State → ℕ → ℤ → State
writes s x v = record { variables = changed s.variables x v; place = s.place; link = s.link }

-- link c comes to hold a value, or none
abbrev pub fills : State → ℕ → Option ℤ → State
fills s c m = record { variables = s.variables; place = s.place; link = changed s.link c m }

-- each branch stands at its entry
abbrev pub starts : List Branch → (ℕ → Standing) → ℕ → Standing
starts [] f = f
starts (b ∷ bs) f = changed (starts bs f) b.process (At b.entry)

-- each branch becomes absent
abbrev pub leaves : List Branch → (ℕ → Standing) → ℕ → Standing
leaves [] f = f
leaves (b ∷ bs) f = changed (leaves bs f) b.process Absent

-- every condition of an ALT has a value
abbrev pub Valued : List Guard → Store → Type 0
Valued gs s = All (λ g. (b : Bool) × (truth_value s (condition_of g) ≡ Some b)) gs

-- p is at `c ? x`, or at an ALT with a TRUE guard on c into x; having received it goes on at `to`
pub data Receives (pg : Program) (s : State) (p c x : ℕ) (to : Place) : Type 0 where
  by_input : (n : ℕ) → s.place p ≡ At (Line n) → pg.node n ≡ input c x to → Receives pg s p c x to
  by_guard : (n : ℕ) (gs : List Guard) (e : Expression) → s.place p ≡ At (Line n) → pg.node n ≡ alt gs →
      Valued gs s.variables → In (input_guard e c x to) gs → truth_value s.variables e ≡ Some true → Receives pg s p c x to

-- p is at an output of the value v to c; having sent it goes on at `to`
pub record Sends (pg : Program) (s : State) (p c : ℕ) (v : ℤ) (to : Place) : Type 0 where
  pub line_number : ℕ
  pub expression : Expression
  pub stands : s.place p ≡ At (Line line_number)
  pub is_output : pg.node line_number ≡ output c expression to
  pub has_value : int_value s.variables expression ≡ Some v

-- one rule fires: the processes that take part, what it tells, if anything, and the state that it leaves
pub data Fires (pg : Program) (s : State) : List ℕ → Option Told → State → Type 0 where
  -- an assignment does its work and moves on
  assigns : (p n x : ℕ) (e : Expression) (to : Place) (v : ℤ) → s.place p ≡ At (Line n) → pg.node n ≡ assignment x e to →
      int_value s.variables e ≡ Some v → Fires pg s (p ∷ []) None (moves (writes s x v) p to)
  -- SKIP moves on
  skips : (p n : ℕ) (to : Place) → s.place p ≡ At (Line n) → pg.node n ≡ skip to → Fires pg s (p ∷ []) None (moves s p to)
  -- a choice or WHILE moves on by the value of its condition
  tests : (p n : ℕ) (e : Expression) (on_true on_false : Place) (b : Bool) → s.place p ≡ At (Line n) → pg.node n ≡ test e on_true on_false →
      truth_value s.variables e ≡ Some b → Fires pg s (p ∷ []) None (moves s p (cond b on_true on_false))
  -- communication: p receives on c what q sends; both move on
  communicates : (p q c x : ℕ) (to to' : Place) (v : ℤ) → Receives pg s p c x to → Sends pg s q c v to' →
      Fires pg s (p ∷ (q ∷ [])) (Some (sent c v)) (moves (moves (writes s x v) q to') p to)
  -- link in: p receives what the link holds, which leaves the link empty
  links_in : (p c x : ℕ) (to : Place) (v : ℤ) → Receives pg s p c x to → s.link c ≡ Some v →
      Fires pg s (p ∷ []) (Some (sent c v)) (fills (moves (writes s x v) p to) c None)
  -- a TRUE SKIP guard moves on to its process
  takes_skip : (p n : ℕ) (gs : List Guard) (e : Expression) (to : Place) → s.place p ≡ At (Line n) → pg.node n ≡ alt gs →
      Valued gs s.variables → In (skip_guard e to) gs → truth_value s.variables e ≡ Some true → Fires pg s (p ∷ []) None (moves s p to)
  -- a PAR without branches moves on
  passes_par : (p n : ℕ) (to : Place) → s.place p ≡ At (Line n) → pg.node n ≡ par [] to → Fires pg s (p ∷ []) None (moves s p to)
  -- PAR: the process holds, and each branch stands at its entry
  starts_par : (p n : ℕ) (b : Branch) (bs : List Branch) (to : Place) → s.place p ≡ At (Line n) → pg.node n ≡ par (b ∷ bs) to →
      Fires pg s (p ∷ []) None (record { variables = s.variables; place = starts (b ∷ bs) (changed s.place p (Holding n)); link = s.link })
  -- join: a holder moves on when all its branches are at their ends, and they become absent
  joins : (p n : ℕ) (bs : List Branch) (to : Place) → s.place p ≡ Holding n → pg.node n ≡ par bs to →
      All (λ b. s.place b.process ≡ At End) bs →
      Fires pg s (p ∷ map (λ b. b.process) bs) None (record { variables = s.variables; place = changed (leaves bs s.place) p (At to); link = s.link })

-- link out: a process at an output to an outgoing link moves on as the outside takes the value; only a take fires it
pub data LinkOut (pg : Program) (s : State) : ℕ → Told → State → Type 0 where
  links_out : (p c a : ℕ) (to : Place) (v : ℤ) → pg.kind c ≡ Outgoing a → Sends pg s p c v to → LinkOut pg s p (sent c v) (moves s p to)

-- the outside puts the value v into the empty incoming link c
pub data Puts (pg : Program) (s : State) (c : ℕ) (v : ℤ) : State → Type 0 where
  puts : (a : ℕ) → pg.kind c ≡ Incoming a → s.link c ≡ None → Puts pg s c v (fills s c (Some v))

-- the start: variables 0, process 0 at its entry, the others absent, links empty
abbrev pub initial : Program → State
initial pg = record { variables = λ x. pos 0; place = changed (λ p. Absent) 0 (At pg.entry); link = λ c. None }

-- what was told, and then what a rule tells
abbrev pub tell : Option Told → List Told → List Told
tell None ts = ts
tell (Some t) ts = ts ++ (t ∷ [])

-- a run: the start, then any finite list of rules fired and values put in; by the state where it stands and what it told, in order
pub data Run (pg : Program) : State → List Told → Type 0 where
  start : Run pg (initial pg) []
  fired : {s s' : State} {ps : List ℕ} {l : Option Told} {ts : List Told} → Run pg s ts → Fires pg s ps l s' → Run pg s' (tell l ts)
  gave_out : {s s' : State} {p : ℕ} {t : Told} {ts : List Told} → Run pg s ts → LinkOut pg s p t s' → Run pg s' (ts ++ (t ∷ []))
  put_in : {s s' : State} {c : ℕ} {v : ℤ} {ts : List Told} → Run pg s ts → Puts pg s c v s' → Run pg s' ts

-- a rule other than link out can fire
abbrev pub CanFire : Program → State → Type 0
CanFire pg s = (ps : List ℕ) × (l : Option Told) × (s' : State) × Fires pg s ps l s'

-- a take can fire link out
abbrev pub CanLinkOut : Program → State → Type 0
CanLinkOut pg s = (p : ℕ) × (t : Told) × (s' : State) × LinkOut pg s p t s'

-- the program has ended: process 0 is at its end
abbrev pub HasEnded : State → Type 0
HasEnded s = s.place 0 ≡ At End

-- what puts and takes of the outside alone can lead to
pub data Outside (pg : Program) (s : State) : State → Type 0 where
  stays : Outside pg s s
  then_put : {r r' : State} {c : ℕ} {v : ℤ} → Outside pg s r → Puts pg r c v r' → Outside pg s r'
  then_take : {r r' : State} {p : ℕ} {t : Told} → Outside pg s r → LinkOut pg r p t r' → Outside pg s r'
