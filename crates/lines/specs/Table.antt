-- The names that are declared, and what a line may do with a name.
use Rattle.std.specs.Prelude.{ℕ, Bool, cond, ◌||◌, List, [], ◌∷◌, ◌++◌, map, is_some, Some, None, Ok, Err, vec_items, Option, ◌==◌, find}
use Rattle.std.specs.Borrow.{Bor}
use Rattle.std.specs.Option.{option_map_or}
use Rattle.expressions.specs.Expression as expression
use Rattle.expressions.specs.Expression.{Expression}
use Rattle.numbers.specs.Kinds.{Channel, Variable}
use Rattle.rules.specs.declared.Kind.{Kind}
use Rattle.rules.specs.declared.Kind.TheVariants.{Internal}
use Rattle.lines.specs.Answer.{Answer, onward}
use Rattle.lines.specs.Found.{found}
use Rattle.lines.specs.Syntax.{Naming, Phrase, name, number, truth, negative, negation, dyadic}
use Rattle.lines.specs.declared.names.Link.{Link}
use Rattle.lines.specs.declared.names.NameList.{NameList}
use Rattle.lines.specs.declared.names.Names.{Names}
use Rattle.lines.specs.declared.refusal.Flaw.TheVariants.{Name}

-- a channel that is a link, by its number
pub record Linked : Type 0 where
  pub channel : ℕ
  pub kind : Kind

-- the names of variables and of channels, whose place in the list is their number, and the channels that are links
pub record Table : Type 0 where
  pub variables : List (List ℕ)
  pub channels : List (List ℕ)
  pub links : List Linked

abbrev pub name_bytes : Bor (List ℕ) → List ℕ
name_bytes n = n.now

-- what a list of names of the code stands for
abbrev pub listed : {letter : ℕ} → NameList letter → List (List ℕ)
listed l = map name_bytes (vec_items l.names)

-- what a link of the code stands for
abbrev pub linked : Link → Linked
linked l = record { channel = l.channel.number; kind = l.kind }

-- what the tables of the code stand for
abbrev pub table : Names → Table
table ns = record { variables = listed ns.variables; channels = listed ns.channels; links = map linked (vec_items ns.links) }

abbrev pub number_or : ℕ → Option ℕ → Answer ℕ
number_or byte None = Err (Name byte)
number_or byte (Some k) = Ok k

abbrev pub variable_number : Variable → ℕ
variable_number x = x.number

-- a channel by its number, and what it is
abbrev pub channel_number : Channel × Kind → ℕ × Kind
channel_number c = (c.0.number, c.1)

-- the number of a variable
abbrev pub variable_at : Table → Naming → Answer ℕ
variable_at t n = number_or n.byte (found t.variables n.text)

-- what a channel is: a link where it is placed, else internal
abbrev pub kind_in : List Linked → ℕ → Kind
kind_in ls c = option_map_or (λ l. l.kind) (find (λ l. l.channel == c) ls) Internal

abbrev pub kind_or : ℕ → List Linked → Option ℕ → Answer (ℕ × Kind)
kind_or byte ls None = Err (Name byte)
kind_or byte ls (Some k) = Ok (k, kind_in ls k)

-- the number of a channel, and what it is
abbrev pub channel_at : Table → Naming → Answer (ℕ × Kind)
channel_at t n = kind_or n.byte t.links (found t.channels n.text)

-- whether a name is declared
abbrev pub declared : Table → List ℕ → Bool
declared t s = is_some (found t.variables s) || is_some (found t.channels s)

-- an expression with its names looked up from left to right, each of which has to be a variable
abbrev pub resolved : Table → Phrase → Answer Expression
resolved t (name n) = onward (variable_at t n) (λ k. Ok (expression.variable k))
resolved t (number z) = Ok (expression.number z)
resolved t (truth b) = Ok (expression.truth b)
resolved t (negative e) = onward (resolved t e) (λ x. Ok (expression.negative x))
resolved t (negation e) = onward (resolved t e) (λ x. Ok (expression.negation x))
resolved t (dyadic o a b) = onward (resolved t a) (λ x. onward (resolved t b) (λ y. Ok (expression.dyadic o x y)))

-- whether a name is declared, or stands among those that are seen
abbrev pub clashing : Table → List (List ℕ) → List ℕ → Bool
clashing t seen s = declared t s || is_some (found seen s)

-- the place of the first name that is declared already, or that stands before among the names, which are seen
abbrev pub clash_from : Table → List (List ℕ) → List Naming → Option ℕ
clash_from t seen [] = None
clash_from t seen (n ∷ ns) = cond (clashing t seen n.text) (Some n.byte) (clash_from t (seen ++ n.text ∷ []) ns)

-- the place of the first name that is declared twice
abbrev pub clash : Table → List Naming → Option ℕ
clash t ns = clash_from t [] ns
