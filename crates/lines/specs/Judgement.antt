-- What a line means under the names that are declared: its form with numbers, and the names after it; or its first flaw.
use Rattle.std.specs.Prelude.{ℕ, ◌+◌, Bool, false, cond, List, [], ◌∷◌, ◌++◌, map, length, ℤ, pos, negsuc, Some, None, Ok, Err, Option, ◌==◌, nat_lt}
use Rattle.std.specs.List.{list_any}
use Rattle.expressions.specs.Expression.{Expression, shape}
use Rattle.numbers.specs.Kinds.{Channel}
use Rattle.rules.specs.declared.Kind.{Kind}
use Rattle.rules.specs.declared.Kind.TheVariants.{Internal, Outgoing, Incoming}
use Rattle.lines.specs.Answer.{Answer, onward}
use Rattle.lines.specs.Syntax as line
use Rattle.lines.specs.Syntax.{Naming, Phrase, Sentence}
use Rattle.lines.specs.Table.{Linked, Table, channel_at, clash, resolved, table, variable_at}
use Rattle.lines.specs.Types.{of_type}
use Rattle.lines.specs.declared.forms.Form.{Form}
use Rattle.lines.specs.declared.forms.Form.TheVariants as form
use Rattle.lines.specs.declared.judgement.Access.{Access}
use Rattle.lines.specs.declared.judgement.Access.TheVariants.{Read, Write}
use Rattle.lines.specs.declared.names.Names.{Names}
use Rattle.lines.specs.declared.refusal.Flaw.TheVariants.{Name, TooMany, Link as Misplaced}
use Rattle.lines.specs.declared.syntax.Lone.{Lone}
use Rattle.lines.specs.declared.types.Sort.TheVariants.{Int, Truth}

-- the form of a line, its names as numbers
pub data Formed : Type 0 where
  variables : ℕ → ℕ → Formed
  channels : ℕ → ℕ → Formed
  place : ℕ → ℕ → Formed
  lone : Lone → Formed
  assign : ℕ → Expression → Formed
  input : ℕ → ℕ → Formed
  output : ℕ → Expression → Formed
  while : Expression → Formed
  choice : Expression → Formed
  guard : Expression → ℕ → ℕ → Formed
  skip_guard : Expression → Formed

-- what a form stands for, where `number` gives the number of its channel
abbrev pub formed_by : {C : Type 0} → (C → ℕ) → Form C → Formed
formed_by number (form.Variables first count) = variables first count
formed_by number (form.Channels first count) = channels first count
formed_by number (form.Place c a) = place (number c) a
formed_by number (form.Lone l) = lone l
formed_by number (form.Assign x e) = assign x.number (shape e)
formed_by number (form.Input c x) = input (number c) x.number
formed_by number (form.Output c e) = output (number c) (shape e)
formed_by number (form.While e) = while (shape e)
formed_by number (form.Choice e) = choice (shape e)
formed_by number (form.Guard e c x) = guard (shape e) (number c) x.number
formed_by number (form.SkipGuard e) = skip_guard (shape e)

-- what a form of the code stands for
abbrev pub formed : Form Channel → Formed
formed = formed_by (λ c. c.number)

-- what a form of the code stands for, and the names after it
abbrev pub formed_with : Names → Form Channel → Formed × Table
formed_with ns f = (formed f, table ns)

-- the bytes of names
abbrev pub texts : List Naming → List (List ℕ)
texts ns = map (λ n. n.text) ns

-- the names with more variables
abbrev pub with_variables : Table → List Naming → Table
with_variables t ns = record { variables = t.variables ++ texts ns; channels = t.channels; links = t.links }

-- the names with more channels
abbrev pub with_channels : Table → List Naming → Table
with_channels t ns = record { variables = t.variables; channels = t.channels ++ texts ns; links = t.links }

-- the names with a channel that is a link
abbrev pub with_link : Table → ℕ → Kind → Table
with_link t c k = record { variables = t.variables; channels = t.channels; links = t.links ++ record { channel = c; kind = k } ∷ [] }

-- at most 64 of a kind: so many there are, and so many more
abbrev pub counted : ℕ → ℕ → Answer (Unit {0})
counted old more = cond (nat_lt 64 (old + more)) (Err TooMany) (Ok tt)

abbrev pub unclashed : Option ℕ → Answer (Unit {0})
unclashed None = Ok tt
unclashed (Some byte) = Err (Name byte)

-- names that go behind others: the number of the first, and how many they are
abbrev pub added : List (List ℕ) → List Naming → Answer (ℕ × ℕ)
added old ns = onward (counted (length old) (length ns)) (λ _. Ok (length old, length ns))

-- INT names: each is new, and there is room
abbrev pub variables_by : Table → List Naming → Answer (Formed × Table)
variables_by t ns =
    onward (unclashed (clash t ns)) (λ _.
    onward (added t.variables ns) (λ p.
    Ok (variables p.0 p.1, with_variables t ns)))

-- CHAN OF INT names: each is new, and there is room
abbrev pub channels_by : Table → List Naming → Answer (Formed × Table)
channels_by t ns =
    onward (unclashed (clash t ns)) (λ _.
    onward (added t.channels ns) (λ p.
    Ok (channels p.0 p.1, with_channels t ns)))

-- the address that a number is: 0 to 7
abbrev pub address_at : ℤ → Answer ℕ
address_at (pos n) = cond (nat_lt n 8) (Ok n) (Err Misplaced)
address_at (negsuc n) = Err Misplaced

-- the link at an address: 0 to 3 is outgoing, 4 to 7 incoming
abbrev pub link_at : ℕ → Kind
link_at a = cond (nat_lt a 4) (Outgoing a) (Incoming a)

-- whether a channel is placed at the address
abbrev pub placed_at : ℕ → Kind → Bool
placed_at a Internal = false
placed_at a (Outgoing b) = b == a
placed_at a (Incoming b) = b == a

-- whether any channel is placed at the address
abbrev pub any_placed_at : ℕ → List Linked → Bool
any_placed_at a ls = list_any (λ l. placed_at a l.kind) ls

-- a channel that is no link yet
abbrev pub unplaced : Kind → Answer (Unit {0})
unplaced Internal = Ok tt
unplaced (Outgoing a) = Err Misplaced
unplaced (Incoming a) = Err Misplaced

-- an address at which no channel is placed yet
abbrev pub vacant : ℕ → List Linked → Answer (Unit {0})
vacant a ls = cond (any_placed_at a ls) (Err Misplaced) (Ok tt)

-- PLACE channel AT number: neither the channel nor the address is placed yet
abbrev pub place_by : Table → Naming → ℤ → Answer (Formed × Table)
place_by t n z =
    onward (channel_at t n) (λ c.
    onward (address_at z) (λ a.
    onward (unplaced c.1) (λ _.
    onward (vacant a t.links) (λ _.
    Ok (place c.0 a, with_link t c.0 (link_at a))))))

-- a channel that can be read
abbrev pub readable : Kind → Answer (Unit {0})
readable Internal = Ok tt
readable (Outgoing a) = Err Misplaced
readable (Incoming a) = Ok tt

-- a channel that can be written
abbrev pub writable : Kind → Answer (Unit {0})
writable Internal = Ok tt
writable (Outgoing a) = Ok tt
writable (Incoming a) = Err Misplaced

-- a channel that can be read, or written
abbrev pub accessible : Access → Kind → Answer (Unit {0})
accessible Read k = readable k
accessible Write k = writable k

-- variable := expression
abbrev pub assign_by : Table → Naming → Phrase → Answer Formed
assign_by t n e = onward (variable_at t n) (λ x. onward (resolved t e) (λ v. onward (of_type Int e) (λ _. Ok (assign x v))))

-- channel ? variable
abbrev pub input_by : Table → Naming → Naming → Answer Formed
input_by t n m = onward (channel_at t n) (λ c. onward (variable_at t m) (λ x. onward (readable c.1) (λ _. Ok (input c.0 x))))

-- channel ! expression
abbrev pub output_by : Table → Naming → Phrase → Answer Formed
output_by t n e = onward (channel_at t n) (λ c. onward (resolved t e) (λ v. onward (of_type Int e) (λ _. onward (writable c.1) (λ _. Ok (output c.0 v)))))

-- a condition: its names are variables, and then its type is that of the truth values
abbrev pub condition_by : Table → Phrase → Answer Expression
condition_by t e = onward (resolved t e) (λ v. onward (of_type Truth e) (λ _. Ok v))

-- condition & channel ? variable
abbrev pub guard_by : Table → Phrase → Naming → Naming → Answer Formed
guard_by t e n m =
    onward (resolved t e) (λ v. onward (channel_at t n) (λ c. onward (variable_at t m) (λ x.
    onward (of_type Truth e) (λ _. onward (readable c.1) (λ _. Ok (guard v c.0 x))))))

-- a line that leaves the names as they are
abbrev pub kept : Table → Answer Formed → Answer (Formed × Table)
kept t r = onward r (λ f. Ok (f, t))

-- the form of a line and the names after it, or its first flaw: names from left to right, then types, then how many, then links
abbrev pub judged : Table → Sentence → Answer (Formed × Table)
judged t (line.variables ns) = variables_by t ns
judged t (line.channels ns) = channels_by t ns
judged t (line.place n z) = place_by t n z
judged t (line.lone l) = kept t (Ok (lone l))
judged t (line.assign n e) = kept t (assign_by t n e)
judged t (line.input n m) = kept t (input_by t n m)
judged t (line.output n e) = kept t (output_by t n e)
judged t (line.while e) = kept t (onward (condition_by t e) (λ v. Ok (while v)))
judged t (line.choice e) = kept t (onward (condition_by t e) (λ v. Ok (choice v)))
judged t (line.guard e n m) = kept t (guard_by t e n m)
judged t (line.skip_guard e) = kept t (onward (condition_by t e) (λ v. Ok (skip_guard v)))
