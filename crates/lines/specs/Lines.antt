-- A line of the text under the names that are declared, as a computation: its level and form, and the names after it; or its fault.
use Rattle.std.specs.Prelude.{◌≡◌, ℕ, ◌⊎◌, List, [], ◌∷◌, Some, None, Ok, Err, Option, Result}
use Rattle.words.specs.Reading.{Reading, line_of}
use Rattle.words.specs.Token.{Token}
use Rattle.words.specs.declared.refusal.WordFault.{WordFault}
use Rattle.lines.specs.Answer.{Answer, onward}
use Rattle.lines.specs.Fault.{from_words, in_line}
use Rattle.lines.specs.Judgement.{Formed, formed, judged}
use Rattle.lines.specs.Sentences.{sentence_of}
use Rattle.lines.specs.Table.{Table, table}
use Rattle.lines.specs.declared.names.Names.{Names}
use Rattle.lines.specs.declared.reading.Statement.{Statement}
use Rattle.lines.specs.declared.refusal.LineFault.{LineFault}
use Rattle.lines.specs.declared.refusal.LineFault.TheVariants.{Memory}

-- a line's level and form
pub record Stated : Type 0 where
  pub level : ℕ
  pub form : Formed

-- no name is declared
abbrev pub no_names : Table
no_names = record { variables = []; channels = []; links = [] }

-- the line's form, or its fault, told with its number
abbrev pub located : ℕ → ℕ → Answer (Formed × Table) → Result (Option Stated × Table) LineFault
located n level (Ok p) = Ok (Some (record { level = level; form = p.0 }), p.1)
located n level (Err f) = Err (in_line n f)

-- the form that words have: first as they are written, then under the names
abbrev pub form_of : Table → List Token → Answer (Formed × Table)
form_of t ts = onward (sentence_of ts) (judged t)

-- a line with no words has no form, and leaves the names as they are
abbrev pub stated_of : Table → ℕ → ℕ → List Token → Result (Option Stated × Table) LineFault
stated_of t n level [] = Ok (None, t)
stated_of t n level (w ∷ ws) = located n level (form_of t (w ∷ ws))

-- the words of a line, or their fault
abbrev pub row_of : Result Reading WordFault → Result Reading LineFault
row_of (Ok r) = Ok r
row_of (Err e) = Err (from_words e)

abbrev pub after_words : Table → ℕ → Result Reading LineFault → Result (Option Stated × Table) LineFault
after_words t n (Ok r) = stated_of t n r.level r.words
after_words t n (Err e) = Err e

-- line n, which has the bytes s, where the names of t are declared
abbrev pub line_form_of : Table → ℕ → List ℕ → Result (Option Stated × Table) LineFault
line_form_of t n s = after_words t n (row_of (line_of n s))

abbrev pub stated : Option Statement → Option Stated
stated None = None
stated (Some s) = Some (record { level = s.level; form = formed s.form })

-- what an answer of the code stands for, with the names after it
abbrev pub stated_with : Names → Option Statement → Option Stated × Table
stated_with ns o = (stated o, table ns)

-- the value of an answer, as something else
abbrev pub given : {A B : Type 0} → (A → B) → Result A LineFault → Result B LineFault
given f (Ok x) = Ok (f x)
given f (Err e) = Err e

-- the first answer is the second, unless memory ran out
abbrev pub UnlessStarved : {A : Type 0} → Result A LineFault → Result A LineFault → Type 0
UnlessStarved (Ok y) x = x ≡ Ok y
UnlessStarved (Err f) x = (f ≡ Memory) ⊎ (x ≡ Err f)
