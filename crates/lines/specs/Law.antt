-- What an answer about a line says, in the words of the grammar.
use Rattle.std.specs.Prelude.{◌≡◌, ℕ, ◌⊎◌, List, [], Some, None, Ok, Err, Option, Result}
use Rattle.words.specs.Reading.{Reading, line_of}
use Rattle.words.specs.declared.refusal.WordFault.{WordFault}
use Rattle.lines.specs.Fault.{from_words, in_line}
use Rattle.lines.specs.Grammar.{MakesLine}
use Rattle.lines.specs.Judgement.{Formed, judged}
use Rattle.lines.specs.Lines.{Stated}
use Rattle.lines.specs.Syntax.{Sentence}
use Rattle.lines.specs.Table.{Table}
use Rattle.lines.specs.declared.refusal.Flaw.{Flaw}
use Rattle.lines.specs.declared.refusal.LineFault.{LineFault}
use Rattle.lines.specs.declared.refusal.LineFault.TheVariants.{NoForm, Memory}

-- the words make that line, and no other
abbrev pub Only : Reading → Sentence → Type 0
Only r u = MakesLine r.words u × ((v : Sentence) → MakesLine r.words v → v ≡ u)

-- what is told of line n, which has the bytes s, where the names of t are declared
pub data Told (t : Table) (n : ℕ) (s : List ℕ) : Result (Option Stated × Table) LineFault → Type 0 where
  -- its words are wrong
  wrong_words : (e : WordFault) → line_of n s ≡ Err e → Told t n s (Err (from_words e))
  -- it has no words
  blank : (r : Reading) → line_of n s ≡ Ok r → r.words ≡ [] → Told t n s (Ok (None, t))
  -- its words make no line
  no_form : (r : Reading) → line_of n s ≡ Ok r → ((u : Sentence) → MakesLine r.words u → ⊥) → Told t n s (Err (NoForm n))
  -- its words make the one line u, which is wrong under the names
  wrong_line : (r : Reading) (u : Sentence) (f : Flaw) → line_of n s ≡ Ok r → Only r u → judged t u ≡ Err f → Told t n s (Err (in_line n f))
  -- its words make the one line u, which is right under the names
  right : (r : Reading) (u : Sentence) (f : Formed) (t' : Table) → line_of n s ≡ Ok r → Only r u → judged t u ≡ Ok (f, t') → Told t n s (Ok (Some (record { level = r.level; form = f }), t'))

-- an answer is lawful: what it says is so, unless memory ran out
abbrev pub Lawful : Table → ℕ → List ℕ → Result (Option Stated × Table) LineFault → Type 0
Lawful t n s (Ok x) = Told t n s (Ok x)
Lawful t n s (Err f) = (f ≡ Memory) ⊎ Told t n s (Err f)
