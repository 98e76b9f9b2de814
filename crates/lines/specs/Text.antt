-- The forms of a text's lines, one after another, and the names that they declare, as a computation.
use Rattle.std.specs.Prelude.{ℕ, List, [], ◌∷◌, map, Some, None, Ok, Err, vec_items, Option, Result, Vec}
use Rattle.std.specs.declared.alloc.Global.{Global}
use Rattle.words.specs.Division.{lines_of}
use Rattle.words.specs.declared.refusal.WordFault.{WordFault}
use Rattle.lines.specs.Fault.{from_words}
use Rattle.lines.specs.Judgement.{Formed, formed}
use Rattle.lines.specs.Lines.{Stated, no_names, line_form_of}
use Rattle.lines.specs.Table.{Table, table}
use Rattle.lines.specs.declared.names.Names.{Names}
use Rattle.lines.specs.declared.refusal.LineFault.{LineFault}
use Rattle.lines.specs.declared.text.Entry.{Entry}
use Rattle.lines.specs.declared.text.Outline.{Outline}

-- a line with a form: its number, its level and its form
pub record Entered : Type 0 where
  pub line : ℕ
  pub level : ℕ
  pub form : Formed

-- one line more at the front, where it has a form
abbrev pub entered : ℕ → Option Stated → List Entered → List Entered
entered n None es = es
entered n (Some s) es = record { line = n; level = s.level; form = s.form } ∷ es

-- what the lines after line n give, and it before them
abbrev pub ahead : ℕ → Option Stated → Result (List Entered × Table) LineFault → Result (List Entered × Table) LineFault
ahead n s (Ok p) = Ok (entered n s p.0, p.1)
ahead n s (Err e) = Err e

-- the first fault stops; an answer goes on
abbrev pub onto : {A B : Type 0} → Result A LineFault → (A → Result B LineFault) → Result B LineFault
onto (Ok x) k = k x
onto (Err e) k = Err e

-- the forms of some lines, each read under the names that those before it declare
abbrev pub forms_from : Table → List (ℕ × List ℕ) → Result (List Entered × Table) LineFault
forms_from t [] = Ok ([], t)
forms_from t (l ∷ ls) = onto (line_form_of t l.0 l.1) (λ s. ahead l.0 s.0 (forms_from s.1 ls))

-- the lines of a text, or its fault
abbrev pub limited_to : Result (List (ℕ × List ℕ)) WordFault → Result (List (ℕ × List ℕ)) LineFault
limited_to (Ok ls) = Ok ls
limited_to (Err e) = Err (from_words e)

-- the forms of a text and its names, or its first fault: the limits first, then line by line
abbrev pub text_forms : List ℕ → Result (List Entered × Table) LineFault
text_forms s = onto (limited_to (lines_of s)) (forms_from no_names)

-- what an entry of the code stands for
abbrev pub entry : Entry → Entered
entry e = record { line = e.line; level = e.level; form = formed e.form }

-- what the entries of the code stand for, with the names after them
abbrev pub entries_with : Names → Vec Entry Global → List Entered × Table
entries_with ns v = (map entry (vec_items v), table ns)

-- what an outline of the code stands for
abbrev pub outline : Outline → List Entered × Table
outline o = entries_with o.names o.entries
