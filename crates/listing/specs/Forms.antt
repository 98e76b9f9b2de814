-- The listing of a text's forms: a heading, and a row for each line that has one.
use Rattle.std.specs.Prelude.{ℕ, List, [], ◌∷◌, ◌++◌, codes, decimal}
use Rattle.lines.specs.Text.{Entered}
use Rattle.lines.specs.Written.{form_text}

-- one row: line, level and form
abbrev pub form_row : ℕ → ℕ → List ℕ → List ℕ
form_row line level form = decimal line ++ (codes " " ++ (decimal level ++ (codes " " ++ (form ++ codes "\n"))))

-- the row of a line that has a form
abbrev pub entry_row : Entered → List ℕ
entry_row e = form_row e.line e.level (form_text e.form)

-- the rows of such lines
abbrev pub form_rows : List Entered → List ℕ
form_rows [] = []
form_rows (e ∷ es) = entry_row e ++ form_rows es
