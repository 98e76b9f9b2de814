-- The listing of a text's words: a heading, a row for each word, and a closing count.
use Rattle.std.specs.Prelude.{◌≡◌, ℕ, ◌+◌, ◌⊎◌, List, [], ◌∷◌, ◌++◌, length, Ok, Err, vec_items, codes, decimal, Result, Vec}
use Rattle.std.specs.declared.alloc.Global.{Global}
use Rattle.words.specs.Division.{lines_of}
use Rattle.words.specs.Reading.{Reading, line_of}
use Rattle.words.specs.Token.{Token, name, keyword, number, sign, text_of, place_of}
use Rattle.words.specs.declared.refusal.WordFault.{WordFault}
use Rattle.words.specs.declared.refusal.WordFault.TheVariants.{Memory}

-- the word for a kind of word
abbrev pub kind_name : Token → List ℕ
kind_name (name s i) = codes "name"
kind_name (keyword k s i) = codes "keyword"
kind_name (number z s i) = codes "number"
kind_name (sign m s i) = codes "sign"

-- the front of a row: line, level, byte and kind
abbrev pub front_of : ℕ → ℕ → ℕ → List ℕ → List ℕ
front_of line level byte kind = decimal line ++ (codes " " ++ (decimal level ++ (codes " " ++ (decimal byte ++ (codes " " ++ (kind ++ codes " "))))))

-- one row: its front, the word itself, and the end of the line
abbrev pub row_of : ℕ → ℕ → Token → List ℕ
row_of line level t = front_of line level (place_of t) (kind_name t) ++ (text_of t ++ codes "\n")

-- the rows of a line
abbrev pub rows_of : ℕ → ℕ → List Token → List ℕ
rows_of line level [] = []
rows_of line level (t ∷ ts) = row_of line level t ++ rows_of line level ts

-- rows, and how many words they show
pub record Rows : Type 0 where
  pub bytes : List ℕ
  pub words : ℕ

-- the rows of one line before those of the lines after it
abbrev pub above : ℕ → Reading → Result Rows WordFault → Result Rows WordFault
above line r (Ok rs) = Ok (record { bytes = rows_of line r.level r.words ++ rs.bytes; words = length r.words + rs.words })
above line r (Err e) = Err e

abbrev pub onward : {A B : Type 0} → Result A WordFault → (A → Result B WordFault) → Result B WordFault
onward (Ok x) k = k x
onward (Err e) k = Err e

-- the rows of some lines, or the first fault among them
abbrev pub lines_rows : List (ℕ × List ℕ) → Result Rows WordFault
lines_rows [] = Ok (record { bytes = []; words = 0 })
lines_rows (l ∷ ls) = onward (line_of l.0 l.1) (λ r. above l.0 r (lines_rows ls))

abbrev pub heading : List ℕ
heading = codes "line level byte kind word\n"

-- `L lines, W words`
abbrev pub closing : ℕ → ℕ → List ℕ
closing lines words = decimal lines ++ (codes " lines, " ++ (decimal words ++ codes " words\n"))

-- the listing of a text, or its first fault
abbrev pub listing_of : List ℕ → Result (List ℕ) WordFault
listing_of s = onward (lines_of s) (λ ls. onward (lines_rows ls) (λ rs. Ok (heading ++ (rs.bytes ++ closing (length ls) rs.words))))

-- an answer that counts the words of the rows that were put behind the bytes before
abbrev pub Shows : List ℕ → List ℕ → Result Rows WordFault → Result ℕ WordFault → Type 0
Shows old new rs (Ok n) = (b : List ℕ) × (rs ≡ Ok (record { bytes = b; words = n })) × (new ≡ old ++ b)
Shows old new rs (Err e) = (e ≡ Memory) ⊎ (rs ≡ Err e)

-- what an answer of the code stands for
abbrev pub bytes_of : Result (Vec ℕ Global) WordFault → Result (List ℕ) WordFault
bytes_of (Ok v) = Ok (vec_items v)
bytes_of (Err e) = Err e
