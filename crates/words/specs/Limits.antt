-- The rules of lines and of a text's limits.
use Rattle.std.specs.Prelude.{◌≡◌, ℕ, ◌<◌, ◌≤◌, ◌⊎◌, List, [], ◌∷◌, ◌++◌, map, length, Ok, Err, Result}
use Rattle.words.specs.Bytes.{in_line}
use Rattle.words.specs.Division.{numbered}
use Rattle.words.specs.Spelling.{Every}
use Rattle.words.specs.declared.refusal.WordFault.{WordFault}
use Rattle.words.specs.declared.refusal.WordFault.TheVariants.{TextTooLong, TooManyLines, Memory}

-- the lines of a text: byte 10 ends a line, and the last may lack it
pub data Divides : List ℕ → List (List ℕ) → Type 0 where
  none : Divides [] []
  last : (line : List ℕ) → 0 < length line → Every in_line line → Divides line (line ∷ [])
  more : {s : List ℕ} {lines : List (List ℕ)} (line rest : List ℕ) → s ≡ line ++ (10 ∷ rest) → Every in_line line → Divides rest lines → Divides s (line ∷ lines)

-- an answer is right: at most 33,024 bytes and 256 lines, which are numbered from 1, or a refusal of a text with more
abbrev pub RightLines : List ℕ → Result (List (ℕ × List ℕ)) WordFault → Type 0
RightLines s (Ok ls) =
    (length s ≤ 33024) × ((length ls ≤ 256) × (Divides s (map (λ l. l.1) ls) × (ls ≡ numbered 1 (map (λ l. l.1) ls))))
RightLines s (Err f) =
    (f ≡ Memory) ⊎ (((f ≡ TextTooLong) × (33024 < length s)) ⊎ ((f ≡ TooManyLines) × ((length s ≤ 33024) × ((ls : List (List ℕ)) → Divides s ls → 256 < length ls))))
