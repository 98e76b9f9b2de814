-- The lines of a text, as a computation. The rules that it obeys are in Limits.
use Rattle.std.specs.Prelude.{ℕ, ◌+◌, cond, List, [], ◌∷◌, map, length, Ok, Err, vec_items, Result, Vec, nat_lt}
use Rattle.std.specs.declared.alloc.Global.{Global}
use Rattle.words.specs.Bytes.{in_line}
use Rattle.words.specs.declared.reading.Line.{Line}
use Rattle.words.specs.declared.refusal.WordFault.{WordFault}
use Rattle.words.specs.declared.refusal.WordFault.TheVariants.{TextTooLong, TooManyLines}

-- one byte more at the front of the first line
abbrev pub onto : ℕ → List (List ℕ) → List (List ℕ)
onto b [] = (b ∷ []) ∷ []
onto b (l ∷ ls) = (b ∷ l) ∷ ls

-- the lines of a text: byte 10 ends a line, and the last may lack it
abbrev pub divided : List ℕ → List (List ℕ)
divided [] = []
divided (b ∷ s) = cond (in_line b) (onto b (divided s)) ([] ∷ divided s)

-- lines with their numbers, from n on
abbrev pub numbered : ℕ → List (List ℕ) → List (ℕ × List ℕ)
numbered n [] = []
numbered n (l ∷ ls) = (n, l) ∷ numbered (n + 1) ls

-- the numbered lines of a text, where it has at most 33,024 bytes and 256 lines
abbrev pub lines_of : List ℕ → Result (List (ℕ × List ℕ)) WordFault
lines_of s = cond (nat_lt 33024 (length s)) (Err TextTooLong) (cond (nat_lt 256 (length (divided s))) (Err TooManyLines) (Ok (numbered 1 (divided s))))

-- what a line of the code stands for
abbrev pub numbered_line : Line → ℕ × List ℕ
numbered_line l = (l.number, l.bytes.now)

-- what an answer of the code stands for
abbrev pub division_of : Result (Vec Line Global) WordFault → Result (List (ℕ × List ℕ)) WordFault
division_of (Ok v) = Ok (map numbered_line (vec_items v))
division_of (Err e) = Err e
