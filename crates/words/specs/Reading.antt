-- The words of a line, as a computation. The rules that it obeys are in Spelling.
use Rattle.std.specs.Prelude.{◌≡◌, ℕ, zero, suc, ◌+◌, ◌-◌, ◌/◌, ◌%◌, Bool, cond, ◌&&◌, ◌||◌, ◌⊎◌, List, [], ◌∷◌, map, length, take, Ok, Err, vec_items, codes, Result, Vec, ◌==◌, nat_lt}
use Rattle.std.specs.List.{prefix_len}
use Rattle.std.specs.declared.alloc.Global.{Global}
use Rattle.words.specs.Bytes.{printable, space}
use Rattle.words.specs.Scan.{begins, word_at}
use Rattle.words.specs.Token.{Token, token, text_of}
use Rattle.words.specs.declared.reading.Row.{Row}
use Rattle.words.specs.declared.refusal.WordFault.{WordFault}
use Rattle.words.specs.declared.refusal.WordFault.TheVariants.{TextTooLong, ByteOutside, LineTooLong, Indentation, Memory}
use Rattle.words.specs.declared.vocabulary.Word.{Word}

-- how many bytes stand before the comment, which `--` begins
abbrev pub code_length : List ℕ → ℕ
code_length [] = 0
code_length (b ∷ s) = cond (begins (codes "--") (b ∷ s)) 0 (1 + code_length s)

-- the bytes before the comment
abbrev pub code_of : List ℕ → List ℕ
code_of s = take (code_length s) s

abbrev pub before : Token → Result (List Token) WordFault → Result (List Token) WordFault
before t (Ok ts) = Ok (t ∷ ts)
before t (Err e) = Err e

abbrev pub onward : Result Token WordFault → (Token → Result (List Token) WordFault) → Result (List Token) WordFault
onward (Ok t) k = k t
onward (Err e) k = Err e

-- the words of s, from byte i of line n on, of which the first k bytes belong to the word before
abbrev pub words_from : ℕ → ℕ → ℕ → List ℕ → Result (List Token) WordFault
words_from n k i [] = Ok []
words_from n zero i (b ∷ s) =
    cond (space b) (words_from n zero (i + 1) s) (onward (word_at n i (b ∷ s)) (λ t. before t (words_from n (length (text_of t) - 1) (i + 1) s)))
words_from n (suc k) i (b ∷ s) = words_from n k (i + 1) s

-- the words of a line's code
abbrev pub words_of : ℕ → List ℕ → Result (List Token) WordFault
words_of n s = words_from n 0 1 s

-- leading spaces, before a word, that make no level or one that is too deep
abbrev pub misplaced : List ℕ → Bool
misplaced s = nat_lt (prefix_len space s) (length s) && (prefix_len space s % 2 == 1 || nat_lt 32 (prefix_len space s))

-- a line's level and words
pub record Reading : Type 0 where
  pub level : ℕ
  pub words : List Token

abbrev pub levelled : ℕ → Result (List Token) WordFault → Result Reading WordFault
levelled l (Ok ts) = Ok (record { level = l; words = ts })
levelled l (Err e) = Err e

-- line n, which has the bytes s: its level and words, or its fault
abbrev pub line_of : ℕ → List ℕ → Result Reading WordFault
line_of n s =
    cond (nat_lt 33024 (length s)) (Err TextTooLong)
    (cond (nat_lt (prefix_len printable s) (length s)) (Err (ByteOutside n (prefix_len printable s + 1)))
    (cond (nat_lt 128 (length s)) (Err (LineTooLong n))
    (cond (misplaced (code_of s)) (Err (Indentation n)) (levelled (prefix_len space (code_of s) / 2) (words_of n (code_of s))))))

-- what an answer of the code stands for
abbrev pub reading_of : Result Row WordFault → Result Reading WordFault
reading_of (Ok r) = Ok (record { level = r.level; words = map token (vec_items r.words) })
reading_of (Err e) = Err e

-- the same of the words alone
abbrev pub tokens_of : Result (Vec Word Global) WordFault → Result (List Token) WordFault
tokens_of (Ok v) = Ok (map token (vec_items v))
tokens_of (Err e) = Err e

-- the one answer is the other, unless memory ran out
abbrev pub UnlessMemory : {A : Type 0} → Result A WordFault → Result A WordFault → Type 0
UnlessMemory r x = (r ≡ Err Memory) ⊎ (r ≡ x)
