-- A word as a value of its own: its kind, its bytes, and the place of its first byte in the line, counted from 1.
use Rattle.std.specs.Prelude.{ℕ, List, ℤ, Ok, Err, Result}
use Rattle.words.specs.declared.refusal.WordFault.{WordFault}
use Rattle.words.specs.declared.vocabulary.Keyword.{Keyword}
use Rattle.words.specs.declared.vocabulary.Sign.{Sign}
use Rattle.words.specs.declared.vocabulary.Word.{Word}
use Rattle.words.specs.declared.vocabulary.Word.TheVariants as word

pub data Token : Type 0 where
  name : List ℕ → ℕ → Token
  keyword : Keyword → List ℕ → ℕ → Token
  number : ℤ → List ℕ → ℕ → Token
  sign : Sign → List ℕ → ℕ → Token

-- what a word of the code stands for
abbrev pub token : Word → Token
token (word.Name s i) = name s.now i
token (word.Keyword k s i) = keyword k s.now i
token (word.Number z s i) = number z s.now i
token (word.Sign m s i) = sign m s.now i

-- the bytes of a word
abbrev pub text_of : Token → List ℕ
text_of (name s i) = s
text_of (keyword k s i) = s
text_of (number z s i) = s
text_of (sign m s i) = s

-- the place of a word's first byte
abbrev pub place_of : Token → ℕ
place_of (name s i) = i
place_of (keyword k s i) = i
place_of (number z s i) = i
place_of (sign m s i) = i

-- what an answer of the code stands for
abbrev pub token_or : Result Word WordFault → Result Token WordFault
token_or (Ok w) = Ok (token w)
token_or (Err e) = Err e
