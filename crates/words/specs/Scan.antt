-- The word that stands at the front of some bytes, as a computation. The rules that it obeys are in Spelling.
use Rattle.std.specs.Prelude.{map, ℕ, ◌+◌, ◌-◌, ◌*◌, Bool, true, false, cond, ◌&&◌, List, [], ◌∷◌, length, take, ℤ, pos, Some, None, Ok, Err, fold, Option, Result, ◌==◌, nat_lt, slice_index}
use Rattle.std.specs.Borrow.{Bor}
use Rattle.std.specs.List.{prefix_len}
use Rattle.std.specs.Str.{bytes_eq}
use Rattle.words.specs.Bytes.{letter, digit, in_name}
use Rattle.words.specs.Token.{Token, name, keyword, number, sign}
use Rattle.words.specs.Vocabulary.{keyword_text, sign_text}
use Rattle.words.specs.declared.refusal.WordFault.{WordFault}
use Rattle.words.specs.declared.refusal.WordFault.TheVariants.{NameTooLong, NumberTooBig, UnknownSign}
use Rattle.words.specs.declared.vocabulary.Keyword.{Keyword}
use Rattle.words.specs.declared.vocabulary.Keyword.TheVariants as key
use Rattle.words.specs.declared.vocabulary.Sign.{Sign}
use Rattle.words.specs.declared.vocabulary.Sign.TheVariants as mark

-- what a table says of some bytes
abbrev pub listed : {A : Type 0} → List (List ℕ × A) → List ℕ → Option A
listed [] s = None
listed (e ∷ es) s = cond (bytes_eq e.0 s) (Some e.1) (listed es s)

-- the code's table of keywords
abbrev pub rows : List (Bor (List ℕ) × Keyword) → List (List ℕ × Keyword)
rows t = map (λ r. (r.0.now, r.1)) t

abbrev reserved : Keyword → List ℕ × Keyword
reserved k = (keyword_text k, k)

-- the keywords, each with its bytes
abbrev pub keywords : List (List ℕ × Keyword)
keywords =
    reserved key.After
    ∷ reserved key.Alt
    ∷ reserved key.And
    ∷ reserved key.At
    ∷ reserved key.Chan
    ∷ reserved key.False
    ∷ reserved key.If
    ∷ reserved key.Int
    ∷ reserved key.Minus
    ∷ reserved key.Not
    ∷ reserved key.Of
    ∷ reserved key.Or
    ∷ reserved key.Par
    ∷ reserved key.Place
    ∷ reserved key.Plus
    ∷ reserved key.Pri
    ∷ reserved key.Seq
    ∷ reserved key.Skip
    ∷ reserved key.Stop
    ∷ reserved key.Timer
    ∷ reserved key.Times
    ∷ reserved key.True
    ∷ reserved key.While
    ∷ []

-- the keyword that some bytes are
unfoldable pub keyword_of : List ℕ → Option Keyword
keyword_of s = listed keywords s

-- whether the second list begins with the first
abbrev pub begins : List ℕ → List ℕ → Bool
begins [] s = true
begins (c ∷ p) [] = false
begins (c ∷ p) (b ∷ s) = b == c && begins p s

-- the first entry of a table with whose bytes s begins, and how many those are
abbrev pub opening : {A : Type 0} → List (List ℕ × A) → List ℕ → Option (A × ℕ)
opening [] s = None
opening (e ∷ es) s = cond (begins e.0 s) (Some (e.1, length e.0)) (opening es s)

abbrev written : Sign → List ℕ × Sign
written m = (sign_text m, m)

-- the signs, the longer ones first
abbrev pub signs : List (List ℕ × Sign)
signs =
    written mark.Becomes
    ∷ written mark.Differ
    ∷ written mark.AtMost
    ∷ written mark.AtLeast
    ∷ written mark.Input
    ∷ written mark.Output
    ∷ written mark.Guard
    ∷ written mark.Colon
    ∷ written mark.Comma
    ∷ written mark.Open
    ∷ written mark.Close
    ∷ written mark.Add
    ∷ written mark.Subtract
    ∷ written mark.Multiply
    ∷ written mark.Divide
    ∷ written mark.Remainder
    ∷ written mark.Equal
    ∷ written mark.Less
    ∷ written mark.More
    ∷ []

-- the sign at the front of s, and how many bytes it has
abbrev pub sign_of : List ℕ → Option (Sign × ℕ)
sign_of s = opening signs s

-- the value of a run of digits
abbrev pub decimal_value : List ℕ → ℕ
decimal_value s = fold (λ n d. n * 10 + (d - 48)) 0 s

-- that value, where INT has it
unfoldable pub number_of : List ℕ → Option ℤ
number_of s = cond (nat_lt 2147483647 (decimal_value s)) None (Some (pos (decimal_value s)))

abbrev pub name_or : List ℕ → ℕ → Option Keyword → Token
name_or s i None = name s i
name_or s i (Some k) = keyword k s i

-- a run of bytes that begins as a name does, in line n at byte i
abbrev pub name_at : ℕ → ℕ → List ℕ → Result Token WordFault
name_at n i s = cond (nat_lt 16 (length s)) (Err (NameTooLong n i)) (Ok (name_or s i (keyword_of s)))

abbrev pub number_or : ℕ → ℕ → List ℕ → Option ℤ → Result Token WordFault
number_or n i s None = Err (NumberTooBig n i)
number_or n i s (Some z) = Ok (number z s i)

-- a run of digits
abbrev pub number_at : ℕ → ℕ → List ℕ → Result Token WordFault
number_at n i s = number_or n i s (number_of s)

abbrev pub sign_or : ℕ → ℕ → List ℕ → Option (Sign × ℕ) → Result Token WordFault
sign_or n i s None = Err (UnknownSign n i)
sign_or n i s (Some m) = Ok (sign m.0 (take m.1 s) i)

-- the word at the front of s, which begins at byte i of line n
abbrev pub word_at : ℕ → ℕ → List ℕ → Result Token WordFault
word_at n i s =
    cond (letter (slice_index s 0)) (name_at n i (take (prefix_len in_name s) s))
    (cond (digit (slice_index s 0)) (number_at n i (take (prefix_len digit s) s)) (sign_or n i s (sign_of s)))
