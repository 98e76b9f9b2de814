-- The rules of words and lines, by which a line is read or refused.
use Rattle.std.specs.Prelude.{◌≡◌, ℕ, ◌+◌, ◌*◌, ◌%◌, ◌<◌, ◌≤◌, Bool, true, false, ◌≢◌, ◌⊎◌, List, [], ◌∷◌, ◌++◌, length, replicate, pos, Ok, Err, codes, Result}
use Rattle.words.specs.Bytes.{printable, letter, digit, in_name}
use Rattle.words.specs.Fault.{fault_of}
use Rattle.words.specs.Reading.{Reading}
use Rattle.words.specs.Scan.{decimal_value}
use Rattle.words.specs.Token.{Token, name, keyword, number, sign, text_of, place_of}
use Rattle.words.specs.Vocabulary.{keyword_text, sign_text}
use Rattle.words.specs.declared.refusal.WordFault.{WordFault}
use Rattle.words.specs.declared.refusal.WordFault.TheVariants.{TextTooLong, ByteOutside, LineTooLong, Indentation, NameTooLong, NumberTooBig, UnknownSign, Memory}
use Rattle.words.specs.declared.vocabulary.Keyword.{Keyword}
use Rattle.words.specs.declared.vocabulary.Sign.{Sign}

-- each byte is of the class
abbrev pub Every : (ℕ → Bool) → List ℕ → Type 0
Every p [] = Unit {0}
Every p (b ∷ s) = (p b ≡ true) × Every p s

-- a letter followed by letters, digits and full stops
abbrev pub NameText : List ℕ → Type 0
NameText [] = ⊥
NameText (b ∷ s) = (letter b ≡ true) × Every in_name s

-- a run of digits
abbrev pub NumberText : List ℕ → Type 0
NumberText [] = ⊥
NumberText (b ∷ s) = Every digit (b ∷ s)

-- bytes that can stand as one word: a name or keyword, a number, or a sign
pub data WordText (s : List ℕ) : Type 0 where
  as_name : NameText s → WordText s
  as_number : NumberText s → WordText s
  as_sign : (m : Sign) → s ≡ sign_text m → WordText s

-- text, which rest follows, could not be longer and still be one word
abbrev pub Longest : List ℕ → List ℕ → Type 0
Longest text rest = (more after : List ℕ) → rest ≡ more ++ after → 0 < length more → WordText (text ++ more) → ⊥

-- a word is written as words of its kind are: a name is no keyword and has at most 16 bytes, and INT has every number
abbrev pub Spelled : Token → Type 0
Spelled (name s i) = NameText s × ((length s ≤ 16) × ((k : Keyword) → s ≢ keyword_text k))
Spelled (keyword k s i) = s ≡ keyword_text k
Spelled (number z s i) = NumberText s × ((z ≡ pos (decimal_value s)) × (decimal_value s ≤ 2147483647))
Spelled (sign m s i) = s ≡ sign_text m

-- from byte i on, s is spaces and the words ts as far as byte j, from which on it is rest
pub data Reads : ℕ → List ℕ → List Token → ℕ → List ℕ → Type 0 where
  nothing : {i : ℕ} {s : List ℕ} → Reads i s [] i s
  space : {i j b : ℕ} {s rest : List ℕ} {ts : List Token} → b ≡ 32 → Reads (i + 1) s ts j rest → Reads i (b ∷ s) ts j rest
  word : {i j : ℕ} {s rest : List ℕ} {ts : List Token} (t : Token) (after : List ℕ)
      → Spelled t → place_of t ≡ i → s ≡ text_of t ++ after → Longest (text_of t) after
      → Reads (i + length (text_of t)) after ts j rest → Reads i s (t ∷ ts) j rest

-- code is what stands in s before the comment, which the first `--` begins
pub record Code (s code : List ℕ) : Type 0 where
  pub comment : List ℕ
  pub joined : s ≡ code ++ comment
  pub begun : (comment ≡ []) ⊎ ((rest : List ℕ) × (comment ≡ codes "--" ++ rest))
  pub first : (front rest : List ℕ) → s ≡ front ++ (codes "--" ++ rest) → length code ≤ length front

-- n spaces, and then something else
abbrev pub Indented : List ℕ → ℕ → Type 0
Indented s n = (b : ℕ) × (rest : List ℕ) × (s ≡ replicate n 32 ++ (b ∷ rest)) × (b ≢ 32)

-- the level and the words of a line: spaces and words up to the comment or the end; two spaces before the first word make a level
pub record Obeys (s : List ℕ) (r : Reading) : Type 0 where
  pub code : List ℕ
  pub cut : Code s code
  pub read : Reads 1 code r.words (length code + 1) []
  pub level : (n : ℕ) → Indented code n → n ≡ 2 * r.level

-- what is wrong with s where a word should begin, at byte i of line n
pub data Misspelled (n i : ℕ) (s : List ℕ) : WordFault → Type 0 where
  long_name : (text rest : List ℕ) → s ≡ text ++ rest → NameText text → Longest text rest → 16 < length text → Misspelled n i s (NameTooLong n i)
  big_number : (text rest : List ℕ) → s ≡ text ++ rest → NumberText text → Longest text rest → 2147483647 < decimal_value text → Misspelled n i s (NumberTooBig n i)
  no_sign : (b : ℕ) (rest : List ℕ) → s ≡ b ∷ rest → b ≢ 32 → ((text after : List ℕ) → s ≡ text ++ after → WordText text → ⊥) → Misspelled n i s (UnknownSign n i)

-- the fault is true of line n, which has the bytes s
pub data Faulty (n : ℕ) (s : List ℕ) : WordFault → Type 0 where
  text_too_long : 33024 < length s → Faulty n s TextTooLong
  byte_outside : (front : List ℕ) (b : ℕ) (rest : List ℕ) → s ≡ front ++ (b ∷ rest) → Every printable front → printable b ≡ false → Faulty n s (ByteOutside n (length front + 1))
  line_too_long : 128 < length s → Faulty n s (LineTooLong n)
  indentation : (code : List ℕ) (k : ℕ) → Code s code → Indented code k → (k % 2 ≡ 1) ⊎ (32 < k) → Faulty n s (Indentation n)
  misspelled : (code : List ℕ) (ts : List Token) (i : ℕ) (rest : List ℕ) (f : WordFault) → Code s code → Reads 1 code ts i rest → Misspelled n i rest f → Faulty n s f

-- an answer is right: a line is accepted where no fault is true of it, and its words obey the rules;
-- it is refused by a fault that is true of it, and none that is true has a smaller number
abbrev pub Right : ℕ → List ℕ → Result Reading WordFault → Type 0
Right n s (Ok r) = Obeys s r × ((f : WordFault) → Faulty n s f → ⊥)
Right n s (Err f) = (f ≡ Memory) ⊎ (Faulty n s f × ((g : WordFault) → Faulty n s g → (fault_of f).number ≤ (fault_of g).number))
