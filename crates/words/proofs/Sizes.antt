-- A word that is read has at least one byte, and lies within the bytes that it is read from.
use Rattle.std.proofs.Common.{◌≡◌, ℕ, ◌+◌, ◌<◌, Bool, true, ltb, List, [], ◌∷◌, length, get_or, take, ℤ, Some, None, Ok, Option, Result, sym, ap, arith, length-take-le}
use Rattle.std.specs.List.{prefix_len}
use Rattle.std.proofs.lemmas.List.Sums.{prefix_len-le-length}
use Rattle.std.proofs.lemmas.Bool.{cond-true, cond_both, or_left}
use Rattle.words.specs.Bytes.{letter, digit, in_name}
use Rattle.words.specs.Scan.{keyword_of, sign_of, name_or, name_at, number_or, sign_or, word_at}
use Rattle.words.specs.Token.{Token, name, keyword, number, sign, text_of}
use Rattle.words.specs.declared.refusal.WordFault.{WordFault}
use Rattle.words.specs.declared.vocabulary.Keyword.{Keyword}
use Rattle.words.specs.declared.vocabulary.Sign.{Sign}
use Rattle.words.proofs.Signs.{Within, Fits, sign_fits}

-- how many bytes a word has
abbrev pub size : Token → ℕ
size t = length (text_of t)

front_within : (p : ℕ → Bool) (s : List ℕ) → 0 < length s → p (get_or s 0 0) ≡ true → Within (prefix_len p s) s
front_within p [] some e = absurd (omega arith)
front_within p (b ∷ s) some e = let q = cond-true (p b) (1 + prefix_len p s) 0 e in (omega (arith, q), prefix_len-le-length p (b ∷ s))

taken : (n m : ℕ) (s : List ℕ) → m ≡ length (take n s) → Within n s → Within m s
taken n m s e h = let q = length-take-le n s h.1 in (omega (arith, q, h.0), omega (arith, q, h.1))

abbrev okay : Token → Result Token WordFault
okay t = Ok t

name_or_size : (text : List ℕ) (i : ℕ) (t : Token) (o : Option Keyword) → okay (name_or text i o) ≡ Ok t → size t ≡ length text
name_or_size text i t None e = let q : name text i ≡ t = cc in sym (ap size q)
name_or_size text i t (Some k) e = let q : keyword k text i ≡ t = cc in sym (ap size q)

name_size : (n i : ℕ) (text : List ℕ) (t : Token) → name_at n i text ≡ Ok t → size t ≡ length text
name_size n i text t e =
    cond_both (ltb 16 (length text)) _ _ (λ r. r ≡ Ok t → size t ≡ length text)
    (λ _ f. let z : ◌≡◌ {A = ℕ} 0 1 = cc in omega arith)
    (λ _ f. name_or_size text i t (keyword_of text) f)
    e

number_size : (n i : ℕ) (text : List ℕ) (t : Token) (o : Option ℤ) → number_or n i text o ≡ Ok t → size t ≡ length text
number_size n i text t None e = let z : ◌≡◌ {A = ℕ} 0 1 = cc in omega arith
number_size n i text t (Some v) e = let q : number v text i ≡ t = cc in sym (ap size q)

sign_size : (n i : ℕ) (s : List ℕ) (t : Token) (o : Option (Sign × ℕ)) → Fits o s → sign_or n i s o ≡ Ok t → Within (size t) s
sign_size n i s t None w e = let z : ◌≡◌ {A = ℕ} 0 1 = cc in absurd (omega arith)
sign_size n i s t (Some m) w e = let q : sign m.0 (take m.1 s) i ≡ t = cc in taken m.1 (size t) s (sym (ap size q)) w

pub word_within : (n i : ℕ) (s : List ℕ) (t : Token) → 0 < length s → word_at n i s ≡ Ok t → Within (size t) s
word_within n i s t some e =
    cond_both (letter (get_or s 0 0)) _ _ (λ r. r ≡ Ok t → Within (size t) s)
    (λ is f. taken (prefix_len in_name s) (size t) s (name_size n i _ t f) (front_within in_name s some (or_left _ _ (or_left _ _ is))))
    (λ _ f. cond_both (digit (get_or s 0 0)) _ _ (λ r. r ≡ Ok t → Within (size t) s)
    (λ is g. taken (prefix_len digit s) (size t) s (number_size n i _ t _ g) (front_within digit s some is))
    (λ _ g. sign_size n i s t (sign_of s) (sign_fits s) g)
    f)
    e
