-- What the first byte of a word says, and what the tables of keywords and signs hold.
use Rattle.std.proofs.Common.{◌≡◌, ℕ, ◌<◌, ◌≤◌, Bool, true, false, ◌&&◌, eqb, ltb, leb, List, [], ◌∷◌, ◌++◌, length, get_or, take, is_some, Some, sym, refl, ap, ◌∙◌, ⊎_elim, arith}
use Rattle.std.specs.Str.{bytes_eq}
use Rattle.std.proofs.lemmas.Slice.Eq.{bytes_eq-Decides}
use Rattle.std.proofs.lemmas.Bool.{cond_both, and_parts, or_cases, leb-true, eqb-true}
use Rattle.words.specs.Bytes.{letter, digit, in_name}
use Rattle.words.specs.Scan.{listed, keywords, keyword_of, begins, opening, signs, sign_of}
use Rattle.words.specs.Spelling.{Every, NameText, as_sign, Longest}
use Rattle.words.specs.Vocabulary.{keyword_text, sign_text}
use Rattle.words.specs.declared.vocabulary.Keyword.{Keyword}
use Rattle.words.specs.declared.vocabulary.Keyword.TheVariants as key
use Rattle.words.specs.declared.vocabulary.Sign.{Sign}
use Rattle.words.specs.declared.vocabulary.Sign.TheVariants as mark

pub letter_range : (b : ℕ) → letter b ≡ true → (65 ≤ b) × (b ≤ 122)
letter_range b e =
    ⊎_elim
    (λ h. let p = and_parts (leb 65 b) (leb b 90) h in (leb-true 65 b p.0, omega (arith, leb-true b 90 p.1)))
    (λ h. let p = and_parts (leb 97 b) (leb b 122) h in (omega (arith, leb-true 97 b p.0), leb-true b 122 p.1))
    (or_cases (leb 65 b && leb b 90) (leb 97 b && leb b 122) e)

pub digit_range : (b : ℕ) → digit b ≡ true → (48 ≤ b) × (b ≤ 57)
digit_range b e = let p = and_parts (leb 48 b) (leb b 57) e in (leb-true 48 b p.0, leb-true b 57 p.1)

-- what a sign begins with: no letter, no digit and no space
pub record Head (s : List ℕ) : Type 0 where
  pub unlettered : letter (get_or s 0 0) ≡ false
  pub undigited : digit (get_or s 0 0) ≡ false
  pub unspaced : eqb (get_or s 0 0) 32 ≡ false
  pub some : 0 < length s

head : (s : List ℕ) → letter (get_or s 0 0) ≡ false → digit (get_or s 0 0) ≡ false → eqb (get_or s 0 0) 32 ≡ false → 0 < length s → Head s
head s a b c d = record { unlettered = a; undigited = b; unspaced = c; some = d }

pub sign_head : (m : Sign) → Head (sign_text m)
sign_head mark.Becomes = head (sign_text mark.Becomes) refl refl refl (omega arith)
sign_head mark.Differ = head (sign_text mark.Differ) refl refl refl (omega arith)
sign_head mark.AtMost = head (sign_text mark.AtMost) refl refl refl (omega arith)
sign_head mark.AtLeast = head (sign_text mark.AtLeast) refl refl refl (omega arith)
sign_head mark.Input = head (sign_text mark.Input) refl refl refl (omega arith)
sign_head mark.Output = head (sign_text mark.Output) refl refl refl (omega arith)
sign_head mark.Guard = head (sign_text mark.Guard) refl refl refl (omega arith)
sign_head mark.Colon = head (sign_text mark.Colon) refl refl refl (omega arith)
sign_head mark.Comma = head (sign_text mark.Comma) refl refl refl (omega arith)
sign_head mark.Open = head (sign_text mark.Open) refl refl refl (omega arith)
sign_head mark.Close = head (sign_text mark.Close) refl refl refl (omega arith)
sign_head mark.Add = head (sign_text mark.Add) refl refl refl (omega arith)
sign_head mark.Subtract = head (sign_text mark.Subtract) refl refl refl (omega arith)
sign_head mark.Multiply = head (sign_text mark.Multiply) refl refl refl (omega arith)
sign_head mark.Divide = head (sign_text mark.Divide) refl refl refl (omega arith)
sign_head mark.Remainder = head (sign_text mark.Remainder) refl refl refl (omega arith)
sign_head mark.Equal = head (sign_text mark.Equal) refl refl refl (omega arith)
sign_head mark.Less = head (sign_text mark.Less) refl refl refl (omega arith)
sign_head mark.More = head (sign_text mark.More) refl refl refl (omega arith)

-- the first byte of a longer list is that of its front
pub front_head : (s t : List ℕ) → 0 < length s → get_or (s ++ t) 0 0 ≡ get_or s 0 0
front_head [] t some = absurd (omega arith)
front_head (b ∷ s) t some = refl

-- a two-byte sign is found before any other
pub long_sign : (m : Sign) (r : List ℕ) → 1 < length (sign_text m) → sign_of (sign_text m ++ r) ≡ Some (m, length (sign_text m))
long_sign mark.Becomes r h = refl
long_sign mark.Differ r h = refl
long_sign mark.AtMost r h = refl
long_sign mark.AtLeast r h = refl
long_sign mark.Input r h = absurd (omega arith)
long_sign mark.Output r h = absurd (omega arith)
long_sign mark.Guard r h = absurd (omega arith)
long_sign mark.Colon r h = absurd (omega arith)
long_sign mark.Comma r h = absurd (omega arith)
long_sign mark.Open r h = absurd (omega arith)
long_sign mark.Close r h = absurd (omega arith)
long_sign mark.Add r h = absurd (omega arith)
long_sign mark.Subtract r h = absurd (omega arith)
long_sign mark.Multiply r h = absurd (omega arith)
long_sign mark.Divide r h = absurd (omega arith)
long_sign mark.Remainder r h = absurd (omega arith)
long_sign mark.Equal r h = absurd (omega arith)
long_sign mark.Less r h = absurd (omega arith)
long_sign mark.More r h = absurd (omega arith)

second : (a c d : ℕ) → (eqb c d && true) ≡ true → a ∷ (c ∷ []) ≡ a ∷ (d ∷ [])
second a c d e = ap (λ x. a ∷ (x ∷ [])) (eqb-true c d (and_parts (eqb c d) true e).0)

-- a sign that could not be longer is the one that is found
pub sign_longest : (m : Sign) (after : List ℕ) → Longest (sign_text m) after → sign_of (sign_text m ++ after) ≡ Some (m, length (sign_text m))
sign_longest mark.Becomes r h = refl
sign_longest mark.Differ r h = refl
sign_longest mark.AtMost r h = refl
sign_longest mark.AtLeast r h = refl
sign_longest mark.Input r h = refl
sign_longest mark.Output r h = refl
sign_longest mark.Guard r h = refl
sign_longest mark.Colon [] h = refl
sign_longest mark.Colon (c ∷ r) h = cond_both (eqb c 61 && true) _ _ (λ o. o ≡ Some (mark.Colon, 1)) (λ e. absurd (h (c ∷ []) r refl (omega arith) (as_sign mark.Becomes (second 58 c 61 e)))) (λ _. refl)
sign_longest mark.Comma r h = refl
sign_longest mark.Open r h = refl
sign_longest mark.Close r h = refl
sign_longest mark.Add r h = refl
sign_longest mark.Subtract r h = refl
sign_longest mark.Multiply r h = refl
sign_longest mark.Divide r h = refl
sign_longest mark.Remainder r h = refl
sign_longest mark.Equal r h = refl
sign_longest mark.Less [] h = refl
sign_longest mark.Less (c ∷ r) h =
    cond_both (eqb c 62 && true) _ _ (λ o. o ≡ Some (mark.Less, 1)) (λ e. absurd (h (c ∷ []) r refl (omega arith) (as_sign mark.Differ (second 60 c 62 e))))
    (λ _. cond_both (eqb c 61 && true) _ _ (λ o. o ≡ Some (mark.Less, 1)) (λ e. absurd (h (c ∷ []) r refl (omega arith) (as_sign mark.AtMost (second 60 c 61 e)))) (λ _. refl))
sign_longest mark.More [] h = refl
sign_longest mark.More (c ∷ r) h = cond_both (eqb c 61 && true) _ _ (λ o. o ≡ Some (mark.More, 1)) (λ e. absurd (h (c ∷ []) r refl (omega arith) (as_sign mark.AtLeast (second 62 c 61 e)))) (λ _. refl)

-- where bytes begin with a sign, some sign is found
pub sign_found : (m : Sign) (after : List ℕ) → is_some (sign_of (sign_text m ++ after)) ≡ true
sign_found mark.Becomes r = refl
sign_found mark.Differ r = refl
sign_found mark.AtMost r = refl
sign_found mark.AtLeast r = refl
sign_found mark.Input r = refl
sign_found mark.Output r = refl
sign_found mark.Guard r = refl
sign_found mark.Colon [] = refl
sign_found mark.Colon (c ∷ r) = cond_both (eqb c 61 && true) _ _ (λ o. is_some o ≡ true) (λ _. refl) (λ _. refl)
sign_found mark.Comma r = refl
sign_found mark.Open r = refl
sign_found mark.Close r = refl
sign_found mark.Add r = refl
sign_found mark.Subtract r = refl
sign_found mark.Multiply r = refl
sign_found mark.Divide r = refl
sign_found mark.Remainder r = refl
sign_found mark.Equal r = refl
sign_found mark.Less [] = refl
sign_found mark.Less (c ∷ r) = cond_both (eqb c 62 && true) _ _ (λ o. is_some o ≡ true) (λ _. refl) (λ _. cond_both (eqb c 61 && true) _ _ (λ o. is_some o ≡ true) (λ _. refl) (λ _. refl))
sign_found mark.More [] = refl
sign_found mark.More (c ∷ r) = cond_both (eqb c 61 && true) _ _ (λ o. is_some o ≡ true) (λ _. refl) (λ _. refl)

-- what is true of each entry of a table
abbrev Each : {A : Type 0} → (A → Type 0) → List A → Type 0
Each P [] = Unit {0}
Each P (x ∷ xs) = P x × Each P xs

begins_take : (p s : List ℕ) → begins p s ≡ true → take (length p) s ≡ p
begins_take [] s e = refl
begins_take (c ∷ p) [] e = let z : ◌≡◌ {A = ℕ} 0 1 = cc in absurd (omega arith)
begins_take (c ∷ p) (b ∷ s) e =
    let parts = and_parts (eqb b c) (begins p s) e in
    ap (λ x. x ∷ take (length p) s) (eqb-true b c parts.0) ∙ ap (λ l. c ∷ l) (begins_take p s parts.1)

opening_sound : (es : List (List ℕ × Sign)) (s : List ℕ) (m : Sign) (n : ℕ) → Each (λ e. e.0 ≡ sign_text e.1) es → opening es s ≡ Some (m, n)
    → (take n s ≡ sign_text m) × (n ≡ length (sign_text m))
opening_sound [] s m n each e = let z : ◌≡◌ {A = ℕ} 0 1 = cc in absurd (omega arith)
opening_sound (x ∷ es) s m n each e =
    cond_both (begins x.0 s) _ _ (λ o. o ≡ Some (m, n) → (take n s ≡ sign_text m) × (n ≡ length (sign_text m)))
    (λ is f.
    let pair : ◌≡◌ {A = Sign × ℕ} (x.1, length x.0) (m, n) = cc in
    let mark_is = ap (λ (q : Sign × ℕ). q.0) pair in
    let size_is = ap (λ (q : Sign × ℕ). q.1) pair in
    let text_is = each.0 ∙ ap sign_text mark_is in
    (ap (λ k. take k s) (sym size_is) ∙ begins_take x.0 s is ∙ text_is, sym size_is ∙ ap length text_is))
    (λ _ f. opening_sound es s m n each.1 f)
    e

pub sign_text_lem : (s : List ℕ) (m : Sign) (n : ℕ) → sign_of s ≡ Some (m, n) → (take n s ≡ sign_text m) × (n ≡ length (sign_text m))
sign_text_lem s m n e =
    opening_sound signs s m n (refl, (refl, (refl, (refl, (refl, (refl, (refl, (refl, (refl, (refl, (refl, (refl, (refl, (refl, (refl, (refl, (refl, (refl, (refl, tt))))))))))))))))))) e

listed_sound : (es : List (List ℕ × Keyword)) (s : List ℕ) (k : Keyword) → Each (λ e. e.0 ≡ keyword_text e.1) es → listed es s ≡ Some k → s ≡ keyword_text k
listed_sound [] s k each e = let z : ◌≡◌ {A = ℕ} 0 1 = cc in absurd (omega arith)
listed_sound (x ∷ es) s k each e =
    cond_both (bytes_eq x.0 s) _ _ (λ o. o ≡ Some k → s ≡ keyword_text k)
    (λ is f. let key_is : x.1 ≡ k = cc in sym ((bytes_eq-Decides x.0 s).0 is) ∙ each.0 ∙ ap keyword_text key_is)
    (λ _ f. listed_sound es s k each.1 f)
    e

pub keyword_text_lem : (s : List ℕ) (k : Keyword) → keyword_of s ≡ Some k → s ≡ keyword_text k
unfolding keyword_of
keyword_text_lem s k e =
    listed_sound keywords s k (refl, (refl, (refl, (refl, (refl, (refl, (refl, (refl, (refl, (refl, (refl, (refl, (refl, (refl, (refl, (refl, (refl, (refl, (refl, (refl, (refl, (refl, (refl, tt))))))))))))))))))))))) e

abbrev all : (ℕ → Bool) → List ℕ → Bool
all p [] = true
all p (b ∷ s) = p b && all p s

every_all : (p : ℕ → Bool) (s : List ℕ) → all p s ≡ true → Every p s
every_all p [] e = tt
every_all p (b ∷ s) e = let parts = and_parts (p b) (all p s) e in (parts.0, every_all p s parts.1)

abbrev named : List ℕ → Bool
named [] = false
named (b ∷ s) = letter b && all in_name s

name_text : (s : List ℕ) → named s ≡ true → NameText s
name_text [] e = let z : ◌≡◌ {A = ℕ} 0 1 = cc in omega arith
name_text (b ∷ s) e = let parts = and_parts (letter b) (all in_name s) e in (parts.0, every_all in_name s parts.1)

-- a keyword is written as a name is, is short enough, and is found in the table
pub record Known (k : Keyword) : Type 0 where
  pub name : NameText (keyword_text k)
  pub short : ltb 16 (length (keyword_text k)) ≡ false
  pub found : keyword_of (keyword_text k) ≡ Some k

known : (k : Keyword) → named (keyword_text k) ≡ true → ltb 16 (length (keyword_text k)) ≡ false → keyword_of (keyword_text k) ≡ Some k → Known k
known k a b c = record { name = name_text (keyword_text k) a; short = b; found = c }

pub keyword_known : (k : Keyword) → Known k
unfolding keyword_of
keyword_known key.After = known key.After refl refl refl
keyword_known key.Alt = known key.Alt refl refl refl
keyword_known key.And = known key.And refl refl refl
keyword_known key.At = known key.At refl refl refl
keyword_known key.Chan = known key.Chan refl refl refl
keyword_known key.False = known key.False refl refl refl
keyword_known key.If = known key.If refl refl refl
keyword_known key.Int = known key.Int refl refl refl
keyword_known key.Minus = known key.Minus refl refl refl
keyword_known key.Not = known key.Not refl refl refl
keyword_known key.Of = known key.Of refl refl refl
keyword_known key.Or = known key.Or refl refl refl
keyword_known key.Par = known key.Par refl refl refl
keyword_known key.Place = known key.Place refl refl refl
keyword_known key.Plus = known key.Plus refl refl refl
keyword_known key.Pri = known key.Pri refl refl refl
keyword_known key.Seq = known key.Seq refl refl refl
keyword_known key.Skip = known key.Skip refl refl refl
keyword_known key.Stop = known key.Stop refl refl refl
keyword_known key.Timer = known key.Timer refl refl refl
keyword_known key.Times = known key.Times refl refl refl
keyword_known key.True = known key.True refl refl refl
keyword_known key.While = known key.While refl refl refl
