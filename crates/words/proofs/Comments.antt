-- Where a comment begins: one byte after another.
use Rattle.std.proofs.Common.{Bool, cond, not, nat_lt, unwrap_or, Some, None, ◌≡◌, ℕ, ◌+◌, ◌<◌, ◌≤◌, List, [], ◌∷◌, length, take, drop, codes, refl, sym, ap, subst, ◌∙◌, arith, length-take-le}
use Rattle.std.proofs.lemmas.Bool.{cond-true, cond-false, cond_both, ltb-true, ltb-false}
use Rattle.std.proofs.lemmas.Bool.Decides.{nat_tests}
use Rattle.std.proofs.lemmas.Iterator.{YieldsList}
use Rattle.std.proofs.lemmas.Iterator.Splits.{YieldsList-from_shown_while}
use Rattle.std.specs.Slice.Iter.{windows_size, windows_rest, windows_steps}
use Rattle.std.specs.Str.{bytes_eq}
use Rattle.std.specs.List.{position_or_len}
use Rattle.words.specs.Reading.{code_length, code_of}
use Rattle.words.specs.Scan.{begins}

-- the windows of two bytes
abbrev pub pairs : List ℕ → List (List ℕ)
pairs [] = []
pairs (a ∷ []) = []
pairs (a ∷ (b ∷ s)) = (a ∷ (b ∷ [])) ∷ pairs (b ∷ s)

few : (s : List ℕ) → length s < 2 → length (pairs s) ≡ 0
few [] h = omega arith
few (a ∷ []) h = omega arith
few (a ∷ (b ∷ s)) h = absurd (omega arith)

more : (s : List ℕ) → 2 ≤ length s → pairs s ≡ take 2 s ∷ pairs (drop 1 s)
more [] h = absurd (omega arith)
more (a ∷ []) h = absurd (omega arith)
more (a ∷ (b ∷ s)) h = refl

-- what `windows(2)` gives
pub pairs_shown : (s : List ℕ) (w : _) → windows_rest w ≡ s → windows_size w ≡ 2 → YieldsList windows_steps (λ x. x.now) w (pairs s)
pairs_shown s w rest size =
    subst (λ l. YieldsList windows_steps (λ x. x.now) w (pairs l)) rest
    (YieldsList-from_shown_while windows_steps (λ x. x.now) (λ t. pairs (windows_rest t)) (λ t. windows_size t ≡ 2)
    (λ s t size none. few (windows_rest s) (omega arith))
    (λ s x t size some. (omega arith, more (windows_rest s) (omega arith) ∙ cc))
    w size)

-- two bytes that begin a comment
abbrev pub dashes : List ℕ → Bool
dashes p = bytes_eq p (codes "--")

-- the place of the first pair of dashes
abbrev dashed : List ℕ → ℕ
dashed s = position_or_len dashes (pairs s)

-- that place is where the code ends
record Ends (s : List ℕ) (n at len : ℕ) : Type 0 where
  pub within : at < len → n ≡ at
  pub none : len ≤ at → n ≡ length s

one_dash : (a : ℕ) → code_length (a ∷ []) ≡ 1
one_dash a = grind (arith, nat_tests)

ends : (s : List ℕ) → Ends s (code_length s) (dashed s) (length (pairs s))
ends [] = record { within = λ h. absurd (omega arith); none = λ _. refl }
ends (a ∷ []) = record { within = λ h. absurd (omega arith); none = λ _. one_dash a }
ends (a ∷ (b ∷ s)) =
    let rest = ends (b ∷ s) in
    cond_both (begins (codes "--") (a ∷ (b ∷ s))) 0 (1 + code_length (b ∷ s)) (λ n. Ends (a ∷ (b ∷ s)) n (dashed (a ∷ (b ∷ s))) (length (pairs (a ∷ (b ∷ s)))))
    (λ e. let here : dashed (a ∷ (b ∷ s)) ≡ 0 = cond-false _ _ _ (ap not e) in record { within = λ _. sym here; none = λ h. absurd (omega arith) })
    (λ e. let on : dashed (a ∷ (b ∷ s)) ≡ 1 + dashed (b ∷ s) = cond-true _ _ _ (ap not e) in record { within = λ h. omega (arith, rest.within (omega arith)); none = λ h. omega (arith, rest.none (omega arith)) })

pub comment_at : (s : List ℕ) → unwrap_or (cond (nat_lt (dashed s) (length (pairs s))) (Some (dashed s)) None) (length s) ≡ code_length s
comment_at s =
    cond_both (nat_lt (dashed s) (length (pairs s))) (Some (dashed s)) None (λ o. unwrap_or o (length s) ≡ code_length s)
    (λ e. sym ((ends s).within (ltb-true _ _ e))) (λ e. sym ((ends s).none (ltb-false _ _ e)))

pub code_within : (s : List ℕ) → code_length s ≤ length s
code_within [] = omega arith
code_within (b ∷ s) = cond_both (begins (codes "--") (b ∷ s)) 0 (1 + code_length s) (λ n. n ≤ length (b ∷ s)) (λ _. omega arith) (λ _. omega (arith, code_within s))

pub code_short : (s : List ℕ) → length (code_of s) ≤ length s
code_short s = omega (arith, length-take-le (code_length s) s (code_within s), code_within s)
