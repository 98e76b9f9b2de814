-- A sign that is found at the front of some bytes lies within them.
use Rattle.std.proofs.Common.{◌≡◌, ℕ, ◌<◌, ◌≤◌, true, eqb, List, [], ◌∷◌, length, Some, None, Option, arith}
use Rattle.std.proofs.lemmas.Bool.{cond_both, and_parts}
use Rattle.words.specs.Scan.{begins, opening, signs, sign_of}

-- some bytes, and no more than there are
abbrev pub Within : ℕ → List ℕ → Type 0
Within n s = (0 < n) × (n ≤ length s)

begins_length : (p s : List ℕ) → begins p s ≡ true → length p ≤ length s
begins_length [] s e = omega arith
begins_length (c ∷ p) [] e = let z : ◌≡◌ {A = ℕ} 0 1 = cc in omega arith
begins_length (c ∷ p) (b ∷ s) e = let more : length p ≤ length s = begins_length p s (and_parts (eqb b c) (begins p s) e).1 in omega arith

abbrev Filled : {A : Type 0} → List (List ℕ × A) → Type 0
Filled [] = Unit {0}
Filled (e ∷ es) = (0 < length e.0) × Filled es

abbrev pub Fits : {A : Type 0} → Option (A × ℕ) → List ℕ → Type 0
Fits None s = Unit {0}
Fits (Some m) s = Within m.1 s

opening_fits : {A : Type 0} (es : List (List ℕ × A)) (s : List ℕ) → Filled es → Fits (opening es s) s
opening_fits [] s filled = tt
opening_fits (e ∷ es) s filled =
    cond_both (begins e.0 s) _ _ (λ r. Fits r s) (λ is. (filled.0, begins_length e.0 s is)) (λ _. opening_fits es s filled.1)

pub sign_fits : (s : List ℕ) → Fits (sign_of s) s
sign_fits s =
    opening_fits signs s
    (omega arith, (omega arith, (omega arith, (omega arith, (omega arith, (omega arith, (omega arith, (omega arith, (omega arith, (omega arith, (omega arith, (omega arith, (omega arith, (omega arith, (omega arith, (omega arith, (omega arith, (omega arith, (omega arith, tt)))))))))))))))))))
