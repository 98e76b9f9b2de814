-- What stands before the comment, and the spaces before the first word.
use Rattle.std.proofs.Common.{◌≡◌, ℕ, zero, suc, ◌+◌, ◌<◌, ◌≤◌, true, false, eqb, ◌⊎◌, List, [], ◌∷◌, ◌++◌, length, get_or, take, drop, replicate, codes, sym, refl, ap, ◌∙◌, subst, inl, inr, ⊎_elim, one-add, arith}
use Rattle.std.proofs.lemmas.List.{take_at, take-append-drop, length-append, length-take-le, length-replicate}
use Rattle.std.proofs.lemmas.Bool.{cond_both, and_parts, eqb-true, ne_eqb, eqb-false}
use Rattle.std.specs.List.{prefix_len}
use Rattle.words.specs.Bytes.{space}
use Rattle.words.specs.Reading.{code_length, code_of}
use Rattle.words.specs.Scan.{begins}
use Rattle.words.specs.Spelling.{Every, Code, Indented}
use Rattle.words.proofs.Comments.{code_within}
use Rattle.words.proofs.Fronts.{every_front, front_is, first_other}

-- nothing, or a comment
abbrev Comment : List ℕ → Type 0
Comment s = (s ≡ []) ⊎ ((rest : List ℕ) × (s ≡ codes "--" ++ rest))

begins_with : (s : List ℕ) → begins (codes "--") s ≡ true → (rest : List ℕ) × (s ≡ codes "--" ++ rest)
begins_with [] e = let z : ◌≡◌ {A = ℕ} 0 1 = cc in absurd (omega arith)
begins_with (a ∷ []) e = let p = and_parts (eqb a 45) false e in let z : ◌≡◌ {A = ℕ} 0 1 = cc in absurd (omega arith)
begins_with (a ∷ (b ∷ s)) e =
    let p = and_parts (eqb a 45) _ e in
    let q = and_parts (eqb b 45) true p.1 in
    (s, ap (λ x. x ∷ (b ∷ s)) (eqb-true a 45 p.0) ∙ ap (λ x. 45 ∷ (x ∷ s)) (eqb-true b 45 q.0))

cut_begun : (s : List ℕ) → Comment (drop (code_length s) s)
cut_begun [] = inl refl
cut_begun (b ∷ s) =
    cond_both (begins (codes "--") (b ∷ s)) 0 (1 + code_length s) (λ k. Comment (drop k (b ∷ s)))
    (λ e. inr (begins_with (b ∷ s) e))
    (λ _. subst (λ k. Comment (drop k (b ∷ s))) (sym (one-add (code_length s))) (cut_begun s))

cut_first : (s front rest : List ℕ) → s ≡ front ++ (codes "--" ++ rest) → code_length s ≤ length front
cut_first [] front rest e = omega arith
cut_first (b ∷ s) [] rest e = let here = ap code_length e in omega (arith, here)
cut_first (b ∷ s) (c ∷ front) rest e =
    let tail : s ≡ front ++ (codes "--" ++ rest) = cc in
    cond_both (begins (codes "--") (b ∷ s)) 0 (1 + code_length s) (λ k. k ≤ length (c ∷ front)) (λ _. omega arith) (λ _. omega (arith, cut_first s front rest tail))

code_long : (s : List ℕ) → length (code_of s) ≡ code_length s
code_long s = length-take-le (code_length s) s (code_within s)

pub code_is : (s : List ℕ) → Code s (code_of s)
code_is s = record {
  comment = drop (code_length s) s;
  joined = sym (take-append-drop (code_length s) s);
  begun = cut_begun s;
  first = λ front rest e. omega (arith, cut_first s front rest e, code_long s);
}

code_le : (s a b : List ℕ) → Code s a → Code s b → length b ≤ length a
code_le s a b x y =
    ⊎_elim
    (λ none. omega (arith, ap length x.joined, ap length none, length-append a x.comment, ap length y.joined, length-append b y.comment))
    (λ begun. y.first a begun.0 (x.joined ∙ ap (λ r. a ++ r) begun.1))
    x.begun

-- there is one such part of a line
pub code_unique : (s code : List ℕ) → Code s code → code ≡ code_of s
code_unique s code x =
    let y = code_is s in
    let same : length code ≡ length (code_of s) = omega (arith, code_le s code (code_of s) x y, code_le s (code_of s) code y x) in
    sym (take_at code x.comment (length code) refl) ∙ ap (take (length code)) (sym x.joined) ∙ ap (λ k. take k s) (same ∙ code_long s)

every_spaces : (n : ℕ) → Every space (replicate n 32)
every_spaces zero = tt
every_spaces (suc n) = (refl, every_spaces n)

spaces_are : (s : List ℕ) → Every space s → s ≡ replicate (length s) 32
spaces_are [] all = refl
spaces_are (b ∷ s) all = ap (λ x. x ∷ s) (eqb-true b 32 all.0) ∙ ap (λ l. 32 ∷ l) (spaces_are s all.1)

-- the spaces before the first word are the leading ones
pub indented_is : (s : List ℕ) (n : ℕ) → Indented s n → (prefix_len space s ≡ n) × (n < length s)
indented_is s n h =
    let e = h.2 in
    let front = front_is space (replicate n 32) (h.0 ∷ h.1) (every_spaces n) (ne_eqb h.0 32 h.3) in
    let many = length-replicate {A = ℕ} n 32 in
    (ap (prefix_len space) e ∙ front ∙ many, omega (arith, ap length e, length-append (replicate n 32) (h.0 ∷ h.1), many))

pub indented_by : (s : List ℕ) → prefix_len space s < length s → Indented s (prefix_len space s)
indented_by s h =
    let k = prefix_len space s in
    let other = first_other space s h in
    let long = length-take-le k s (omega arith) in
    let spaces = spaces_are (take k s) (every_front space s) ∙ ap (λ j. replicate j 32) long in
    (get_or s k 0, drop (k + 1) s, other.0 ∙ ap (λ l. l ++ (get_or s k 0 ∷ drop (k + 1) s)) spaces, eqb-false (get_or s k 0) 32 other.1)
