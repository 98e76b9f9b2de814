-- The lines of a text: one line after another.
use Rattle.std.proofs.Common.{◌≡◌, ℕ, ◌+◌, ◌<◌, ◌≤◌, List, [], ◌∷◌, ◌++◌, length, get_or, take, add-zero, Ok, Err, sym, ap, ◌∙◌, arith, length-take-le}
use Rattle.std.proofs.lemmas.List.{take_more, take_all}
use Rattle.std.proofs.lemmas.Bool.{cond-true, cond-false, lt-ltb, le-ltb}
use Rattle.words.specs.Division.{divided, numbered, lines_of}
use Rattle.words.specs.declared.refusal.WordFault.TheVariants.{TooManyLines}

numbered_push : (n : ℕ) (ls : List (List ℕ)) (l : List ℕ) → numbered n (ls ++ l ∷ []) ≡ numbered n ls ++ (n + length ls, l) ∷ []
numbered_push n [] l = ap (λ m. (m, l) ∷ []) (sym (add-zero n))
numbered_push n (k ∷ ls) l = let same : n + 1 + length ls ≡ n + length (k ∷ ls) = omega arith in ap (λ r. (n, k) ∷ r) (numbered_push (n + 1) ls l ∙ ap (λ m. numbered (n + 1) ls ++ (m, l) ∷ []) same)

-- what the loop keeps: ls are the first k lines of s, and n tells how many they are
pub record Sofar (s : List ℕ) (n : ℕ) (ls : List (ℕ × List ℕ)) (k : ℕ) : Type 0 where
  pub few : n ≤ 256
  pub count : n ≡ k
  pub within : k ≤ length (divided s)
  pub lines : ls ≡ numbered 1 (take k (divided s))

module _ {s : List ℕ} {n : ℕ} {ls : List (ℕ × List ℕ)} {k : ℕ} (sofar : Sofar s n ls k) where
  pub one_more : (l : List ℕ) → (n ≡ 256 → ⊥) → (k < length (divided s)) × (l ≡ get_or (divided s) k l) → Sofar s (n + 1) (ls ++ (n + 1, l) ∷ []) (k + 1)
  one_more l room next =
      let long : length (take k (divided s)) ≡ k = length-take-le k (divided s) sofar.within in
      let place : 1 + length (take k (divided s)) ≡ n + 1 = omega (arith, sofar.count) in
      let more = take_more (divided s) k l next.0 ∙ ap (λ x. take k (divided s) ++ x ∷ []) (sym next.1) in
      record {
        few = omega (arith, sofar.few);
        count = omega (arith, sofar.count);
        within = omega (arith, next.0);
        lines = ap (λ r. r ++ (n + 1, l) ∷ []) sofar.lines ∙ ap (λ m. numbered 1 (take k (divided s)) ++ (m, l) ∷ []) (sym place) ∙ sym (numbered_push 1 (take k (divided s)) l) ∙ ap (numbered 1) (sym more);
      }

  pub too_many : length s ≤ 33024 → n ≡ 256 → k < length (divided s) → Err TooManyLines ≡ lines_of s
  too_many short full more = sym (cond-false _ _ _ (le-ltb 33024 (length s) short) ∙ cond-true _ _ _ (lt-ltb 256 (length (divided s)) (omega (arith, sofar.count))))

  pub all_lines : length s ≤ 33024 → k ≡ length (divided s) → Ok ls ≡ lines_of s
  all_lines short end =
      let is = sofar.lines ∙ ap (numbered 1) (take_all k (divided s) (omega arith)) in
      sym (cond-false _ _ _ (le-ltb 33024 (length s) short) ∙ cond-false _ _ _ (le-ltb 256 (length (divided s)) (omega (arith, sofar.count, sofar.few))) ∙ ap Ok (sym is))
