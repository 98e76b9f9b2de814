-- How many different numbers are held, and how many in all. Assumes nothing.
use Rattle.std.proofs.Common.{◌≡◌, ℕ, zero, suc, ◌+◌, ◌-◌, ◌<◌, ◌≤◌, cond, eqb, ltb, List, [], ◌∷◌, ◌++◌, sum_by, inl, inr, sym, refl, ap, ◌∙◌, add-one, arith}
use Rattle.std.proofs.Math.Path.{fun_ext}
use Rattle.std.proofs.lemmas.Bool.{cases_eq}
use Rattle.std.proofs.lemmas.Bool.Decides.{nat_tests}
use Rattle.std.proofs.lemmas.List.{map-id}
use Rattle.std.proofs.lemmas.List.FromFn.{map-range_with_len_more}
use Rattle.std.proofs.lemmas.List.Sums.{sum_by_push}
use Rattle.std.specs.List.{range_with_len}
use Rattle.queues.specs.Meaning.{different}

-- how many are held in all, of the numbers below a bound
unfoldable pub total : (ℕ → ℕ) → ℕ → ℕ
total held bound = sum_by held (range_with_len 0 bound)

pub total-zero : (held : ℕ → ℕ) → total held 0 ≡ 0
unfolding total
total-zero held = refl

range_last : (m : ℕ) → range_with_len 0 (suc m) ≡ range_with_len 0 m ++ m ∷ []
range_last m =
    ap (range_with_len 0) (sym (add-one m)) ∙ sym (map-id (range_with_len 0 (m + 1))) ∙ map-range_with_len_more (λ k. k) 0 m m (omega arith)
    ∙ ap (λ (ks : List ℕ). ks ++ m ∷ []) (map-id (range_with_len 0 m))

pub total-suc : (held : ℕ → ℕ) (m : ℕ) → total held (suc m) ≡ total held m + held m
unfolding total
total-suc held m = ap (sum_by held) (range_last m) ∙ sum_by_push held (range_with_len 0 m) m

pub total-first : (held : ℕ → ℕ) (m : ℕ) → total held (suc m) ≡ held 0 + total (λ k. held (suc k)) m
total-first held zero = omega (arith, total-suc held 0, total-zero held, total-zero (λ k. held (suc k)))
total-first held (suc m) = omega (arith, total-suc held (suc m), total-suc (λ k. held (suc k)) m, total-first held m)

-- where none is held twice, as many are held as different ones
pub total_different : (held : ℕ → ℕ) (m : ℕ) → ((k : ℕ) → held k ≤ 1) → different held m ≡ total held m
unfolding total different
total_different held m once = ap (λ (f : ℕ → ℕ). sum_by f (range_with_len 0 m)) (fun_ext (λ k. grind (arith, nat_tests, once k)))

-- and a number that is not held leaves the sum below the bound
pub total_less : (held : ℕ → ℕ) (n m : ℕ) → ((k : ℕ) → held k ≤ 1) → held n ≡ 0 → total held m + cond (ltb n m) 1 0 ≤ m
total_less held n zero once free = grind (arith, nat_tests, total-zero held)
total_less held n (suc m) once free =
    elim (cases_eq m n) [
      | inl e ↦ grind (arith, nat_tests, total-suc held m, total_less held n m once free, ap held e ∙ free)
      | inr other ↦ grind (arith, nat_tests, total-suc held m, total_less held n m once free, once m)
    ]

-- a number taken is one less in all
pub total_taken : (before after : ℕ → ℕ) (n m : ℕ) → 0 < before n → ((k : ℕ) → after k ≡ before k - cond (eqb k n) 1 0) → total after m + cond (ltb n m) 1 0 ≡ total before m
total_taken before after n zero some less = grind (arith, nat_tests, total-zero before, total-zero after)
total_taken before after n (suc m) some less =
    elim (cases_eq m n) [
      | inl e ↦ grind (arith, nat_tests, total-suc before m, total-suc after m, total_taken before after n m some less, less m, ap before e)
      | inr other ↦ grind (arith, nat_tests, total-suc before m, total-suc after m, total_taken before after n m some less, less m)
    ]
