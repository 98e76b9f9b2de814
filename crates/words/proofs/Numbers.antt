-- The loop that reads a run of digits.
use Rattle.std.proofs.Common.{◌≡◌, ℕ, ◌+◌, ◌-◌, ◌*◌, ◌<◌, ◌≤◌, List, [], ◌∷◌, length, get_or, take, drop, pos, Some, None, Ok, Err, Result, ℤ, w32, fold, sym, ap, ◌∙◌, ⊎_elim, arith}
use Rattle.std.proofs.lemmas.List.{take-append-drop}
use Rattle.std.proofs.lemmas.List.Sums.{fold_more, fold-append}
use Rattle.std.proofs.lemmas.Bool.{cases_lt, cond-true, cond-false, lt-ltb, le-ltb}
use Rattle.std.specs.Int.RustNames.{FitsSigned}
use Rattle.std.specs.Result.{OkIff, result_ok}
use Rattle.words.specs.Scan.{decimal_value, number_of}

abbrev shifted : ℕ → ℕ → ℕ
shifted n d = n * 10 + (d - 48)

grows : (a : ℕ) (xs : List ℕ) → a ≤ fold shifted a xs
grows a [] = omega arith
grows a (x ∷ xs) = let more : shifted a x ≤ fold shifted (shifted a x) xs = grows (shifted a x) xs in omega arith

-- one digit more makes no more than all the digits do
pub next_within : (s : List ℕ) (i : ℕ) → i < length s → shifted (decimal_value (take i s)) (get_or s i 0) ≤ decimal_value s
next_within s i within =
    let all = ap decimal_value (take-append-drop (i + 1) s) in
    let two = fold-append shifted 0 (take (i + 1) s) (drop (i + 1) s) in
    let one = fold_more shifted 0 s i 0 within in
    let more = grows (decimal_value (take (i + 1) s)) (drop (i + 1) s) in
    omega (arith, all, two, one, more)

pub too_big : (s : List ℕ) → 2147483647 < decimal_value s → None ≡ number_of s
unfolding number_of
too_big s big = sym (cond-true _ _ _ (lt-ltb 2147483647 (decimal_value s) big))

pub all_read : (s : List ℕ) → decimal_value s ≤ 2147483647 → Some (pos (decimal_value s)) ≡ number_of s
unfolding number_of
all_read s small = sym (cond-false _ _ _ (le-ltb 2147483647 (decimal_value s) small))

-- what `i32::try_from` makes of the value
pub in_int : {E : Type 0} (s : List ℕ) (n : ℕ) (r : Result ℤ E) → n ≡ decimal_value s → OkIff r (FitsSigned w32 (pos n)) (pos n) → result_ok r ≡ number_of s
in_int s n (Ok z) e is = ap Some is.1 ∙ ap (λ k. Some (pos k)) e ∙ all_read s (omega (arith, is.0))
in_int s n (Err f) e none = ⊎_elim (λ big. too_big s (omega (arith, e))) (λ small. absurd (none (omega arith))) (cases_lt 2147483647 n)
