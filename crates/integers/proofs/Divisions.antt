-- Quotient and remainder keep the law of division.
use Rattle.std.proofs.Common.{◌≡◌, zero, suc, ◌<◌, ℤ, pos, negsuc, ◌≤ℤ◌, sym, refl, arith, int_div, int_rem, unsigned_abs}
use Rattle.std.proofs.lemmas.Int.{ints, quot-rem, rem_below}
use Rattle.integers.specs.Laws.{Division}

above_zero : (b : ℤ) → (b ≡ pos 0 → ⊥) → 0 < unsigned_abs b
above_zero (pos zero) h = absurd (h refl)
above_zero (pos (suc n)) h = omega arith
above_zero (negsuc n) h = omega arith

rem_not_below : (a b : ℤ) → pos 0 ≤ℤ a → pos 0 ≤ℤ int_rem a b
rem_not_below (pos m) (pos n) p = omega (arith, ints)
rem_not_below (pos m) (negsuc n) p = omega (arith, ints)
rem_not_below (negsuc m) b p = absurd (omega (arith, ints))

rem_not_above : (a b : ℤ) → a ≤ℤ pos 0 → int_rem a b ≤ℤ pos 0
rem_not_above (pos m) (pos n) p = omega (arith, ints)
rem_not_above (pos m) (negsuc n) p = omega (arith, ints)
rem_not_above (negsuc m) (pos n) p = omega (arith, ints)
rem_not_above (negsuc m) (negsuc n) p = omega (arith, ints)

pub division : (a b : ℤ) → (b ≡ pos 0 → ⊥) → Division a b (int_div a b) (int_rem a b)
division a b h = record { whole = sym (quot-rem a b); smaller = rem_below a b (above_zero b h); not_below = rem_not_below a b; not_above = rem_not_above a b }
