-- The range of INT, as a test and as a fact.
use Rattle.std.proofs.Common.{◌≡◌, Bool, true, false, cond, ℤ, Some, None, refl, arith}
use Rattle.std.proofs.lemmas.Int.{ints}
use Rattle.integers.specs.Int.{in_range, inside}
use Rattle.integers.specs.Laws.{InRange, Exactly}

pub range_yes : (z : ℤ) → in_range z ≡ true → InRange z
range_yes z h = (grind (arith, ints), grind (arith, ints))

pub range_no : (z : ℤ) → in_range z ≡ false → InRange z → ⊥
range_no z h p = grind (arith, ints)

-- What is inside the range is told exactly.
pub inside_exact : (z : ℤ) → Exactly z (inside z)
inside_exact z = by (in_range z) refl
  where
    by : (t : Bool) → in_range z ≡ t → Exactly z (cond t (Some z) None)
    by true h = (refl, range_yes z h)
    by false h = range_no z h
