-- The laws of INT: which number an operator gives, told by sums, products and the order of the whole numbers alone.
use Rattle.std.specs.Prelude.{◌≡◌, ◌^◌, ◌<◌, ◌⊎◌, ℤ, pos, ◌+ℤ◌, ◌-ℤ◌, ◌*ℤ◌, neg_ℤ, ◌≤ℤ◌, ◌<ℤ◌, Some, None, Option, unsigned_abs}
use Rattle.integers.specs.declared.Operator.{Operator}
use Rattle.integers.specs.declared.Operator.TheVariants.{Add, Subtract, Multiply, Divide, Remainder, Plus, Minus, Times}
use Rattle.integers.specs.declared.Comparison.{Comparison}
use Rattle.integers.specs.declared.Comparison.TheVariants.{Equal, Differ, Less, More, AtMost, AtLeast}

-- A number of INT: from −2^31 to 2^31 − 1.
abbrev pub InRange : ℤ → Type 0
InRange z = (neg_ℤ (pos (2 ^ 31)) ≤ℤ z) × (z <ℤ pos (2 ^ 31))

-- The answer is z itself, and there is none exactly when z is outside the range.
abbrev pub Exactly : ℤ → Option ℤ → Type 0
Exactly z (Some v) = (v ≡ z) × InRange z
Exactly z None = InRange z → ⊥

-- The answer is the number of the range that differs from z by a multiple of 2^32.
abbrev pub Modulo : ℤ → Option ℤ → Type 0
Modulo z (Some v) = InRange v × ((k : ℤ) × (v ≡ z +ℤ k *ℤ pos (2 ^ 32)))
Modulo z None = ⊥

-- q is a divided by b, rounded toward zero, and r is what that leaves of a: 0, or a number with the sign of a.
pub record Division (a b q r : ℤ) : Type 0 where
  pub whole : a ≡ q *ℤ b +ℤ r
  pub smaller : unsigned_abs r < unsigned_abs b
  pub not_below : pos 0 ≤ℤ a → pos 0 ≤ℤ r
  pub not_above : a ≤ℤ pos 0 → r ≤ℤ pos 0

-- What `a op b` gives.
abbrev pub Gives : Operator → ℤ → ℤ → Option ℤ → Type 0
Gives Add a b v = Exactly (a +ℤ b) v
Gives Subtract a b v = Exactly (a -ℤ b) v
Gives Multiply a b v = Exactly (a *ℤ b) v
Gives Divide a b v = ((b ≡ pos 0) × (v ≡ None)) ⊎ ((q : ℤ) × (r : ℤ) × Division a b q r × Exactly q v)
Gives Remainder a b v = ((b ≡ pos 0) × (v ≡ None)) ⊎ ((q : ℤ) × (r : ℤ) × Division a b q r × (v ≡ Some r))
Gives Plus a b v = Modulo (a +ℤ b) v
Gives Minus a b v = Modulo (a -ℤ b) v
Gives Times a b v = Modulo (a *ℤ b) v

-- v is the one answer of which a law holds.
pub record Only (Law : Option ℤ → Type 0) (v : Option ℤ) : Type 0 where
  pub holds : Law v
  pub alone : (w : Option ℤ) → Law w → w ≡ v

-- The comparison `a c b` is true of the numbers.
abbrev pub Holds : Comparison → ℤ → ℤ → Type 0
Holds Equal a b = a ≡ b
Holds Differ a b = a ≡ b → ⊥
Holds Less a b = a <ℤ b
Holds More a b = b <ℤ a
Holds AtMost a b = a ≤ℤ b
Holds AtLeast a b = b ≤ℤ a
