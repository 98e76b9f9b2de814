-- The variables that an expression reads.
use Rattle.std.specs.Prelude.{◌≡◌, ℕ, ◌⊎◌}
use Rattle.std.specs.Int.{bit_at}
use Rattle.expressions.specs.Expression.{Expression, number, truth, variable, negative, negation, dyadic}
use Rattle.expressions.specs.Value.{Store, value}

-- The variable x stands in the expression.
abbrev pub Reads : Expression → ℕ → Type 0
Reads (number n) x = ⊥
Reads (truth b) x = ⊥
Reads (variable y) x = x ≡ y
Reads (negative e) x = Reads e x
Reads (negation e) x = Reads e x
Reads (dyadic op a b) x = Reads a x ⊎ Reads b x

-- Bit x of the mask is 1.
abbrev pub InMask : ℕ → ℕ → Type 0
InMask mask x = bit_at mask x ≡ 1

-- Bit x of the mask is 1 exactly when x is one of the variables told.
pub record Masks (mask : ℕ) (Told : ℕ → Type 0) : Type 0 where
  pub only : (x : ℕ) → InMask mask x → Told x
  pub every : (x : ℕ) → Told x → InMask mask x

-- Stores that agree on the variables of the mask give the expression the same value.
abbrev pub Suffices : ℕ → Expression → Type 0
Suffices mask e = (s s' : Store) → ((x : ℕ) → InMask mask x → s x ≡ s' x) → value s e ≡ value s' e
