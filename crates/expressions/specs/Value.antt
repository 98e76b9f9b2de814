-- The value of an expression in a store of variables.
use Rattle.std.specs.Prelude.{◌≡◌, refl, ℕ, Bool, true, false, cond, not, List, ℤ, pos, Some, None, Option, slice_index_or}
use Rattle.integers.specs.Int.{applied, negated, compared}
use Rattle.expressions.specs.declared.Value.{Value}
use Rattle.expressions.specs.declared.Value.TheVariants.{Int, Truth}
use Rattle.expressions.specs.declared.Dyadic.{Dyadic}
use Rattle.expressions.specs.declared.Dyadic.TheVariants.{Arithmetic, Compare, And, Or}
use Rattle.expressions.specs.Expression.{Expression, number, truth, variable, negative, negation, dyadic}

-- A store gives each variable, by its number, the INT that it holds.
abbrev pub Store : Type 0
Store = ℕ → ℤ

-- The store whose variables, from number 0 on, hold these numbers.
abbrev pub store_of : List ℤ → Store
store_of vs = λ x. slice_index_or vs x (pos 0)

-- The INT that a value is: none where there is no value, or a truth value.
abbrev pub int_of : Option Value → Option ℤ
int_of None = None
int_of (Some (Int z)) = Some z
int_of (Some (Truth b)) = None

-- The truth value that a value is: none where there is no value, or an INT.
abbrev pub truth_of : Option Value → Option Bool
truth_of None = None
truth_of (Some (Int z)) = None
truth_of (Some (Truth b)) = Some b

-- What an operator gives at its operand, and no value where the operand is none.
abbrev pub with : {A : Type 0} → Option A → (A → Option Value) → Option Value
with None k = None
with (Some x) k = k x

-- An INT as a value.
abbrev pub as_int : Option ℤ → Option Value
as_int None = None
as_int (Some z) = Some (Int z)

-- A truth value as a value.
abbrev pub as_truth : Option Bool → Option Value
as_truth None = None
as_truth (Some b) = Some (Truth b)

-- `-` before an operand: an INT.
abbrev pub negative_of : Option Value → Option Value
negative_of v = with (int_of v) (λ a. as_int (negated a))

-- NOT before an operand: a truth value.
abbrev pub negation_of : Option Value → Option Value
negation_of v = with (truth_of v) (λ a. Some (Truth (not a)))

-- An operator between two operands. FALSE AND, and TRUE OR, need no right value; any other operator needs both.
abbrev pub combined : Dyadic → Option Value → Option Value → Option Value
combined (Arithmetic op) l r = with (int_of l) (λ a. with (int_of r) (λ b. as_int (applied op a b)))
combined (Compare c) l r = with (int_of l) (λ a. with (int_of r) (λ b. Some (Truth (compared c a b))))
combined And l r = with (truth_of l) (λ a. cond a (as_truth (truth_of r)) (Some (Truth false)))
combined Or l r = with (truth_of l) (λ a. cond a (Some (Truth true)) (as_truth (truth_of r)))

-- The value of an expression in a store, if it has one.
unfoldable pub value : Store → Expression → Option Value
value s (number n) = Some (Int n)
value s (truth b) = Some (Truth b)
value s (variable x) = Some (Int (s x))
value s (negative e) = negative_of (value s e)
value s (negation e) = negation_of (value s e)
value s (dyadic op a b) = combined op (value s a) (value s b)

-- The value of an expression that is to be an INT.
unfoldable pub int_value : Store → Expression → Option ℤ
int_value s e = int_of (value s e)

-- The value of an expression that is to be a truth value.
unfoldable pub truth_value : Store → Expression → Option Bool
truth_value s e = truth_of (value s e)

pub int_valued : (s : Store) (e : Expression) → int_value s e ≡ int_of (value s e)
unfolding int_value
int_valued s e = refl

pub truth_valued : (s : Store) (e : Expression) → truth_value s e ≡ truth_of (value s e)
unfolding truth_value
truth_valued s e = refl
