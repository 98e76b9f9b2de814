-- The rules of evaluation: when an expression has a value.
use Rattle.std.specs.Prelude.{◌≡◌, ℕ, Bool, true, false, not, ℤ, Some, Option}
use Rattle.integers.specs.Int.{applied, negated, compared}
use Rattle.integers.specs.declared.Operator.{Operator}
use Rattle.integers.specs.declared.Comparison.{Comparison}
use Rattle.expressions.specs.declared.Value.{Value}
use Rattle.expressions.specs.declared.Value.TheVariants.{Int, Truth}
use Rattle.expressions.specs.declared.Dyadic.TheVariants.{Arithmetic, Compare, And, Or}
use Rattle.expressions.specs.Expression.{Expression, number, truth, variable, negative, negation, dyadic}
use Rattle.expressions.specs.Value.{Store}

-- In the store, the expression has the value. No rule but these gives one.
pub data Has (s : Store) : Expression → Value → Type 0 where
  -- a number, TRUE or FALSE is its own value, and a variable has what the store holds
  of_number : {n : ℤ} → Has s (number n) (Int n)
  of_truth : {b : Bool} → Has s (truth b) (Truth b)
  of_variable : {x : ℕ} → Has s (variable x) (Int (s x))
  -- `-` of an INT, and NOT of a truth value
  of_negative : {e : Expression} {a v : ℤ} → Has s e (Int a) → negated a ≡ Some v → Has s (negative e) (Int v)
  of_negation : {e : Expression} {b : Bool} → Has s e (Truth b) → Has s (negation e) (Truth (not b))
  -- an arithmetic operator or a comparison, of two INTs
  of_arithmetic : {op : Operator} {e f : Expression} {a b v : ℤ} → Has s e (Int a) → Has s f (Int b) → applied op a b ≡ Some v → Has s (dyadic (Arithmetic op) e f) (Int v)
  of_comparison : {c : Comparison} {e f : Expression} {a b : ℤ} → Has s e (Int a) → Has s f (Int b) → Has s (dyadic (Compare c) e f) (Truth (compared c a b))
  -- FALSE AND anything is FALSE, and TRUE AND has the right operand's truth value
  of_false_and : {e f : Expression} → Has s e (Truth false) → Has s (dyadic And e f) (Truth false)
  of_true_and : {e f : Expression} {b : Bool} → Has s e (Truth true) → Has s f (Truth b) → Has s (dyadic And e f) (Truth b)
  -- TRUE OR anything is TRUE, and FALSE OR has the right operand's truth value
  of_true_or : {e f : Expression} → Has s e (Truth true) → Has s (dyadic Or e f) (Truth true)
  of_false_or : {e f : Expression} {b : Bool} → Has s e (Truth false) → Has s f (Truth b) → Has s (dyadic Or e f) (Truth b)

-- The answer is a value exactly when the expression has that value, and so it is none exactly when the expression has none.
pub record Tells (s : Store) (e : Expression) (answer : Option Value) : Type 0 where
  pub only : (v : Value) → answer ≡ Some v → Has s e v
  pub every : (v : Value) → Has s e v → answer ≡ Some v
