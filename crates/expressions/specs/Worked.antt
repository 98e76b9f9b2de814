-- Worked values: what these expressions give in every store.
use Rattle.std.specs.Prelude.{◌≡◌, true, false, pos, negsuc, Some, None}
use Rattle.integers.specs.declared.Operator.{Operator}
use Rattle.integers.specs.declared.Operator.TheVariants.{Subtract, Multiply, Divide, Remainder, Plus}
use Rattle.integers.specs.declared.Comparison.TheVariants.{Equal}
use Rattle.expressions.specs.declared.Value.TheVariants.{Int, Truth}
use Rattle.expressions.specs.declared.Dyadic.TheVariants.{Arithmetic, Compare, And, Or}
use Rattle.expressions.specs.Expression.{Expression, number, truth, negative, dyadic}
use Rattle.expressions.specs.Value.{Store, value}

-- An arithmetic operator between two operands.
abbrev pub arithmetic : Operator → Expression → Expression → Expression
arithmetic op a b = dyadic (Arithmetic op) a b

-- `-2147483648`, written as `(-2147483647) - 1`.
abbrev pub lowest : Expression
lowest = arithmetic Subtract (negative (number (pos 2147483647))) (number (pos 1))

-- `(1 / 0) = 1`, which has no value.
abbrev pub missing : Expression
missing = dyadic (Compare Equal) (arithmetic Divide (number (pos 1)) (number (pos 0))) (number (pos 1))

-- The worked values, each beside its expression in the language's writing.
pub record Worked (s : Store) : Type 0 where
  -- 7 / (-2) is -3
  pub quotient : value s (arithmetic Divide (number (pos 7)) (negative (number (pos 2)))) ≡ Some (Int (negsuc 2))
  -- (-7) \ 2 is -1
  pub remainder : value s (arithmetic Remainder (negative (number (pos 7))) (number (pos 2))) ≡ Some (Int (negsuc 0))
  -- 46340 * 46340 is 2147395600
  pub product : value s (arithmetic Multiply (number (pos 46340)) (number (pos 46340))) ≡ Some (Int (pos 2147395600))
  -- 46341 * 46341 has no value
  pub overflow : value s (arithmetic Multiply (number (pos 46341)) (number (pos 46341))) ≡ None
  -- FALSE AND ((1 / 0) = 1) is FALSE
  pub false_and : value s (dyadic And (truth false) missing) ≡ Some (Truth false)
  -- TRUE OR ((1 / 0) = 1) is TRUE
  pub true_or : value s (dyadic Or (truth true) missing) ≡ Some (Truth true)
  -- ((1 / 0) = 1) AND FALSE has no value
  pub missing_and : value s (dyadic And missing (truth false)) ≡ None
  -- (-2147483648) \ (-1) is 0
  pub lowest_remainder : value s (arithmetic Remainder lowest (negative (number (pos 1)))) ≡ Some (Int (pos 0))
  -- (-2147483648) / (-1) has no value
  pub lowest_quotient : value s (arithmetic Divide lowest (negative (number (pos 1)))) ≡ None
  -- 2147483647 PLUS 1 is -2147483648
  pub around : value s (arithmetic Plus (number (pos 2147483647)) (number (pos 1))) ≡ Some (Int (negsuc 2147483647))
