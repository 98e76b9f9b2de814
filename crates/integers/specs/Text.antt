-- Operators and comparisons as they are written.
use Rattle.std.specs.Prelude.{ℕ, List, codes}
use Rattle.integers.specs.declared.Operator.{Operator}
use Rattle.integers.specs.declared.Operator.TheVariants.{Add, Subtract, Multiply, Divide, Remainder, Plus, Minus, Times}
use Rattle.integers.specs.declared.Comparison.{Comparison}
use Rattle.integers.specs.declared.Comparison.TheVariants.{Equal, Differ, Less, More, AtMost, AtLeast}

-- an operator as it is written
abbrev pub operator_text : Operator → List ℕ
operator_text Add = codes "+"
operator_text Subtract = codes "-"
operator_text Multiply = codes "*"
operator_text Divide = codes "/"
operator_text Remainder = codes "\\"
operator_text Plus = codes "PLUS"
operator_text Minus = codes "MINUS"
operator_text Times = codes "TIMES"

-- a comparison as it is written
abbrev pub comparison_text : Comparison → List ℕ
comparison_text Equal = codes "="
comparison_text Differ = codes "<>"
comparison_text Less = codes "<"
comparison_text More = codes ">"
comparison_text AtMost = codes "<="
comparison_text AtLeast = codes ">="
