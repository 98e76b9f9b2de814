-- Expressions as they are written.
use Rattle.std.specs.Prelude.{ℕ, true, false, List, ◌++◌, codes, decimal}
use Rattle.std.specs.Fmt.{signed_decimal}
use Rattle.integers.specs.Text.{comparison_text, operator_text}
use Rattle.expressions.specs.declared.Dyadic.{Dyadic}
use Rattle.expressions.specs.declared.Dyadic.TheVariants.{Arithmetic, Compare, And, Or}
use Rattle.expressions.specs.Expression.{Expression, number, truth, variable, negative, negation, dyadic}

-- an operator with two operands, as it is written
abbrev pub dyadic_text : Dyadic → List ℕ
dyadic_text (Arithmetic op) = operator_text op
dyadic_text (Compare c) = comparison_text c
dyadic_text And = codes "AND"
dyadic_text Or = codes "OR"

-- an expression, every part with an operator in brackets, variable n as `vn`
abbrev pub expression_text : Expression → List ℕ
expression_text (number z) = signed_decimal z
expression_text (truth true) = codes "TRUE"
expression_text (truth false) = codes "FALSE"
expression_text (variable x) = codes "v" ++ decimal x
expression_text (negative e) = codes "(-" ++ (expression_text e ++ codes ")")
expression_text (negation e) = codes "(NOT " ++ (expression_text e ++ codes ")")
expression_text (dyadic o a b) = codes "(" ++ (expression_text a ++ (codes " " ++ (dyadic_text o ++ (codes " " ++ (expression_text b ++ codes ")")))))
