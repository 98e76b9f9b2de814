use Rattle.std.proofs.Common.{◌+◌, ◌*◌}
use Rattle.lines.proofs.phrases.+expression_operand_operation.Given as goal

abbrev pub decreases-expression : goal.decreases-expression
decreases-expression l = 3 * l.depth + 2

abbrev pub decreases-operation : goal.decreases-operation
decreases-operation l = 3 * l.depth + 1

abbrev pub decreases-operand : goal.decreases-operand
decreases-operand l = 3 * l.depth
