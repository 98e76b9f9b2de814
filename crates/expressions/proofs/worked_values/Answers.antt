use Rattle.std.proofs.Common.{refl}
use Rattle.std.specs.Int.{int_wrap}
use Rattle.expressions.specs.Value.{value}
use Rattle.expressions.proofs.worked_values.Goals as goal

pub returns : goal.returns
unfolding value int_wrap
returns c = λ s. record { quotient = refl; remainder = refl; product = refl; overflow = refl; false_and = refl; true_or = refl; missing_and = refl; lowest_remainder = refl; lowest_quotient = refl; around = refl }
