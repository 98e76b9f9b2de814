use Rattle.std.proofs.Common.{◌≡◌, ap, ◌∙◌, arith}
use Rattle.queues.specs.Lists.{times}
use Rattle.queues.specs.Lowest.{marked}
use Rattle.queues.specs.Ring.{line}
use Rattle.queues.specs.declared.lowest.LowestFirst.{LowestFirst}
use Rattle.queues.specs.declared.oldest.Ring.{Ring}
use Rattle.std.proofs.lemmas.Bool.Decides.{nat_tests}
use Rattle.queuesheet.proofs.two_fives.Goals as goal

pub returns : goal.returns
returns c =
    let made = c.new-pair.ensures in
    let first : times (line c.new-pair.result.first) 5 ≡ 1 = ap (λ (q : Ring). times (line q) 5) made.first ∙ grind (arith, nat_tests, c.put.ensures.puts 5, c.new-first.ensures.empty 5) in
    let second : marked c.new-pair.result.second 5 ≡ 1 = ap (λ (q : LowestFirst). marked q 5) made.second ∙ grind (arith, nat_tests, c.put-3.ensures 5, c.put-2.ensures 5, c.new-second.ensures 5) in
    grind (arith, nat_tests, c.put-4.ensures.puts 5)
