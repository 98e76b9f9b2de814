use Rattle.std.proofs.Common.{ℕ, sym, ap, ◌∙◌, subst}
use Rattle.std.specs.Int.{bit_at}
use Rattle.queues.specs.Lists.{times}
use Rattle.queues.specs.Lowest.{marked}
use Rattle.queues.specs.Meaning.{Empty}
use Rattle.queues.specs.Ring.{line}
use Rattle.queues.specs.declared.lowest.LowestFirst.{LowestFirst}
use Rattle.queues.specs.declared.oldest.Ring.{Ring}
use Rattle.queuesheet.proofs.Served.{masked_first}
use Rattle.queuesheet.proofs.masked_first.Goals as goal

pub returns : goal.returns
returns c small_a small_b set unset =
    let a = c.args.a in
    let b = c.args.b in
    let made = c.new-pair.ensures in
    let none = subst (λ (q : LowestFirst). Empty (marked q)) (sym made.first) c.new.ensures in
    let nought = subst (λ (q : Ring). Empty (times (line q))) (sym made.second) c.new-2.ensures.empty in
    let set_a = ap (λ (m : ℕ). bit_at m a) made.mask ∙ set in
    let unset_b = ap (λ (m : ℕ). bit_at m b) made.mask ∙ unset in
    let (first, next) = masked_first marked (λ ring. times (line ring)) _ _ _ _ _ a b _ _ none nought c.put.ensures.route c.put-2.ensures.route c.take-first.ensures.order c.take.ensures.order small_a small_b set_a unset_b in
    cc
