use Rattle.queuesheet.proofs.Served.{lower_first}
use Rattle.queuesheet.proofs.lower_first.Goals as goal

pub returns : goal.returns
returns c less small =
    let (first, next) = lower_first _ _ _ _ c.args.a c.args.b _ _ c.new-queue.ensures c.put.ensures c.put-2.ensures c.take-first.ensures.takes c.take-first.ensures.order c.take.ensures.order less small in
    cc
