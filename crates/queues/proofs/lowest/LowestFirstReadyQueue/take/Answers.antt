use Rattle.std.proofs.Common.{arith}
use Rattle.queues.proofs.Words.{gives_lowest, takes_lowest}
use Rattle.queues.proofs.lowest.LowestFirstReadyQueue.take.Goals as goal

pub returns : goal.returns
returns c =
    let w = c.args.self.now.word in
    record { takes = takes_lowest w (omega arith) (omega arith); order = gives_lowest w (omega arith) (omega arith) }
