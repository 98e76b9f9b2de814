use Rattle.std.proofs.Common.{arith}
use Rattle.queues.proofs.Words.{ones_different}
use Rattle.queues.proofs.lowest.LowestFirstReadyQueue.count.Goals as goal

pub returns : goal.returns
returns c = ones_different 64 c.args.self.now.word (omega arith)
