use Rattle.queues.proofs.Words.{puts_bit}
use Rattle.queues.proofs.lowest.LowestFirstReadyQueue.put.Goals as goal

pub returns-then-n-lt64 : goal.returns-then-n-lt64
returns-then-n-lt64 c = puts_bit c.args.self.now.word c.args.n c.if-n-lt64.true
