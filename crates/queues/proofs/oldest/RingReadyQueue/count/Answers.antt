use Rattle.std.proofs.Common.{sym, ◌∙◌}
use Rattle.queues.specs.Ring.{line}
use Rattle.queues.proofs.Rounds.{around_length}
use Rattle.queues.proofs.Times.{different_length}
use Rattle.queues.proofs.oldest.RingReadyQueue.count.Goals as goal

pub returns : goal.returns
returns c =
    let ring = c.args.self.now in
    sym (different_length (line ring) ring.once ∙ around_length ring.places ring.head ring.len)
