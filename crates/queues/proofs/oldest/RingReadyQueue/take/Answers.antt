use Rattle.std.proofs.Common.{◌+◌, ◌-◌, ◌%◌, get_or, arith}
use Rattle.queues.specs.Round.{around}
use Rattle.queues.proofs.Rounds.{around_take}
use Rattle.queues.proofs.Times.{once_tail, takes_head}
use Rattle.queues.proofs.oldest.RingReadyQueue.take.Goals as goal

pub invariant_of-self : goal.invariant_of-self
invariant_of-self c =
    let ring = c.args.self.now in
    let rest = around ring.places ((ring.head + 1) % 64) (ring.len - 1) in
    let split = around_take ring.places ring.head ring.len ring.turned (omega arith) in
    record { turned = omega arith; short = omega arith; once = once_tail (get_or ring.places ring.head 0) rest (rw split at ring.once) }

pub returns : goal.returns
returns c =
    let ring = c.args.self.now in
    let rest = around ring.places ((ring.head + 1) % 64) (ring.len - 1) in
    let split = around_take ring.places ring.head ring.len ring.turned (omega arith) in
    record { takes = rw split (takes_head (get_or ring.places ring.head 0) rest (rw split at ring.once)); order = split }
