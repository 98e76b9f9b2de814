use Rattle.std.proofs.Common.{refl, arith}
use Rattle.queues.proofs.Takings.{falls, moves_lost, moves_none, moves_number, moves_same, moves_vain}
use Rattle.queues.proofs.draining.drain.Goals as goal

pub loop-queue-init : goal.loop-queue-init
loop-queue-init g c = (moves_none _ _ _ refl, omega arith)

pub returns-in_err-reserve-clause-lost : goal.returns-in_err-reserve-clause-lost
returns-in_err-reserve-clause-lost g c = moves_lost _ _ _ _ (moves_same _ _ _ _ _ c.loop-queue.invariant.0 c.reserve.ensures.items)

pub returns-in_default-clause-lost : goal.returns-in_default-clause-lost
returns-in_default-clause-lost g c =
    moves_lost _ _ _ _ (moves_vain _ _ _ _ _ (moves_same _ _ _ _ _ c.loop-queue.invariant.0 c.reserve.ensures.items) c.in_default.ensures)

pub loop-queue-smaller : goal.loop-queue-smaller
loop-queue-smaller g c = falls _ _ c.in-Some.n c.in-Some.ensures

pub loop-queue-preserved : goal.loop-queue-preserved
loop-queue-preserved g c =
    let room = moves_same _ _ _ _ _ c.loop-queue.invariant.0 c.reserve.ensures.items in
    (moves_number _ _ _ _ _ _ c.in-Some.n room c.in-Some.ensures c.push_reserved.ensures.items, omega (arith, c.loop-queue.invariant.1))
