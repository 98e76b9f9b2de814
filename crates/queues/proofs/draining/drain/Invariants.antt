use Rattle.std.proofs.Common.{◌≤◌, vec_items, vec_capacity}
use Rattle.queues.specs.Takings.{Moves}
use Rattle.queues.proofs.Counts.{total}
use Rattle.queues.proofs.draining.drain.Given as goal

-- what was taken stands in the list, whose room has not shrunk
abbrev pub invariant-loop-queue : goal.invariant-loop-queue
invariant-loop-queue g l =
    Moves (g.Q.ReadyQueue.held l.initial.queue) (vec_items l.initial.list) (g.Q.ReadyQueue.held l.queue) (vec_items l.list)
    × (vec_capacity l.initial.list ≤ vec_capacity l.list)

-- how many numbers are held
abbrev pub decreases-loop-queue : goal.decreases-loop-queue
decreases-loop-queue g l = total (g.Q.ReadyQueue.held l.queue) 64
