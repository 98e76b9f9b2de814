use Rattle.std.proofs.Common.{◌≡◌, []}
use Rattle.queues.specs.Ring.{line}
use Rattle.queuesheet.proofs.gone_round.Given as goal

-- nobody stands in line
abbrev pub invariant-loop-n : goal.invariant-loop-n
invariant-loop-n l = line l.ring ≡ []
