use Rattle.std.proofs.Common.{arith}
use Rattle.std.proofs.lemmas.Bool.Decides.{nat_tests}
use Rattle.std.proofs.lemmas.Nat.Bits.{bit_at_above}
use Rattle.queues.proofs.lowest.LowestFirstReadyQueue.holds.Goals as goal

pub returns-else-n-lt64 : goal.returns-else-n-lt64
returns-else-n-lt64 c = grind (arith, nat_tests, bit_at_above c.args.self.now.word 64 c.args.n (omega arith) c.if-n-lt64.false)
