use Rattle.std.proofs.Common.{◌≡◌, ◌<◌, arith}
use Rattle.std.proofs.lemmas.Bool.Decides.{nat_tests}
use Rattle.queues.specs.Lists.{times}
use Rattle.queues.specs.Ring.{line}
use Rattle.queues.proofs.Rounds.{around_put}
use Rattle.queues.proofs.Times.{once_last, puts_last}
use Rattle.queues.proofs.oldest.RingReadyQueue.put.Goals as goal

pub invariant_of-self : goal.invariant_of-self
invariant_of-self c =
    let ring = c.args.self.now in
    let n = c.args.n in
    let small : n < 64 = omega arith in
    let free : times (line ring) n ≡ 0 = grind (arith, nat_tests) in
    let (space, grown) = around_put ring.places ring.head ring.len n (omega arith) ring.once small free in
    record { turned = omega arith; short = omega arith; once = rw grown (once_last (line ring) n small free ring.once) }

pub returns-then-not-holds : goal.returns-then-not-holds
returns-then-not-holds c =
    let ring = c.args.self.now in
    let n = c.args.n in
    let small : n < 64 = omega arith in
    let free : times (line ring) n ≡ 0 = grind (arith, nat_tests) in
    let (_, grown) = around_put ring.places ring.head ring.len n (omega arith) ring.once small free in
    record { puts = rw grown (puts_last (line ring) n small free); order = rw grown (grind (arith, nat_tests)) }
