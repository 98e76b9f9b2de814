use Rattle.std.proofs.Common.{eqb, ◌∙◌, arith, rules, tests}
use Rattle.std.specs.List.{range_with_len}
use Rattle.std.proofs.lemmas.Iterator.{YieldsList-from_range}
use Rattle.std.proofs.lemmas.Iterator.Search.{any_from_yields_List}
use Rattle.queues.specs.Round.{behind}
use Rattle.queues.proofs.Times.{any_times}
use Rattle.queues.proofs.oldest.RingReadyQueue.holds.Goals as goal

pub returns : goal.returns
returns c =
    let ring = c.args.self.now in
    let at = behind ring.places ring.head in
    any_from_yields_List (λ i. eqb (at i) c.args.n) _ _ _ c.any.ensures.ran (YieldsList-from_range 0 ring.len ring.len (cc) (omega arith)) (λ x b q k. search (rules, tests))
    ∙ any_times at (range_with_len 0 ring.len) c.args.n
