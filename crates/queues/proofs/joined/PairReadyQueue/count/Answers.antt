use Rattle.std.proofs.Common.{ltb, refl, ◌∙◌, rules, tests}
use Rattle.std.specs.List.{range_with_len}
use Rattle.std.proofs.lemmas.Iterator.{YieldsList-from_range}
use Rattle.std.proofs.lemmas.Iterator.Consumers.{YieldsList-at, YieldsList-from_filter, count_from_yields_List}
use Rattle.std.proofs.lemmas.List.Sums.{length-filter}
use Rattle.queues.specs.Meaning.{different}
use Rattle.queues.specs.Pair.{joint}
use Rattle.queues.proofs.joined.PairReadyQueue.count.Goals as goal

pub returns : goal.returns
unfolding different
returns g c =
    let held = joint g.F.ReadyQueue.held g.S.ReadyQueue.held c.args.self.now in
    let numbers = YieldsList-at c.filter.ensures.source (YieldsList-from_range 0 64 64 refl refl) in
    count_from_yields_List c.filter.result _ c.count.ensures.ran (YieldsList-from_filter _ (λ n. ltb 0 (held n)) numbers c.filter.ensures.closure (λ x b q k. search (rules, tests)))
    ∙ length-filter (λ n. ltb 0 (held n)) (range_with_len 0 64)
