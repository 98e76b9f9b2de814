use Rattle.std.proofs.Common.{rules, tests}
use Rattle.std.proofs.lemmas.Iterator.{YieldsList-from_slice}
use Rattle.std.proofs.lemmas.Iterator.Search.{any_from_yields_List}
use Rattle.lines.specs.Judgement.{placed_at}
use Rattle.lines.proofs.Searches.{list_any-map}
use Rattle.lines.proofs.declaration.any_placed_at.Goals as goal

pub returns : goal.returns
returns c =
    rw list_any-map
    (any_from_yields_List (λ l. placed_at c.args.address l.kind) _ _ c.any.result c.any.ensures.ran (YieldsList-from_slice c.args.links.now cc) (λ x b q k. search (rules, tests)))
