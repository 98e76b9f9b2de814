use Rattle.std.proofs.Common.{rules, sym, ◌∙◌, tests}
use Rattle.std.specs.Str.{bytes_eq}
use Rattle.std.proofs.lemmas.Iterator.{YieldsList-from_slice}
use Rattle.std.proofs.lemmas.Iterator.Search.{position_from_yields_List}
use Rattle.lines.proofs.Searches.{position-map}
use Rattle.lines.proofs.search.find.Goals as goal

pub returns-clause-first : goal.returns-clause-first
returns-clause-first g c =
    position_from_yields_List (λ row. bytes_eq (g.T.Named.named row) c.args.name.now) _ _ c.position.result c.position.ensures.ran (YieldsList-from_slice c.args.table.now cc) (λ x b q k. search (rules, tests))
    ∙ sym (position-map (λ n. bytes_eq n c.args.name.now) g.T.Named.named c.args.table.now)
