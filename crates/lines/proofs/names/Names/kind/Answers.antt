use Rattle.std.proofs.Common.{◌==◌, vec_items, rules, tests}
use Rattle.std.proofs.lemmas.Iterator.{YieldsList-from_slice}
use Rattle.std.proofs.lemmas.Iterator.Search.{find_from_yields_List}
use Rattle.lines.proofs.Searches.{find-map}
use Rattle.lines.proofs.names.Names.kind.Goals as goal

pub returns : goal.returns
returns c =
    let found = find_from_yields_List (λ l. l.channel.number == c.args.channel.number) _ _ c.find.result c.find.ensures.ran (YieldsList-from_slice (vec_items c.args.self.now.links) cc) (λ x b q k. search (rules, tests)) in
    rw find-map (search (rules, found))
