use Rattle.std.proofs.Common.{◌≡◌, map, take, drop}
use Rattle.lines.specs.Syntax.{mention_text, naming}
use Rattle.lines.specs.Table.{clash, clash_from, table}
use Rattle.lines.proofs.resolution.unclashed.Given as goal

abbrev pub invariant-loop-i : goal.invariant-loop-i
invariant-loop-i l =
    clash (table l.names) (map naming l.list) ≡ clash_from (table l.names) (map mention_text (take l.i l.list)) (map naming (drop l.i l.list))
