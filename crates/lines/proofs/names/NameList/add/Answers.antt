use Rattle.std.proofs.Common.{arith}
use Rattle.std.proofs.lemmas.Grind.{common_steps}
use mathlib.Core.List.{map-map}
use Rattle.lines.proofs.names.NameList.add.Goals as goal

pub returns-clause-names : goal.returns-clause-names
returns-clause-names g c = grind (arith, common_steps, map-map)
