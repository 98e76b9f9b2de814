use Rattle.std.proofs.Common.{map, vec_items}
use Rattle.lines.specs.Table.{table}
use Rattle.lines.specs.Text.{entry}
use Rattle.lines.proofs.Texts.{Sofar}
use Rattle.lines.proofs.text.read_forms.Given as goal

abbrev pub invariant-loop-line : goal.invariant-loop-line
invariant-loop-line l = Sofar (table l.initial.names) l.lines l.line-index (map entry (vec_items l.entries)) (table l.names)
