use Rattle.std.proofs.Common.{◌*◌, ◌≤◌, vec_items}
use Rattle.listing.proofs.Rows.{Sofar}
use Rattle.listing.proofs.push_lines.Given as goal

abbrev pub invariant-loop-line : goal.invariant-loop-line
invariant-loop-line l = (l.count ≤ 128 * l.line-index) × Sofar (vec_items l.initial.out) (vec_items l.out) l.lines l.line-index l.count
