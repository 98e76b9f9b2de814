use Rattle.std.proofs.Common.{◌≡◌, ◌++◌, map, drop, vec_items}
use Rattle.lines.specs.Text.{entry}
use Rattle.listing.specs.Forms.{form_rows}
use Rattle.listing.proofs.forms.push_forms.Given as goal

abbrev pub invariant-loop-entry : goal.invariant-loop-entry
invariant-loop-entry l = vec_items l.initial.out ++ form_rows (map entry l.entries) ≡ vec_items l.out ++ form_rows (map entry (drop l.entry-index l.entries))
