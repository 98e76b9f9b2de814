use Rattle.std.proofs.Common.{◌++◌, map, vec_items, refl, ap, ◌∙◌}
use Rattle.lines.specs.Text.{entry}
use Rattle.listing.specs.Forms.{entry_row, form_rows}
use Rattle.listing.proofs.Appended.{piece_more, pieces_all}
use Rattle.listing.proofs.forms.push_forms.Goals as goal

pub loop-entry-preserved : goal.loop-entry-preserved
loop-entry-preserved c =
    piece_more (λ e. entry_row (entry e)) (λ l. form_rows (map entry l)) refl (λ x xs. refl)
    c.args.entries.now c.loop-entry.entry-index (vec_items c.loop-entry.out) c.loop-entry.invariant
    c.entry-item.result c.loop-entry-test.true (c.in_ok-push_form.ensures ∙ ap (λ e. vec_items c.loop-entry.out ++ entry_row (entry e)) c.entry-item.is)

pub returns : goal.returns
returns c =
    pieces_all (λ e. entry_row (entry e)) (λ l. form_rows (map entry l)) refl (λ x xs. refl)
    c.args.entries.now c.loop-entry.entry-index (vec_items c.loop-entry.out) c.loop-entry.invariant c.loop-entry-test.false
