use Rattle.std.proofs.Common.{◌++◌, map, is_ok, vec_items, sym, ap, ◌∙◌}
use Rattle.std.proofs.ResultArms.{chosen}
use Rattle.std.proofs.lemmas.List.{length-map}
use Rattle.listing.specs.Listing.{heading}
use Rattle.words.specs.Division.{numbered_line}
use Rattle.listing.proofs.Rows.{listed}
use Rattle.listing.proofs.listing.Goals as goal

pub returns : goal.returns
returns c =
    let lines = c.in_ok-lines.lines in
    let head = chosen _ _ _ _ c.extend_from_slice.ensures.items (ap is_ok c.in_ok-extend_from_slice.was) in
    let end = chosen _ _ _ _ c.extend_from_slice-2.ensures.items (ap is_ok c.in_ok-extend_from_slice-2.was) in
    let shows = rw c.as_slice.ensures.value at c.in_ok-words.ensures in
    listed c.args.text.now (map numbered_line (vec_items lines)) _ _ _ _ _ _ c.in_ok-lines.ensures.splits
    (head ∙ ap (λ l. l ++ heading) c.new-out.ensures.items)
    shows
    (c.len-count.ensures ∙ lines.ok.0 ∙ sym (length-map (vec_items lines) numbered_line))
    (c.as_bytes.ensures.value ∙ c.in_ok-end.ensures.ok)
    end
