use Rattle.std.proofs.Common.{map, vec_items, refl}
use Rattle.words.specs.Token.{token}
use Rattle.listing.specs.Listing.{row_of, rows_of}
use Rattle.listing.proofs.Appended.{piece_more, pieces_all}
use Rattle.listing.proofs.push_rows.Goals as goal

pub loop-word-preserved : goal.loop-word-preserved
loop-word-preserved c =
    piece_more (λ w. row_of c.args.line c.args.row.now.level (token w)) (λ l. rows_of c.args.line c.args.row.now.level (map token l)) refl (λ x xs. refl)
    (vec_items c.args.row.now.words) c.loop-word.word-index (vec_items c.loop-word.out) c.loop-word.invariant _ (rw c.as_slice-word-items.ensures.value at c.loop-word-test.true) (rw c.as_slice-word-items.ensures.value at c.in_ok-push_row.ensures)

pub returns : goal.returns
returns c =
    pieces_all (λ w. row_of c.args.line c.args.row.now.level (token w)) (λ l. rows_of c.args.line c.args.row.now.level (map token l)) refl (λ x xs. refl)
    (vec_items c.args.row.now.words) c.loop-word.word-index (vec_items c.loop-word.out) c.loop-word.invariant (rw c.as_slice-word-items.ensures.value at c.loop-word-test.false)
