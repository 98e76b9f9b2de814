use Rattle.std.proofs.Common.{◌≡◌, ◌++◌, map, drop, vec_items}
use Rattle.listing.specs.Listing.{rows_of}
use Rattle.words.specs.Token.{token}
use Rattle.listing.proofs.push_rows.Given as goal

abbrev pub invariant-loop-word : goal.invariant-loop-word
invariant-loop-word l =
    vec_items l.initial.out ++ rows_of l.line l.row.level (map token (vec_items l.row.words))
    ≡ vec_items l.out ++ rows_of l.line l.row.level (map token (drop l.word-index (vec_items l.row.words)))
