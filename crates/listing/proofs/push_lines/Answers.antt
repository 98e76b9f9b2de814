use Rattle.std.proofs.Common.{vec_items, sym, refl, ◌∙◌, arith}
use Rattle.std.proofs.lemmas.List.{length-map}
use Rattle.std.proofs.lemmas.Result.{err_from_is_err_and}
use Rattle.words.specs.Token.{token}
use Rattle.listing.proofs.Rows.{line_fault, line_more, lines_done}
use Rattle.listing.proofs.push_lines.Goals as goal

pub returns-in_err-row : goal.returns-in_err-row
returns-in_err-row c =
    let p = err_from_is_err_and c.from_residual.result c.from_residual.ensures.1 in
    rw (p.1, p.2) (line_fault c.loop-line.invariant.1 _ _ c.loop-line-test.true c.in_err-row.ensures.reads)

pub loop-line-preserved : goal.loop-line-preserved
loop-line-preserved c =
    let words = c.in_ok-row.row.words in
    let many = c.len-count.ensures ∙ words.ok.0 ∙ sym (length-map (vec_items words) token) in (
      omega (arith, c.loop-line.invariant.0, c.len-count.ensures, c.in_ok-row.ensures.few),
      line_more c.loop-line.invariant.1 _ _ _ c.loop-line-test.true c.in_ok-row.ensures.reads refl many c.in_ok-push_rows.ensures,
    )

pub returns : goal.returns
returns c = lines_done c.loop-line.invariant.1 c.loop-line-test.false
