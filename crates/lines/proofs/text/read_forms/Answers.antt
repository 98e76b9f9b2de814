use Rattle.std.proofs.Common.{map, is_ok, Ok, ap, ◌∙◌}
use Rattle.std.proofs.ResultArms.{chosen}
use Rattle.std.proofs.lemmas.List.{map_push}
use Rattle.std.proofs.lemmas.Result.{err_from_is_err_and}
use Rattle.lines.specs.Lines.{stated_with}
use Rattle.lines.specs.Text.{entry}
use Rattle.lines.proofs.Texts.{line_fault, line_blank, line_more, lines_done, entered_as}
use Rattle.lines.proofs.text.read_forms.Goals as goal

pub returns-in_err-statement : goal.returns-in_err-statement
returns-in_err-statement c =
    let p = err_from_is_err_and c.from_residual.result c.from_residual.ensures.1 in
    rw (p.1, p.2) (line_fault c.loop-line.invariant _ _ c.loop-line-test.true c.in_err-statement.ensures.reads)

pub loop-line-preserved-in_default : goal.loop-line-preserved-in_default
loop-line-preserved-in_default c =
    line_blank c.loop-line.invariant _ _ c.loop-line-test.true (c.in_ok-statement.ensures.reads ∙ ap (λ o. Ok (stated_with c.read_form.new.names o)) c.in_default.is)

pub loop-line-preserved : goal.loop-line-preserved
loop-line-preserved c =
    let pushed = chosen _ _ _ _ c.push.ensures.items (ap is_ok c.in_ok-push.was) in
    let is = c.in_ok-statement.ensures.reads ∙ ap (λ o. Ok (stated_with c.read_form.new.names o)) c.in-Some.is in
    entered_as (line_more c.loop-line.invariant _ _ _ c.loop-line-test.true is) (ap (map entry) pushed ∙ map_push entry _ _)

pub returns : goal.returns
returns c = lines_done c.loop-line.invariant c.loop-line-test.false
