use Rattle.std.proofs.Common.{map, sym, ◌∙◌, inr}
use Rattle.std.proofs.lemmas.Result.{err_from_is_err_and}
use Rattle.words.specs.Token.{token}
use Rattle.lines.proofs.Depths.{unguarded}
use Rattle.lines.proofs.drafts.conditional.Goals as goal

pub returns-in_err-after : goal.returns-in_err-after
returns-in_err-after c =
    let p = err_from_is_err_and c.from_residual-in_err-after.result c.from_residual-in_err-after.ensures.1 in
    rw (p.1, p.2) (inr (unguarded (map token c.args.words.now) _ c.in_ok-condition.rest.now (sym c.is_empty.ensures ∙ c.if-is_empty.false) c.in_ok-condition.ensures (sym c.in_err-after.ensures)))
