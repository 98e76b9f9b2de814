use Rattle.std.proofs.Common.{map, sym, ◌∙◌, inr, arith, rules}
use Rattle.std.proofs.lemmas.Result.{err_from_is_err_and}
use Rattle.words.specs.Token.{token}
use Rattle.lines.proofs.Depths.{deeper, opened, unclosed}
use Rattle.lines.proofs.phrases.+expression_operand_operation.Goals as goal

pub operand-returns-in_err-e-in-Open : goal.operand-returns-in_err-e-in-Open
operand-returns-in_err-e-in-Open t c = let deep = deeper c.args.depth c.in_ok-inner-in-Open.inner (map token c.in_ok-leaf.rest.now) (grind arith) in search rules

pub operand-returns-in_err-beyond-in-Open : goal.operand-returns-in_err-beyond-in-Open
operand-returns-in_err-beyond-in-Open t c =
    let none = unclosed c.args.depth c.in_ok-inner-in-Open.inner (map token c.in_ok-leaf.rest.now) _ (grind arith) c.in_ok-e-in-Open.ensures (sym c.in_err-beyond-in-Open.ensures) in
    let is = opened c.args.depth c.args.words.now c.in_ok-leaf.rest (rw c.in-Open.is at c.in_ok-leaf.ensures) in
    let p = err_from_is_err_and c.from_residual-in_err-beyond-in-Open.result c.from_residual-in_err-beyond-in-Open.ensures.1 in
    rw (p.1, p.2) (inr (is ∙ none))

pub operand-returns-in_ok-beyond-in-Open : goal.operand-returns-in_ok-beyond-in-Open
operand-returns-in_ok-beyond-in-Open t c = let deep = deeper c.args.depth c.in_ok-inner-in-Open.inner (map token c.in_ok-leaf.rest.now) (grind arith) in search rules
