use Rattle.std.proofs.Common.{◌≡◌, None, ap, ◌∙◌, arith, rules}
use Rattle.std.proofs.lemmas.List.{take_all}
use Rattle.words.proofs.Numbers.{next_within, too_big, in_int}
use Rattle.words.specs.Scan.{decimal_value}
use Rattle.words.proofs.scan.number_of.Goals as goal

pub returns-in_err-checked_mul : goal.returns-in_err-checked_mul
returns-in_err-checked_mul c =
    let none : c.from_residual.result ≡ None = search rules in
    let next = next_within c.args.digits.now c.loop-d.d-index c.loop-d-test.true in
    none ∙ too_big c.args.digits.now (omega (arith, c.in_err-checked_mul.ensures))

pub returns-in_err-n : goal.returns-in_err-n
returns-in_err-n c =
    let none : c.from_residual-in_err-n.result ≡ None = search rules in
    let next = next_within c.args.digits.now c.loop-d.d-index c.loop-d-test.true in
    none ∙ too_big c.args.digits.now (omega (arith, c.in_ok-checked_mul.ensures, c.in_err-n.ensures))

pub returns : goal.returns
returns c =
    let whole = take_all c.loop-d.d-index c.args.digits.now c.loop-d-test.false in
    c.ok.ensures.value ∙ in_int c.args.digits.now c.loop-d.n c.try_from.result (c.loop-d.invariant ∙ ap decimal_value whole) c.try_from.ensures
