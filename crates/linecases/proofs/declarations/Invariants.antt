use Rattle.std.proofs.Common.{◌≡◌, ◌*◌, vec_len}
use Rattle.linecases.proofs.declarations.Given as goal

abbrev pub invariant-loop-i : goal.invariant-loop-i
invariant-loop-i l = vec_len l.text ≡ 8 * l.i
