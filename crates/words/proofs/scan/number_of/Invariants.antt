use Rattle.std.proofs.Common.{◌≡◌, take}
use Rattle.words.specs.Scan.{decimal_value}
use Rattle.words.proofs.scan.number_of.Given as goal

abbrev pub invariant-loop-d : goal.invariant-loop-d
invariant-loop-d l = l.n ≡ decimal_value (take l.d-index l.digits)
