use Rattle.std.proofs.Common.{map, length, vec_items, vec_len}
use Rattle.words.specs.Token.{token}
use Rattle.words.proofs.Turns.{Sofar}
use Rattle.words.proofs.reading.words_of.Given as goal

abbrev pub invariant-loop-rest : goal.invariant-loop-rest
invariant-loop-rest l = Sofar l.line l.code l.rest (vec_len l.words) (map token (vec_items l.words))

abbrev pub decreases-loop-rest : goal.decreases-loop-rest
decreases-loop-rest l = length l.rest
