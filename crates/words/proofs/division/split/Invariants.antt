use Rattle.std.proofs.Common.{length, map, vec_items, vec_len}
use Rattle.words.specs.Division.{numbered_line}
use Rattle.words.proofs.Divided.{Sofar}
use Rattle.words.proofs.division.split.Given as goal

abbrev pub invariant-loop-piece : goal.invariant-loop-piece
invariant-loop-piece l = Sofar l.text (vec_len l.lines) (map numbered_line (vec_items l.lines)) (length l.yielded)
