use Rattle.std.proofs.Common.{◌≡◌, ◌++◌, map, length}
use Rattle.words.specs.Token.{token}
use Rattle.lines.specs.Answer.{answered}
use Rattle.lines.specs.Sentences.{names_of, namings}
use Rattle.lines.proofs.drafts.names.Given as goal

-- the names read so far stand before those of the words that are left
abbrev pub invariant-loop-left : goal.invariant-loop-left
invariant-loop-left l = answered (λ ms. namings l.list ++ ms) (names_of (map token l.left)) ≡ names_of (map token l.words)

abbrev pub decreases-loop-left : goal.decreases-loop-left
decreases-loop-left l = length l.left
