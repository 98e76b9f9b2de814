use Rattle.rules.proofs.Pinned.{answers_pinned}
use Rattle.rules.proofs.answers_are_pinned.Goals as goal

pub returns : goal.returns
returns c = answers_pinned
