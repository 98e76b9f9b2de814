use Rattle.rules.proofs.Shut.{shut_out}
use Rattle.rules.proofs.wrong_engines_are_shut_out.Goals as goal

pub returns : goal.returns
returns c = shut_out
