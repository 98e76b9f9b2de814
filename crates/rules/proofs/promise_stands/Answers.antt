use Rattle.rules.proofs.Theorem.{keeps_promise}
use Rattle.rules.proofs.promise_stands.Goals as goal

pub returns : goal.returns
returns c = keeps_promise
