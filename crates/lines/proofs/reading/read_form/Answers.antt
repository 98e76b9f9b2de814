use Rattle.std.proofs.Common.{rules}
use Rattle.lines.proofs.Laws.{lawful}
use Rattle.lines.proofs.reading.read_form.Goals as goal

pub returns-in_err-row-clause-law : goal.returns-in_err-row-clause-law
returns-in_err-row-clause-law c = lawful _ _ _ _ (search rules)

pub returns-clause-law : goal.returns-clause-law
returns-clause-law c = lawful _ _ _ _ (search rules)
