use Rattle.std.proofs.Common.{rules}
use Rattle.std.proofs.lemmas.Int.{wraps}
use Rattle.integers.proofs.Given.{applied_only}
use Rattle.integers.proofs.apply.Goals as goal

pub returns-in-Add-clause-law : goal.returns-in-Add-clause-law
returns-in-Add-clause-law c = applied_only c.args.op c.args.a c.args.b (search rules)

pub returns-in-Subtract-clause-law : goal.returns-in-Subtract-clause-law
returns-in-Subtract-clause-law c = applied_only c.args.op c.args.a c.args.b (search rules)

pub returns-in-Multiply-clause-law : goal.returns-in-Multiply-clause-law
returns-in-Multiply-clause-law c = applied_only c.args.op c.args.a c.args.b (search rules)

pub returns-in-Divide-clause-law : goal.returns-in-Divide-clause-law
returns-in-Divide-clause-law c = applied_only c.args.op c.args.a c.args.b (search rules)

pub returns-then-b-eq0-clause-law : goal.returns-then-b-eq0-clause-law
returns-then-b-eq0-clause-law c = applied_only c.args.op c.args.a c.args.b (search rules)

pub returns-else-b-eq0-clause-law : goal.returns-else-b-eq0-clause-law
returns-else-b-eq0-clause-law c = applied_only c.args.op c.args.a c.args.b (search rules)

pub returns-in-Plus : goal.returns-in-Plus
returns-in-Plus c = record { value = search (rules, wraps); law = applied_only c.args.op c.args.a c.args.b (search (rules, wraps)) }

pub returns-in-Minus : goal.returns-in-Minus
returns-in-Minus c = record { value = search (rules, wraps); law = applied_only c.args.op c.args.a c.args.b (search (rules, wraps)) }

pub returns-in-Times : goal.returns-in-Times
returns-in-Times c = record { value = search (rules, wraps); law = applied_only c.args.op c.args.a c.args.b (search (rules, wraps)) }
