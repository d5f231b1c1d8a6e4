use Rattle.std.proofs.Common.{rules}
use Rattle.quadratic.proofs.Closed.{vanishing}
use Rattle.quadratic.proofs.sum.exponential_sum.Goals as goal

pub returns-clause-zero : goal.returns-clause-zero
returns-clause-zero c = vanishing c.args.x.now c.map_or.result (search rules) (search rules)
