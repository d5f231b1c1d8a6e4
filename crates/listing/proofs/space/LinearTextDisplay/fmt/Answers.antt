use Rattle.std.proofs.Common.{rules}
use Rattle.listing.specs.Fields.{linear_text}
use Rattle.listing.proofs.space.LinearTextDisplay.fmt.Goals as goal

pub returns-clause-writes : goal.returns-clause-writes
returns-clause-writes g c =
    rw c.dimension.ensures at (c.write_joined.ensures (linear_text c.args.self.now.0.now) (λ a x low high p. search rules))
