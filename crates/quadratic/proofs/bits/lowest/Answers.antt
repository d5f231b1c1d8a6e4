use Rattle.quadratic.proofs.Lowest.{lowest, least}
use Rattle.quadratic.proofs.bits.lowest.Goals as goal

pub returns : goal.returns
returns c = record { on = lowest 64 c.args.x c.requires c.ranges.x.fits; least = least 64 c.args.x }
