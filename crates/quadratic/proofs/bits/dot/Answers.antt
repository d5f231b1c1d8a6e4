use lib.Bits.{and_mask, mask_lt, bit_and}
use lib.Count.{ones}
use Rattle.quadratic.specs.Bits.{dot}
use Rattle.quadratic.proofs.bits.dot.Goals as goal

pub returns : goal.returns
unfolding dot
returns c = let n = ones (bit_and c.args.x c.args.y) in record { value = and_mask n 1; small = mask_lt n 1 }
