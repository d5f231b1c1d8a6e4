use lib.Bits.{and_mask, mask_lt}
use Rattle.std.proofs.Common.{◌/◌, ◌^◌}
use Rattle.quadratic.specs.Bits.{bit}
use Rattle.quadratic.proofs.bits.bit.Goals as goal

pub returns : goal.returns
unfolding bit
returns c = let n = c.args.x / 2 ^ c.args.i in record { value = and_mask n 1; small = mask_lt n 1 }
