use mir.Facts.{Fits-of_lt}
use Rattle.std.proofs.Common.{◌-◌, ◌/◌, ◌%◌, get_or, arith}
use Rattle.archive.proofs.OneBit.{renewed-fits, put-there, put-others}
use Rattle.archive.proofs.bits.put_bit.Goals as goal

pub overflow_add-bytes-2 : goal.overflow_add-bytes-2
overflow_add-bytes-2 c = Fits-of_lt (renewed-fits (get_or c.args.bytes.now (c.args.i / 8) 0) (7 - c.args.i % 8) c.args.bit
    (omega arith) (omega arith) (omega arith))

pub returns : goal.returns
returns c = record {
  there = put-there c.args.bytes.now c.args.i c.args.bit (omega arith) (omega arith) (omega arith);
  others = put-others c.args.bytes.now c.args.i c.args.bit (omega arith) (omega arith) (omega arith);
}
