use Rattle.std.proofs.Common.{◌≡◌, ◌%◌, ◌^◌}
use lib.Bits.{bit_xor}
use Rattle.quadratic.specs.Value.{value_at}
use Rattle.quadratic.proofs.form.QuadraticForm.value.Given as goal

-- the value at the variables that are seen so far
abbrev pub invariant-loop-a : goal.invariant-loop-a
invariant-loop-a l = record {
  value : l.sum ≡ value_at l.self l.seen;
  seen : bit_xor l.seen l.a-iterator.left ≡ l.c % 2 ^ 48;
}
