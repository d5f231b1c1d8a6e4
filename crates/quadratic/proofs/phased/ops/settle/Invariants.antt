use Rattle.std.proofs.Common.{◌≡◌, ℕ}
use lib.Bits.{bit_and, bit_xor}
use Rattle.quadratic.specs.Strings.{Member}
use Rattle.quadratic.specs.Value.{value_at, Sees}
use Rattle.quadratic.proofs.phased.ops.settle.Given as goal

-- the strings have the values that they had, and the variables that are gone already are not seen
abbrev pub invariant-loop-i : goal.invariant-loop-i
invariant-loop-i l = record {
  apart : bit_and l.i-iterator.left l.space.pivots ≡ 0;
  kept : (y : ℕ) → Member l.space y → value_at l.form y ≡ value_at l.initial.form y;
  seen : Sees l.initial.form (bit_xor l.space.pivots l.gone) → Sees l.form (bit_xor l.space.pivots l.i-iterator.left);
}
