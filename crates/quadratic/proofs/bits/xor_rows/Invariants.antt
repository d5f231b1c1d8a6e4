use Rattle.std.proofs.Common.{◌≡◌, ℕ, ◌*◌, length, get_or}
use lib.Bits.{bit_xor}
use Rattle.quadratic.specs.Bits.{bit}
use Rattle.quadratic.proofs.bits.xor_rows.Given as goal

-- the rows that are still to come are as they were, and the others are done
abbrev pub invariant-loop-p : goal.invariant-loop-p
invariant-loop-p l = record {
  long : length l.table ≡ 48;
  done : (k : ℕ) → bit l.p-iterator.left k ≡ 0 → get_or l.table k 0 ≡ bit_xor (get_or l.initial.table k 0) (bit l.rows k * l.mask);
  ahead : (k : ℕ) → bit l.p-iterator.left k ≡ 1 → (bit l.rows k ≡ 1) × (get_or l.table k 0 ≡ get_or l.initial.table k 0);
}
