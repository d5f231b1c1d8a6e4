use Rattle.std.proofs.Common.{◌≡◌, ℕ, ◌<◌, ◌≤◌, length, get_or}
use lib.Bits.{bit_xor}
use Rattle.quadratic.proofs.bits.xor_tables.Given as goal

-- the rows below a are added, and the others are as they were
abbrev pub invariant-loop-a : goal.invariant-loop-a
invariant-loop-a l =
    (length l.table ≡ 48)
    × ((k : ℕ) → k < l.a → get_or l.table k 0 ≡ bit_xor (get_or l.initial.table k 0) (get_or l.other k 0))
    × ((k : ℕ) → l.a ≤ k → get_or l.table k 0 ≡ get_or l.initial.table k 0)
