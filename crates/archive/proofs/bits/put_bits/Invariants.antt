use Rattle.std.proofs.Common.{◌≡◌, ◌+◌, ◌-◌, ◌/◌, ◌^◌}
use Rattle.archive.specs.Bits.{bits_from, Framed}
use Rattle.archive.proofs.bits.put_bits.Given as goal

abbrev pub invariant-loop-j : goal.invariant-loop-j
invariant-loop-j l =
    (bits_from l.bytes l.at l.j ≡ l.value / 2 ^ (l.width - l.j)) × Framed l.initial.bytes l.bytes l.at (l.at + l.j)
