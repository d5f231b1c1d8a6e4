use Rattle.std.proofs.Common.{ℕ, ◌+◌, ◌*◌, ◌<◌, get_or}
use Rattle.archive.specs.Bits.{bits_from, Framed}
use Rattle.archive.proofs.put.put_each.Given as goal

abbrev pub invariant-loop-j : goal.invariant-loop-j
invariant-loop-j g l = record {
  there : (i : ℕ) → i < l.j → goal.F-post g l.value (get_or l.pivots i 0) (bits_from l.buffer (l.at + i * l.width) l.width);
  framed : Framed l.initial.buffer l.buffer l.at (l.at + l.j * l.width);
}
