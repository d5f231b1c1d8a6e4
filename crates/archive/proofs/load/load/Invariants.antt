use Rattle.std.proofs.Common.{◌≡◌, ◌+◌, ◌*◌, ◌≤◌, length, vec_items, vec_len}
use Rattle.archive.specs.Archives.{place_after}
use Rattle.archive.specs.Loads.{InTurn}
use Rattle.archive.proofs.load.load.Given as goal

abbrev pub invariant-loop-i : goal.invariant-loop-i
invariant-loop-i l = record {
  place : l.at ≡ place_after l.archive l.i;
  near : l.at ≤ 8 + l.i * 4096;
  inside : l.at ≤ 8 * length l.archive;
  count : vec_len l.states ≡ l.i;
  long : length (vec_items l.states) ≡ l.i;
  turn : InTurn l.archive 0 (vec_items l.states);
}
