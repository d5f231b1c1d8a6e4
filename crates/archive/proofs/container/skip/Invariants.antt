use Rattle.std.proofs.Common.{◌≡◌, ◌+◌, ◌-◌, ◌*◌, ◌≤◌, length}
use Rattle.archive.specs.Archives.{place_after, states_fault}
use Rattle.archive.proofs.container.skip.Given as goal

abbrev pub invariant-loop-i : goal.invariant-loop-i
invariant-loop-i l = record {
  place : l.place ≡ place_after l.archive l.i;
  near : l.place ≤ 8 + l.i * 4096;
  inside : l.place ≤ 8 * length l.archive;
  left : states_fault l.archive l.done l.m ≡ states_fault l.archive l.i (l.done + l.m - l.i);
}
