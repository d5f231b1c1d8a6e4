use Rattle.std.proofs.Common.{◌≡◌, ◌-◌, ◌*◌}
use Rattle.archive.specs.Layout.{free, copies}
use Rattle.archive.specs.Cursors.{Moved, fault_at}
use Rattle.archive.proofs.cursor.Cursor.skip_all.Given as goal

abbrev pub invariant-loop : goal.invariant-loop
invariant-loop l = record {
  moved : Moved l.initial.self l.self (l.counter * l.width);
  verdict : fault_at l.initial.self (copies l.count (free l.field l.width))
      ≡ fault_at l.self (copies (l.count - l.counter) (free l.field l.width));
}
