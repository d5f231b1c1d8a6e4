use Rattle.std.proofs.Common.{◌*◌}
use Rattle.archive.specs.Cursors.{Moved}
use Rattle.archive.proofs.Rows.{Sofar}
use Rattle.archive.proofs.cursor.Cursor.pivots.Given as goal

abbrev pub invariant-loop : goal.invariant-loop
invariant-loop l = record {
  moved : Moved l.initial.self l.self (l.counter * l.shape.n);
  rows : Sofar l.initial.self.bytes.now l.initial.self.start l.shape.n l.shape.k l.counter l.self.at l.above l.seen l.leads;
}
