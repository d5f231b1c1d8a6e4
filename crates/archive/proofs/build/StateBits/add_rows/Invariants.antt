use Rattle.std.proofs.Common.{◌≡◌}
use Rattle.archive.specs.StateBits.{RaisedIn, ListedIn}
use Rattle.archive.proofs.build.StateBits.add_rows.Given as goal

abbrev pub invariant-loop-a : goal.invariant-loop-a
invariant-loop-a l = record {
  raised : RaisedIn l.self l.a l.body;
  listed : ListedIn l.self l.a l.pivots.items;
  same : l.body.form ≡ l.initial.body.form;
}
