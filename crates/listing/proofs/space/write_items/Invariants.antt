use Rattle.std.proofs.Common.{ℕ, ◌+◌, ◌-◌, ◌≤◌, List}
use Rattle.std.specs.Fmt.{HasWritten, IsPlainFormatter}
use Rattle.listing.specs.Fields.{Shows, following, up_to}
use Rattle.listing.proofs.space.write_items.Given as goal

abbrev pub invariant-loop-a : goal.invariant-loop-a
invariant-loop-a g l =
    record {
      within : l.a ≤ l.count + 1;
      put : (text : ℕ → List ℕ) → Shows l.count g.D.Display.output (goal.F-post g l.item) text → IsPlainFormatter l.fn.f
          → HasWritten g.W.Write.write_str_gives l.fn.f (following l.others (up_to text (l.a - 1))) l.f;
    }
