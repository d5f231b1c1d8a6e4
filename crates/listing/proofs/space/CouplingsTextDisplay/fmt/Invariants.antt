use Rattle.std.proofs.Common.{◌-◌, false}
use Rattle.std.specs.Fmt.{HasWritten, IsPlainFormatter}
use Rattle.listing.specs.Fields.{coupling_texts, following}
use Rattle.listing.proofs.space.CouplingsTextDisplay.fmt.Given as goal

abbrev pub invariant-loop-a : goal.invariant-loop-a
invariant-loop-a g l =
    IsPlainFormatter l.fn.f
    → HasWritten g.W.Write.write_str_gives l.fn.f (following false (coupling_texts l.self.0.now (l.a-counter - 1))) l.f
