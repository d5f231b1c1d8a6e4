use Rattle.std.proofs.Common.{◌≡◌, ℕ, ◌+◌, List, ◌++◌, drop}
use Rattle.std.specs.Io.KnownBytes.{Appends}
use Rattle.listing.specs.Fields.{state_lines}
use Rattle.listing.proofs.description.write_fields.Given as goal

abbrev pub invariant-loop-i : goal.invariant-loop-i
invariant-loop-i g l =
    (done : List ℕ) × Appends (g.O.Write.contents l.fn.out) (g.O.Write.contents l.out) done
    × (done ++ state_lines (1 + l.i) (drop l.i l.states) ≡ state_lines 1 l.states)
