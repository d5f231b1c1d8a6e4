use Rattle.std.proofs.Common.{◌+◌, List}
use Rattle.stabilizer.specs.declared.state.StabilizerState.{StabilizerState}
use Rattle.listing.specs.Pairs.{IsPairOf, Lines, StandsAt}
use Rattle.listing.specs.Written.{Writes}
use Rattle.listing.proofs.pairs.write_pairs_of.Given as goal

abbrev pub invariant-loop-k : goal.invariant-loop-k
invariant-loop-k g l =
    (states : List StabilizerState) → StandsAt states l.i l.t l.behind
    → Writes (Lines g.T.OfPair.text g.T.OfPair.tells states (IsPairOf (l.i + 1) (l.i + 1 + l.k)))
    (g.O.Write.contents l.fn.out) (g.O.Write.contents l.out)
