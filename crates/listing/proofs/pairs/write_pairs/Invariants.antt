use Rattle.std.proofs.Common.{◌≤◌, length}
use Rattle.listing.specs.Pairs.{IsPair, Lines}
use Rattle.listing.specs.Written.{Writes}
use Rattle.listing.proofs.pairs.write_pairs.Given as goal

abbrev pub invariant-loop-i : goal.invariant-loop-i
invariant-loop-i g l =
    Writes (Lines g.T.OfPair.text g.T.OfPair.tells l.states (λ p. IsPair (length l.states) p × (p.0 ≤ l.i)))
    (g.O.Write.contents l.fn.out) (g.O.Write.contents l.out)
