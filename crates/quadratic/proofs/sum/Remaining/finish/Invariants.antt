use Rattle.std.proofs.Common.{◌≡◌, ◌+◌, ◌*◌, ◌≤◌}
use lib.Count.{ones}
use Rattle.cyclotomic.specs.Adjoin.{omegas}
use Rattle.quadratic.specs.Sums.{left_of}
use Rattle.quadratic.proofs.sum.Remaining.finish.Given as goal

-- the sum is as it was, and the power has risen by one or two for each variable that went
abbrev pub invariant-loop-self : goal.invariant-loop-self
invariant-loop-self l =
    let s = l.initial.self in
    let t = l.self in
    record {
      same : left_of omegas t.form t.live t.power ≡ left_of omegas s.form s.live s.power;
      least : s.power + ones s.live ≤ t.power + ones t.live;
      most : t.power + 2 * ones t.live ≤ s.power + 2 * ones s.live;
    }

abbrev pub decreases-loop-self : goal.decreases-loop-self
decreases-loop-self l = ones l.self.live
