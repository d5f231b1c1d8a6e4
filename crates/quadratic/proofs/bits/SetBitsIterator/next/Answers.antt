use Rattle.std.proofs.Common.{rules}
use Rattle.quadratic.proofs.Lowest.{set_below, clear-lowest, lowest-fewer}
use Rattle.quadratic.proofs.bits.SetBitsIterator.next.Goals as goal

pub returns-clause-steps : goal.returns-clause-steps
returns-clause-steps c =
    let x = c.args.self.now in
    let p = c.lowest-p.result in
    let low = c.lowest-p.ensures in
    record {
      place = set_below 48 x.left p x.inside low.on;
      on = low.on;
      least = low.least;
      rest = clear-lowest x.left p low.on low.least;
    }

pub returns-clause-goes : goal.returns-clause-goes
returns-clause-goes c =
    let x = c.args.self.now in
    let p = c.lowest-p.result in
    let low = c.lowest-p.ensures in
    let f = lowest-fewer x.left p _ x.inside low.on (clear-lowest x.left p low.on low.least) in
    search rules
