use Rattle.std.proofs.Common.{rules}
use Rattle.quadratic.proofs.Lowest.{set_below, lowest-below, lowest-fewer}
use Rattle.quadratic.proofs.bits.SetBitsDoubleEndedIterator.next_back.Goals as goal

pub invariant_of-self : goal.invariant_of-self
invariant_of-self c =
    let x = c.args.self.now in
    record { inside = lowest-below x.left c.highest-p.result _ x.inside c.highest-p.ensures.on c.turned-self.ensures }

pub returns-clause-steps : goal.returns-clause-steps
returns-clause-steps c =
    let x = c.args.self.now in
    let p = c.highest-p.result in
    let top = c.highest-p.ensures in
    record { place = set_below 48 x.left p x.inside top.on; on = top.on; most = top.most; rest = c.turned-self.ensures }

pub returns-clause-goes : goal.returns-clause-goes
returns-clause-goes c =
    let x = c.args.self.now in
    let f = lowest-fewer x.left c.highest-p.result _ x.inside c.highest-p.ensures.on c.turned-self.ensures in
    search rules
