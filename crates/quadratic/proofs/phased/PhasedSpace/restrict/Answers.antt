use Rattle.std.proofs.Common.{sym, ap, ◌∙◌, subst, ap₂}
use lib.Bits.{bit_and, bit_xor, xor_lt}
use Rattle.quadratic.specs.Bits.{flag}
use Rattle.quadratic.specs.Value.{value_at}
use Rattle.quadratic.proofs.Halving.{gone-off, gone-back, halved}
use Rattle.quadratic.proofs.Sight.{Seen}
use Rattle.quadratic.proofs.phased.PhasedSpace.restrict.Goals as goal

pub settle-requires : goal.settle-requires
settle-requires c =
    let s = c.args.self.now.space in
    let s' = c.restrict.new.self in
    let one = c.in-Restricted.ensures.pivots in
    let e = ap₂ bit_xor c.pivots.ensures c.pivots-in-Restricted.ensures in
    record {
      inside = rw e (xor_lt 48 s.pivots s'.pivots s.within s'.within);
      apart = ap (λ x. bit_and x s'.pivots) e ∙ gone-off s.pivots s'.pivots one.0 one.1 one.2;
    }

pub invariant_of-self : goal.invariant_of-self
invariant_of-self c =
    let s = c.args.self.now in
    let P' = c.restrict.new.self.pivots in
    let e = ap₂ bit_xor c.pivots.ensures c.pivots-in-Restricted.ensures in
    let all = ap (bit_xor P') e ∙ gone-back s.space.pivots P' in
    record {
      idle = c.settle.ensures.seen (subst (Seen (value_at s.form)) (sym all) s.idle);
    }

pub returns-in-Restricted : goal.returns-in-Restricted
returns-in-Restricted c =
    let one = c.in-Restricted.ensures.pivots in
    halved c.args.self.now _ c.args.w (flag c.args.b) one.0 c.in-Restricted.ensures.strings one.1 one.2
    c.settle.ensures.kept
