use Rattle.std.proofs.Common.{◌+◌, refl, ap, ◌∙◌, arith}
use lib.Count.{ones}
use Rattle.quadratic.proofs.Eliminate.{odd-left}
use Rattle.quadratic.proofs.Lowest.{set_below, ones-drop, summed-out}
use Rattle.quadratic.proofs.sum.Remaining.sum_odd.Goals as goal

pub turned-rest-requires : goal.turned-rest-requires
turned-rest-requires c = let s = c.args.self.now in let l =
    set_below 48 s.live c.args.a s.inside c.requires.live in omega arith

pub partners-requires : goal.partners-requires
partners-requires c = let s = c.args.self.now in set_below 48 s.live c.args.a s.inside c.requires.live

pub invariant_of-self : goal.invariant_of-self
invariant_of-self c =
    let s = c.args.self.now in
    let a = c.args.a in
    let left = summed-out s.live a c.turned-rest.result s.power 1 s.inside c.requires.live c.turned-rest.ensures (omega arith) s.few in
    record { inside = left.0; few = left.1 }

pub returns : goal.returns
returns c =
    let s = c.args.self.now in
    let a = c.args.a in
    record {
      same = odd-left s.form s.live a s.inside c.requires.live c.add_phase.new.self
          c.add_parity.new.self c.linear-own.result c.partners.result
          c.turned-rest.result s.power c.requires.odd c.linear-own.ensures.value c.partners.ensures
          c.turned-rest.ensures c.add_phase.ensures c.add_parity.ensures;
      count = ap (λ x. ones x + 1) c.turned-rest.ensures ∙ ones-drop s.live a s.inside c.requires.live;
      powers = refl;
    }
