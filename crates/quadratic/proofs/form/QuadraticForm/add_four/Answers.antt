use lib.Bits.{xor_lt}
use Rattle.quadratic.specs.Value.{value_at}
use Rattle.quadratic.proofs.Rows.{value-four}
use Rattle.quadratic.proofs.form.QuadraticForm.add_four.Goals as goal

pub invariant_of-self : goal.invariant_of-self
invariant_of-self c =
    let f = c.args.self.now in
    record {
      phased = f.phased;
      odds = f.odds;
      negs = xor_lt 48 f.neg c.args.mask f.negs c.requires;
      inside = f.inside;
      square = f.square;
      own = f.own;
    }

pub returns : goal.returns
unfolding value_at
returns c =
    let f = c.args.self.now in
    λ p. value-four 48 f.phase f.odd f.neg f.coupling c.args.mask p c.requires
