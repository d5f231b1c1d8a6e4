use Rattle.std.proofs.Common.{lt_of_le_of_lt}
use lib.Bits.{bit_and, xor_lt, and_le_l}
use Rattle.quadratic.specs.Value.{value_at}
use Rattle.quadratic.proofs.Rows.{value-two, inside-xor, square-two, own-two}
use Rattle.quadratic.proofs.form.QuadraticForm.add_two.Goals as goal

pub invariant_of-self : goal.invariant_of-self
invariant_of-self c =
    let f = c.args.self.now in
    let m = c.args.mask in
    let t = c.xor_rows.new.table in
    let x = c.xor_rows.ensures in record {
      phased = f.phased;
      odds = xor_lt 48 f.odd m f.odds c.requires;
      negs = xor_lt 48 f.neg (bit_and m f.odd) f.negs (lt_of_le_of_lt (and_le_l m f.odd) c.requires);
      inside = inside-xor f.coupling t m m x 48 c.requires f.inside;
      square = square-two 48 f.phase f.odd f.neg f.coupling m 0 c.requires t x f.square;
      own = own-two 48 f.phase f.odd f.neg f.coupling m 0 c.requires t x f.own;
    }

pub returns : goal.returns
unfolding value_at
returns c =
    let f = c.args.self.now in
    λ p. value-two 48 f.phase f.odd f.neg f.coupling c.args.mask p c.requires c.xor_rows.new.table
    c.xor_rows.ensures
