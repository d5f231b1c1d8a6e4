use Rattle.std.proofs.Common.{lt_of_le_of_lt}
use lib.Bits.{bit_and, xor_lt, and_le_l}
use Rattle.quadratic.specs.Value.{value_at}
use Rattle.quadratic.proofs.Rows.{value-product, inside_both, square-both, own-both}
use Rattle.quadratic.proofs.form.QuadraticForm.add_product.Goals as goal

pub invariant_of-self : goal.invariant_of-self
invariant_of-self c =
    let f = c.args.self.now in
    let u = c.args.u in
    let v = c.args.v in
    let t = c.xor_rows.new.table in
    let s = c.xor_rows-2.new.table in
    let x = c.xor_rows.ensures in
    let y = c.xor_rows-2.ensures in record {
      phased = f.phased;
      odds = f.odds;
      negs = xor_lt 48 f.neg (bit_and u v) f.negs (lt_of_le_of_lt (and_le_l u v) c.requires.first);
      inside = inside_both 48 f.phase f.odd f.neg f.coupling t s u v x y c.requires.first c.requires.second f.inside;
      square = square-both 48 f.phase f.odd f.neg f.coupling t s u v x y f.square;
      own = own-both 48 f.phase f.odd f.neg f.coupling t s u v x y f.own;
    }

pub returns : goal.returns
unfolding value_at
returns c =
    let f = c.args.self.now in
    λ p. value-product 48 f.phase f.odd f.neg f.coupling c.xor_rows.new.table c.xor_rows-2.new.table
    c.args.u c.args.v
    c.xor_rows.ensures c.xor_rows-2.ensures p c.requires.first c.requires.second
