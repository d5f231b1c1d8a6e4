use Rattle.std.proofs.Common.{◌+◌, ◌*◌, ◌%◌, refl, ap, ◌∙◌}
use lib.Bits.{bit_xor, xor_assoc}
use Rattle.quadratic.specs.Bits.{dot, flag}
use Rattle.quadratic.specs.Value.{value_at}
use Rattle.quadratic.proofs.Laws.{differ_from}
use Rattle.quadratic.proofs.Sight.{seen-plus}
use Rattle.quadratic.proofs.Turning.{turned_by, by_rows, rows_seen}
use Rattle.quadratic.proofs.phased.PhasedSpace.add_affine.Goals as goal

pub invariant_of-self : goal.invariant_of-self
invariant_of-self c =
    let s = c.args.self.now in
    let l = c.responses-l.result in
    let q = c.args.quarters in
    let here = bit_xor (flag c.args.base) c.dot.result in
    record {
      idle = seen-plus (value_at s.form) (value_at c.add_affine.new.self) (λ y. 2 * q * bit_xor here (dot l y)) s.space.pivots s.idle
          (λ y. ap (λ d. 2 * q * bit_xor here d) (rows_seen s.space c.args.w l c.responses-l.ensures.bits y))
          (λ y. c.add_affine.ensures y ∙ ap (λ b. (value_at s.form y + 2 * q * bit_xor b (dot l y)) % 8)
          (differ_from c.args.base c.dot.result c.dot.ensures.small));
    }

pub returns : goal.returns
returns c =
    let s = c.args.self.now in
    let v = value_at s.form in
    let w = c.args.w in
    let l = c.responses-l.result in
    let q = c.args.quarters in
    let base = flag c.args.base in
    turned_by s _ (λ y. 2 * q * bit_xor base (dot w y)) refl (λ y m. c.add_affine.ensures y
    ∙ ap (λ x. (v y + 2 * q * x) % 8) (ap (λ b. bit_xor b (dot l y)) (differ_from c.args.base c.dot.result c.dot.ensures.small)
    ∙ xor_assoc base c.dot.result (dot l y)
    ∙ ap (bit_xor base) (by_rows s.space w l c.responses-l.ensures.bits c.dot.result (c.dot.ensures.value ∙ ap (dot w) c.shift.ensures) y m)))
