use Rattle.std.proofs.Common.{◌+◌, ◌*◌, ◌%◌, refl, ap, ◌∙◌, ap₂}
use lib.Bits.{bit_xor}
use Rattle.quadratic.specs.Bits.{dot}
use Rattle.quadratic.specs.Value.{value_at}
use Rattle.quadratic.proofs.Laws.{tested}
use Rattle.quadratic.proofs.Sight.{seen-plus}
use Rattle.quadratic.proofs.Turning.{turned_by, by_rows, rows_seen, product-steps}
use Rattle.quadratic.proofs.phased.PhasedSpace.add_product.Goals as goal

pub invariant_of-self : goal.invariant_of-self
invariant_of-self c =
    let s = c.args.self.now in
    let l = c.responses-l.result in
    let m = c.responses-m.result in
    let a = c.dot-a.result in
    let b = c.dot-b.result in record {
      idle = seen-plus (value_at s.form) (value_at c.add_parity.new.self) (λ y. 4 * (bit_xor a (dot l y) * bit_xor b (dot m y)))
          s.space.pivots s.idle
          (λ y. ap₂ (λ x z. 4 * (bit_xor a x * bit_xor b z)) (rows_seen s.space c.args.u l c.responses-l.ensures.bits y)
          (rows_seen s.space c.args.v m c.responses-m.ensures.bits y))
          (product-steps (value_at s.form) (value_at c.add_product.new.self) (value_at c.add_affine.new.self) _ a b l m
          c.dot-a.ensures.small c.dot-b.ensures.small c.add_product.ensures (λ x. c.add_affine.ensures x ∙ ap (λ f. (value_at c.add_product.new.self x + 2 * (2 * a) * bit_xor f (dot m x)) % 8) (tested b b refl c.dot-b.ensures.small)) c.add_parity.ensures);
    }

pub returns : goal.returns
returns c =
    let s = c.args.self.now in
    let u = c.args.u in
    let v = c.args.v in
    let l = c.responses-l.result in
    let m = c.responses-m.result in
    let a = c.dot-a.result in
    let b = c.dot-b.result in
    turned_by s _ (λ y. 4 * (dot u y * dot v y)) refl (λ y i.
    product-steps (value_at s.form) (value_at c.add_product.new.self) (value_at c.add_affine.new.self)
    (value_at c.add_parity.new.self) a b l m
    c.dot-a.ensures.small c.dot-b.ensures.small c.add_product.ensures (λ x. c.add_affine.ensures x ∙ ap (λ f. (value_at c.add_product.new.self x + 2 * (2 * a) * bit_xor f (dot m x)) % 8) (tested b b refl c.dot-b.ensures.small)) c.add_parity.ensures y
    ∙ ap₂ (λ x z. (value_at s.form y + 4 * (x * z)) % 8)
    (by_rows s.space u l c.responses-l.ensures.bits a (c.dot-a.ensures.value ∙ ap (dot u) c.shift.ensures) y i)
    (by_rows s.space v m c.responses-m.ensures.bits b (c.dot-b.ensures.value ∙ ap (dot v) c.shift-2.ensures) y i))
