use Rattle.std.proofs.Common.{◌+◌, ◌*◌, ◌%◌, refl, ◌∙◌, ap₂}
use Rattle.quadratic.specs.Bits.{bit}
use Rattle.quadratic.specs.Value.{value_at}
use Rattle.quadratic.proofs.Sight.{seen-plus, bit-seen, one-dot, one_below}
use Rattle.quadratic.proofs.phased.PhasedSpace.couple.Goals as goal

pub add_product-requires : goal.add_product-requires
add_product-requires c = record {
  first = one_below c.turned.result c.args.p c.turned.ensures (c.if-not-is_pivot.ensures.yes tt).0;
  second = one_below c.turned-2.result c.args.q c.turned-2.ensures (c.if-not-is_pivot-2.ensures.yes tt).0;
}

pub invariant_of-self : goal.invariant_of-self
invariant_of-self c =
    let s = c.args.self.now in
    let P = s.space.pivots in
    let p = c.args.p in
    let q = c.args.q in record {
      idle = seen-plus (value_at s.form) (value_at c.add_product.new.self) (λ y. 4 * (bit y p * bit y q)) P s.idle
          (λ y. ap₂ (λ a b. 4 * (a * b)) (bit-seen P p (c.if-not-is_pivot.ensures.yes tt).1 y)
          (bit-seen P q (c.if-not-is_pivot-2.ensures.yes tt).1 y))
          (λ y. c.add_product.ensures y
          ∙ ap₂ (λ a b. (value_at s.form y + 4 * (a * b)) % 8) (one-dot c.turned.result p y c.turned.ensures)
          (one-dot c.turned-2.result q y c.turned-2.ensures));
    }

pub returns : goal.returns
returns c =
    let s = c.args.self.now in
    let p = c.args.p in
    let q = c.args.q in (
      (c.if-not-is_pivot.ensures.yes tt).1,
      (c.if-not-is_pivot-2.ensures.yes tt).1,
      c.if-p-q.false,
      refl,
      λ y. c.add_product.ensures y
          ∙ ap₂ (λ a b. (value_at s.form y + 4 * (a * b)) % 8) (one-dot c.turned.result p y c.turned.ensures)
          (one-dot c.turned-2.result q y c.turned-2.ensures),
    )
