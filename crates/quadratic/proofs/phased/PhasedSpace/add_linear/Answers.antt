use Rattle.std.proofs.Common.{◌≡◌, ◌+◌, ◌*◌, ◌/◌, ◌%◌, refl, ap, ◌∙◌, ap₂, arith}
use Rattle.quadratic.specs.Bits.{bit}
use Rattle.quadratic.specs.Value.{value_at}
use Rattle.quadratic.proofs.Sight.{seen-plus, bit-seen, one-dot, one_below}
use Rattle.quadratic.proofs.phased.PhasedSpace.add_linear.Goals as goal

pub add_parity-requires : goal.add_parity-requires
add_parity-requires c =
    let on = c.if-not-is_pivot.ensures.yes tt in one_below c.turned.result c.args.p c.turned.ensures on.0

pub invariant_of-self : goal.invariant_of-self
invariant_of-self c =
    let s = c.args.self.now in
    let p = c.args.p in
    let times = c.args.times in
    let half : 2 * (times / 2) ≡ times = omega arith in
    let on = c.if-not-is_pivot.ensures.yes tt in record {
      idle = seen-plus (value_at s.form) (value_at c.add_parity.new.self) (λ y. times * bit y p) s.space.pivots s.idle
          (λ y. ap (λ b. times * b) (bit-seen s.space.pivots p on.1 y))
          (λ y. c.add_parity.ensures y
          ∙ ap₂ (λ t b. (value_at s.form y + t * b) % 8) half (one-dot c.turned.result p y c.turned.ensures));
    }

pub returns : goal.returns
returns c =
    let s = c.args.self.now in
    let half : 2 * (c.args.times / 2) ≡ c.args.times = omega arith in
    let on = c.if-not-is_pivot.ensures.yes tt in (
      on.1,
      c.if-times-gt6.false,
      omega arith,
      refl,
      λ y. c.add_parity.ensures y ∙ ap₂ (λ t b. (value_at s.form y + t * b) % 8) half
          (one-dot c.turned.result c.args.p y c.turned.ensures),
    )
