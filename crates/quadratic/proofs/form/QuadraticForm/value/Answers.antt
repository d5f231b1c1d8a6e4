use Rattle.std.proofs.Common.{◌+◌, ◌%◌, sym, ap, ◌∙◌, ap₂, mod-eq_of_lt, arith}
use lib.Bits.{bit_xor, xor_zero_l, xor_zero_r}
use Rattle.quadratic.specs.Value.{value_at}
use Rattle.quadratic.proofs.Lowest.{still}
use Rattle.quadratic.proofs.Values.{value-low, value-lt, value-zero}
use Rattle.quadratic.proofs.form.QuadraticForm.value.Goals as goal

pub loop-a-init : goal.loop-a-init
loop-a-init c =
    let f = c.args.self.now in
    let left = c.into_iter-a-iterator.result.left in
    record {
      value = sym (value-zero f ∙ mod-eq_of_lt f.phased);
      seen = xor_zero_l left ∙ ap (λ x. x.left) c.into_iter-a-iterator.ensures.into_iter_gives ∙ c.set_bits-a-items.ensures;
    }

pub overflow_add-sum : goal.overflow_add-sum
overflow_add-sum c = let l = value-lt c.args.self.now c.loop-a.seen in omega (arith, l, c.loop-a.invariant.value)

pub loop-a-preserved : goal.loop-a-preserved
loop-a-preserved c =
    let f = c.args.self.now in
    let i = c.loop-a.invariant in
    record {
      value = ap (λ v. (v + c.slope.result) % 8) i.value ∙ sym (ap (value_at f) c.turned-seen.ensures ∙ c.slope.ensures.value);
      seen = ap₂ bit_xor c.turned-seen.ensures c.in-Some.ensures.steps.rest
          ∙ still c.loop-a.seen c.loop-a.a-iterator.left c.in-Some.a ∙ i.seen;
    }

pub returns : goal.returns
returns c =
    let f = c.args.self.now in
    let i = c.loop-a.invariant in
    let all = sym (xor_zero_r c.loop-a.seen) ∙ ap (bit_xor c.loop-a.seen) (sym c.in-None.ensures.steps) ∙ i.seen in
    let e = i.value ∙ ap (value_at f) all ∙ value-low f c.args.c in
    record { value = e; small = rw e (value-lt f c.args.c) }
