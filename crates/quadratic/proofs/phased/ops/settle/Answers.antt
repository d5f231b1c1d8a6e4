use Rattle.std.proofs.Common.{eqb, ◌*◌, ◌^◌, sym, ap, ◌∙◌, subst, zero-mul}
use lib.Bits.{bit_and, bit_xor, and_comm, xor_zero_r}
use Rattle.quadratic.specs.Bits.{bit, dot, flag, Lowest}
use Rattle.quadratic.specs.Echelon.{row}
use Rattle.quadratic.specs.Value.{value_at}
use Rattle.quadratic.proofs.Laws.{off-bit, tested, flag-lt}
use Rattle.quadratic.proofs.Settle.{column-inside, column-off, own-bit, unseen, still-apart}
use Rattle.quadratic.proofs.Sight.{Seen}
use Rattle.quadratic.proofs.phased.ops.settle.Goals as goal

pub fix-requires : goal.fix-requires
fix-requires c =
    let s = c.args.space.now in
    let i = c.in-Some.i in
    let low : Lowest c.loop-i.i-iterator.left i c.next.new.self.left = c.in-Some.ensures.steps in
    let off = off-bit s.pivots c.loop-i.i-iterator.left i (and_comm s.pivots c.loop-i.i-iterator.left ∙ c.loop-i.invariant.apart) low.on in
    record {
      place = low.place;
      low = c.columns-columns.ensures.below i;
      free = column-off s i (row c.columns-columns.result i) (c.columns-columns.ensures.bits i) off;
    }

pub loop-i-preserved : goal.loop-i-preserved
loop-i-preserved c =
    let s = c.args.space.now in
    let i = c.in-Some.i in
    let left = c.loop-i.i-iterator.left in
    let col = row c.columns-columns.result i in
    let bits = c.columns-columns.ensures.bits i in
    let low : Lowest left i c.next.new.self.left = c.in-Some.ensures.steps in
    let inv = c.loop-i.invariant in
    let v = value_at c.loop-i.form in
    let v' = value_at c.fix.new.self in
    let b = flag (eqb c.bit.result 1) in
    let β = tested c.bit.result (bit c.shift.result i) c.bit.ensures.value c.bit.ensures.small in
    record {
      apart = ap (λ x. bit_and x s.pivots) low.rest ∙ still-apart s.pivots left i inv.apart low.on;
      kept = λ y m.
          c.fix.ensures y ∙ ap (λ b. v (bit_xor y (bit_xor (bit y i) (bit_xor (dot col y) b) * 2 ^ i)))
          (β ∙ ap (λ x. bit x i) c.shift.ensures)
          ∙ ap (λ x. v (bit_xor y (x * 2 ^ i))) (own-bit s i col bits y m) ∙ ap v (ap (bit_xor y) (zero-mul (2 ^ i)) ∙ xor_zero_r y)
          ∙ inv.kept y m;
      seen = λ h. subst (λ x. Seen v' (bit_xor s.pivots x)) (sym low.rest)
          (unseen v v' s.pivots left i col b c.fix.ensures (flag-lt (eqb c.bit.result 1)) inv.apart low.on
          (column-inside s i col bits) (inv.seen h));
    }
