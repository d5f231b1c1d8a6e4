use Rattle.std.proofs.Common.{◌≡◌, ℕ, ◌*◌, ◌^◌, sym, refl, ap, ◌∙◌, subst, lt_of_lt_of_le, mod-eq_of_lt, pow_mono}
use lib.Bits.{bit_xor, xor_zero_l}
use Rattle.quadratic.specs.Bits.{bit}
use Rattle.quadratic.specs.Echelon.{row}
use Rattle.quadratic.proofs.Bitlaws.{bit-lt, bit-zero}
use Rattle.quadratic.proofs.Gather.{Gathered, gather_none, gather-more, gather-all}
use Rattle.quadratic.proofs.Lists.{getD-zeros}
use Rattle.quadratic.proofs.affine.AffineSpace.columns.Goals as goal

pub loop-p-init : goal.loop-p-init
loop-p-init c =
    let s = c.args.self.now in
    let e = ap (λ x. x.left) c.into_iter-p-iterator.ensures.into_iter_gives ∙ c.set_bits-p-items.ensures ∙ mod-eq_of_lt s.within in
    record {
      long = refl;
      columns = λ i.
          let f = λ (k : ℕ). bit (row s.rows k) i in
          let left = c.into_iter-p-iterator.result.left in
          subst (Gathered f left) (sym (getD-zeros 48 i))
          (gather_none f s.pivots left e (λ k z. ap (λ x. bit x i) (s.idle k z) ∙ bit-zero i));
    }

pub xor_rows-requires : goal.xor_rows-requires
xor_rows-requires c = lt_of_lt_of_le (c.args.self.now.low c.in-Some.p) (pow_mono c.in-Some.ensures.steps.place)

pub loop-p-preserved : goal.loop-p-preserved
loop-p-preserved c =
    let R = row c.args.self.now.rows in
    let p = c.in-Some.p in
    let t = c.loop-p.table in
    let t' = c.xor_rows.new.table in
    record {
      long = c.xor_rows.array_long;
      columns = λ i.
          let f = λ (k : ℕ). bit (R k) i in
          let e : row t' i ≡ bit_xor (row t i) (f p * 2 ^ p) = c.xor_rows.ensures i
          ∙ ap (λ m. bit_xor (row t i) (f p * m)) (c.turned.ensures ∙ xor_zero_l (2 ^ p)) in
          subst (Gathered f c.next.new.self.left) (sym e)
          (gather-more f c.loop-p.p-iterator.left (row t i) p c.next.new.self.left c.in-Some.ensures.steps (bit-lt (R p) i)
          (c.loop-p.invariant.columns i));
    }

pub returns : goal.returns
returns c = record {
  below = λ i. (c.loop-p.invariant.columns i).below;
  bits = λ i. gather-all (λ k. bit (row c.args.self.now.rows k) i) c.loop-p.p-iterator.left (row c.loop-p.table i)
      c.in-None.ensures.steps (c.loop-p.invariant.columns i);
}
