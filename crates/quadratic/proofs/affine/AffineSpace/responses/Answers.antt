use Rattle.std.proofs.Common.{ℕ, ◌*◌, ◌^◌, ◌<◌, sym, ap, ◌∙◌, subst, mod-eq_of_lt}
use lib.Bits.{bit_xor}
use Rattle.quadratic.specs.Bits.{dot}
use Rattle.quadratic.specs.Echelon.{row}
use Rattle.quadratic.proofs.Gather.{Gathered, gather_none, gather-more, gather-all, placed}
use Rattle.quadratic.proofs.Laws.{dot-none}
use Rattle.quadratic.proofs.affine.AffineSpace.responses.Goals as goal

pub loop-p-init : goal.loop-p-init
loop-p-init c =
    let s = c.args.self.now in
    let f = λ (k : ℕ). dot c.args.w (row s.rows k) in
    let e = ap (λ x. x.left) c.into_iter-p-iterator.ensures.into_iter_gives ∙ c.set_bits-p-items.ensures ∙ mod-eq_of_lt s.within in
    gather_none f s.pivots c.into_iter-p-iterator.result.left e (λ k z. ap (dot c.args.w) (s.idle k z) ∙ dot-none c.args.w)

pub loop-p-preserved : goal.loop-p-preserved
loop-p-preserved c =
    let f = λ (k : ℕ). dot c.args.w (row c.args.self.now.rows k) in
    let p = c.in-Some.p in
    let low = c.in-Some.ensures.steps in
    let d = c.dot.ensures in
    let put = placed c.dot.result p d.small low.place ∙ ap (λ b. b * 2 ^ p) d.value in
    subst (λ y. Gathered f c.next.new.self.left (bit_xor c.loop-p.l y)) (sym put)
    (gather-more f c.loop-p.p-iterator.left c.loop-p.l p c.next.new.self.left low (subst (λ b. b < 2) d.value d.small) c.loop-p.invariant)

pub returns : goal.returns
returns c = record {
  below = c.loop-p.invariant.below;
  bits = gather-all (λ k. dot c.args.w (row c.args.self.now.rows k)) c.loop-p.p-iterator.left c.loop-p.l
      c.in-None.ensures.steps c.loop-p.invariant;
}
