use Rattle.std.proofs.Common.{◌≡◌, ℕ, ◌+◌, ◌*◌, ◌/◌, ◌%◌, ◌^◌, ◌<◌, sym, ap, ◌∙◌, add-zero, zero-add, add_assoc, arith}
use Rattle.std.proofs.lemmas.Nat.{shl_whole}
use Rattle.quadratic.specs.Bits.{Highest}
use Rattle.quadratic.specs.Numbering.{spread}
use Rattle.quadratic.proofs.Numbering.{highest-spread, spread-low, spread-none}
use Rattle.quadratic.proofs.Over.{spread-lt}
use Rattle.quadratic.proofs.bits.deposit.Goals as goal

-- the bit in its place
shifted : (b p : ℕ) → b < 2 → p < 48 → (b * 2 ^ p) % 2 ^ 64 ≡ b * 2 ^ p
shifted b p s l = shl_whole b 1 p 64 s (omega arith)

pub loop-p-init : goal.loop-p-init
loop-p-init c =
    let e : c.into_iter-p-iterator.result.iter.left ≡ c.args.mask % 2 ^ 48 = ap (λ x. x.iter.left) c.into_iter-p-iterator.ensures.into_iter_gives
    ∙ ap (λ x. x.left) c.rev-p-items.ensures.source ∙ c.set_bits.ensures in
    sym (zero-add _ ∙ ap (λ m. spread 48 m c.args.c) e ∙ spread-low c.args.mask c.args.c)

pub overflow_add-sum : goal.overflow_add-sum
overflow_add-sum c =
    let top : Highest c.loop-p.p-iterator.iter.left c.in-Some.p c.next.new.self.iter.left = c.in-Some.ensures.steps in
    let e = c.loop-p.invariant ∙ ap (◌+◌ c.loop-p.sum) (highest-spread top c.loop-p.left) in
    let s = shifted (c.loop-p.left % 2) c.in-Some.p (omega arith) top.place in
    let l = spread-lt 48 c.args.mask c.args.c in
    omega (arith, e, s, l)

pub loop-p-preserved : goal.loop-p-preserved
loop-p-preserved c =
    let top : Highest c.loop-p.p-iterator.iter.left c.in-Some.p c.next.new.self.iter.left = c.in-Some.ensures.steps in
    let s = shifted (c.loop-p.left % 2) c.in-Some.p (omega arith) top.place in
    c.loop-p.invariant ∙ ap (◌+◌ c.loop-p.sum) (highest-spread top c.loop-p.left) ∙ sym (add_assoc c.loop-p.sum _ _)
    ∙ ap (λ x. c.loop-p.sum + x + spread 48 c.next.new.self.iter.left (c.loop-p.left / 2)) (sym s)

pub returns : goal.returns
returns c = sym (c.loop-p.invariant ∙ ap (◌+◌ c.loop-p.sum) (spread-none _ c.loop-p.left c.in-None.ensures.steps) ∙ add-zero c.loop-p.sum)
