use Rattle.std.proofs.Common.{◌≡◌, ℕ, ◌+◌, ◌-◌, ◌/◌, ◌%◌, ◌^◌, ◌<◌, List, sym, refl, ap, ◌∙◌, arith, shr-shr}
use native.Mathlib.Nat.{div-eq_of_lt, sub-zero}
use Rattle.archive.specs.Bits.{bit_at, bits_from}
use Rattle.archive.proofs.Laws.{bits_none, bits-more, bits-same}
use Rattle.archive.proofs.bits.put_bits.Goals as goal

one_more : (b d : List ℕ) (p j w v : ℕ) → j < w → bits_from b p j ≡ v / 2 ^ (w - j) → bit_at d (p + j) ≡ v / 2 ^ (w - 1 - j) % 2
    → ((q : ℕ) → (q ≡ p + j → ⊥) → bit_at d q ≡ bit_at b q) → bits_from d p (j + 1) ≡ v / 2 ^ (w - (j + 1))
one_more b d p j w v h inv here others =
    let e : w - 1 - j ≡ w - (j + 1) = omega arith in
    let f : w - j ≡ w - (j + 1) + 1 = omega arith in
    let s = shr-shr v (w - (j + 1)) 1 in
    let old = bits-same d b p j (λ k l. others (p + k) (omega arith)) in
    let up : bits_from b p j ≡ v / 2 ^ (w - (j + 1)) / 2 = inv ∙ ap (λ t. v / 2 ^ t) f ∙ sym s in
    let at : bit_at d (p + j) ≡ v / 2 ^ (w - (j + 1)) % 2 = here ∙ ap (λ t. v / 2 ^ t % 2) e in
    let m = bits-more d p j in
    omega arith

pub loop-j-init : goal.loop-j-init
loop-j-init c = (
  bits_none c.args.bytes.now c.args.at
      ∙ sym (div-eq_of_lt {n = c.args.value} {m = 2 ^ (c.args.width - 0)} (rw sub-zero c.requires.fits)),
  (λ q l. refl, λ q l. refl),
)

pub loop-j-preserved : goal.loop-j-preserved
loop-j-preserved c =
    let same = c.put_bit.ensures.others in
    let inv = c.loop-j.invariant in (
      one_more _ _ _ _ _ _ c.loop-j-test.true inv.0 c.put_bit.ensures.there same,
      (λ q l. same q (omega arith) ∙ inv.1.0 q l, λ q l. same q (omega arith) ∙ inv.1.1 q (omega arith)),
    )
