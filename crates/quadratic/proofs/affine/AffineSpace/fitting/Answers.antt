use Rattle.std.proofs.Common.{◌≡◌, ℕ, suc, ◌+◌, ◌%◌, ◌^◌, sym, ap, ◌∙◌, add-one, arith}
use native.Mathlib.Decide.{dec_lt}
use lib.Bits.{bit_xor, xor_zero_l}
use Rattle.quadratic.specs.Bits.{bit}
use Rattle.quadratic.specs.Echelon.{row}
use Rattle.quadratic.proofs.Append.{one-top, low-none, above}
use Rattle.quadratic.proofs.Bitlaws.{bit-zero, not-both}
use Rattle.quadratic.proofs.Dots.{by_bits}
use Rattle.quadratic.proofs.affine.AffineSpace.fitting.Goals as goal
use Rattle.quadratic.proofs.affine.AffineSpace.fitting.Goals.{then-p-ge48-via-then-p-ge48, then-p-ge48-via-else-p-ge48+then-self-turned-ne0}
use Rattle.quadratic.proofs.affine.AffineSpace.fitting.Goals.{then-bit-eq1-via-then-bit-eq1, then-bit-eq1-via-else-bit-eq1+then-column-ne0}

pub returns-then-added-eq0 : goal.returns-then-added-eq0
returns-then-added-eq0 c = λ p f. not-both (bit c.args.added p) (ap (λ x. bit x p) c.if-added-eq0.true ∙ bit-zero p) f.on

-- the test's number is 2^(p + 1)
pow-of : (t p : ℕ) → t ≡ bit_xor 0 (2 ^ (p + 1)) → t ≡ 2 ^ suc p
pow-of t p e = e ∙ xor_zero_l (2 ^ (p + 1)) ∙ ap (λ n. 2 ^ n) (add-one p)

-- the row's pivot would be its highest bit, which is past the end or above another pivot
pub returns-then-p-ge48 : goal.returns-then-p-ge48
returns-then-p-ge48 c = λ q f.
    let s = c.args.self.now in
    let p = c.highest-p.result in
    let h = c.highest-p.ensures in
    let e = one-top c.args.added p q h.on h.most f.on f.most in
    elim c.then-p-ge48.branch [
      | then-p-ge48-via-then-p-ge48 w ↦ let l = f.place in omega (arith, e, w.if-p-ge48.true, l)
      | then-p-ge48-via-else-p-ge48+then-self-turned-ne0 w ↦
          w.if-self-turned-ne0.true (ap (λ t. s.pivots % t) (pow-of w.turned.result p w.turned.ensures)
          ∙ ap (λ n. s.pivots % 2 ^ suc n) (sym e) ∙ above s c.args.added q f)
    ]

-- or the shift or another row has that bit
pub returns-then-bit-eq1 : goal.returns-then-bit-eq1
returns-then-bit-eq1 c = λ q f.
    let s = c.args.self.now in
    let h = c.highest-p.ensures in
    let e = one-top c.args.added c.highest-p.result q h.on h.most f.on f.most in
    elim c.then-bit-eq1.branch [
      | then-bit-eq1-via-then-bit-eq1 w ↦
          not-both (bit s.shift q) f.clear (ap (bit s.shift) e ∙ sym c.bit.ensures.value ∙ w.if-bit-eq1.true)
      | then-bit-eq1-via-else-bit-eq1+then-column-ne0 w ↦
          w.if-column-ne0.true
          (by_bits w.column.result 0
          (λ i. w.column.ensures.bits i ∙ ap (bit (row s.rows i)) (sym e) ∙ f.free i ∙ sym (bit-zero i)))
    ]

pub returns : goal.returns
returns c =
    let s = c.args.self.now in
    let p = c.highest-p.result in
    let R = row s.rows in
    let low : s.pivots % 2 ^ suc p ≡ 0 = ap (λ t. s.pivots % t) (sym (pow-of c.turned.result p c.turned.ensures))
    ∙ c.if-self-turned-ne0.false in
    record {
      place = omega (arith, c.if-p-ge48.false);
      on = c.highest-p.ensures.on;
      most = c.highest-p.ensures.most;
      below = λ q o. elim
          (dec_lt p q) [ yes g ↦ g | no g ↦ absurd (not-both (bit s.pivots q) (low-none (suc p) s.pivots q low (omega arith)) o) ];
      free = λ q. sym (c.column.ensures.bits q) ∙ ap (λ x. bit x q) c.if-column-ne0.false ∙ bit-zero q;
      clear = omega (arith, c.bit.ensures.value, c.bit.ensures.small, c.if-bit-eq1.false);
    }
