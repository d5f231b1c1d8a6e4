-- Two forms of one dimension with the same values are the same.
use Rattle.std.proofs.Common.{◌≡◌, ℕ, ◌+◌, ◌*◌, ◌%◌, ◌^◌, ◌<◌, ◌≤◌, get_or, sym, ap, ◌∙◌, mod-eq_of_lt, arith}
use native.Mathlib.Decide.{dec_lt}
use Rattle.quadratic.specs.Bits.{bit}
use Rattle.quadratic.specs.Quadratic.{coef, link}
use Rattle.quadratic.specs.Value.{value_at}
use Rattle.quadratic.specs.declared.form.QuadraticForm.{QuadraticForm}
use Rattle.quadratic.proofs.Bitlaws.{digit₂, bit-lt, bit_past, same_bits}
use Rattle.quadratic.proofs.Algebra.{Same, unique}

pub record Equal (f g : QuadraticForm) : Type 0 where
  pub phases : f.phase ≡ g.phase
  pub odds : f.odd ≡ g.odd
  pub negs : f.neg ≡ g.neg
  pub rows : (a : ℕ) → get_or f.coupling a 0 ≡ get_or g.coupling a 0

split : (o n o' n' : ℕ) → o < 2 → n < 2 → o' < 2 → n' < 2 → (2 * o + 4 * n) % 8 ≡ (2 * o' + 4 * n') % 8 → (o ≡ o') × (n ≡ n')
split o n o' n' a b c d h =
    let e : 2 * o + 4 * n ≡ 2 * o' + 4 * n' = sym (mod-eq_of_lt {n = 2 * o + 4 * n} {m = 8} (omega arith)) ∙ h
    ∙ mod-eq_of_lt {n = 2 * o' + 4 * n'} {m = 8} (omega arith) in
    digit₂ (λ o o'. 2 * o + 4 * n ≡ 2 * o' + 4 * n' → (o ≡ o') × (n ≡ n')) (λ e. omega arith) (λ e. absurd (omega arith))
    (λ e. absurd (omega arith)) (λ e. omega arith) o o' a c e

-- a row past the variables is empty
past_row : (f : QuadraticForm) (a b : ℕ) → 48 ≤ a → link f.coupling a b ≡ 0
past_row f a b l = f.square a b ∙ bit_past 48 (get_or f.coupling b 0) a (f.inside b) l

module _ (f g : QuadraticForm) (h : (c : ℕ) → c < 2 ^ 48 → value_at f c ≡ value_at g c) where
  same : Same f.phase g.phase (coef f.odd f.neg) (coef g.odd g.neg) (link f.coupling) (link g.coupling) 48
  unfolding value_at
  same =
      unique f.phase g.phase (coef f.odd f.neg) (coef g.odd g.neg) (link f.coupling) (link g.coupling) 48
      h

  parts : (k : ℕ) → k < 48 → (bit f.odd k ≡ bit g.odd k) × (bit f.neg k ≡ bit g.neg k)
  parts k l = split (bit f.odd k) (bit f.neg k) (bit g.odd k) (bit g.neg k) (bit-lt f.odd k)
      (bit-lt f.neg k) (bit-lt g.odd k) (bit-lt g.neg k) (same.linear k l)

  odd-same : f.odd ≡ g.odd
  odd-same = same_bits 48 f.odd g.odd f.odds g.odds (λ k l. (parts k l).0)

  low-link : (a b : ℕ) → a < 48 → b < a → link f.coupling a b ≡ link g.coupling a b
  low-link a b l i = omega (arith, same.pairs a b l i, bit-lt (get_or f.coupling a 0) b, bit-lt (get_or g.coupling a 0) b)

  link-same : (a b : ℕ) → b < 48 → link f.coupling a b ≡ link g.coupling a b
  link-same a b l =
      elim (dec_lt b a) [
        | yes i ↦ elim (dec_lt a 48) [ yes j ↦ low-link a b j i | no j ↦ past_row f a b (omega arith) ∙ sym (past_row g a b (omega arith)) ]
        | no i ↦ elim (dec_lt a b) [
          | yes j ↦ f.square a b ∙ low-link b a l j ∙ g.square b a
          | no j ↦
              let q : a ≡ b = omega arith in
              ap (λ x. link f.coupling a x) (sym q) ∙ f.own a ∙ ap (λ o. bit o a) odd-same ∙ sym (g.own a)
              ∙ ap (λ x. link g.coupling a x) q
        ]
      ]

  pub same-form : Equal f g
  same-form = record {
    phases = omega (arith, same.phase, f.phased, g.phased);
    odds = odd-same;
    negs = same_bits 48 f.neg g.neg f.negs g.negs (λ k l. (parts k l).1);
    rows = λ a. same_bits 48 (get_or f.coupling a 0) (get_or g.coupling a 0) (f.inside a) (g.inside a) (λ b l. link-same a b l);
  }
