-- What is left of a sum of powers of ω, after each kind of step.
use Rattle.std.proofs.Common.{◌≡◌, ℕ, ◌+◌, ◌-◌, ◌*◌, ◌/◌, ◌%◌, ◌^◌, ◌<◌, ◌≤◌, get_or, sym, refl, ap, ◌∙◌, ap₂, mod-eq_of_lt, arith}
use lib.Bits.{bit_and, bit_xor, xor_zero_l}
use lib.Count.{ones}
use Rattle.cyclotomic.specs.Adjoin.{omegas}
use Rattle.cyclotomic.specs.CommFacts
use Rattle.cyclotomic.specs.Ring.{Ops, CommLaws, wpow, rpow, exact}
use Rattle.cyclotomic.specs.Sum.{sum_to}
use Rattle.cyclotomic.proofs.Ints.{omega-laws}
use Rattle.cyclotomic.proofs.Sums
use Rattle.quadratic.specs.Bits.{bit, dot}
use Rattle.quadratic.specs.Quadratic.{coef, link}
use Rattle.quadratic.specs.Numbering.{spread}
use Rattle.quadratic.specs.Sums.{over, form_power, left_of, sum_over, Reduced, Stepped}
use Rattle.quadratic.specs.Value.{value_at}
use Rattle.quadratic.specs.declared.form.QuadraticForm.{QuadraticForm}
use Rattle.quadratic.specs.declared.phased.PhasedSpace.{PhasedSpace}
use Rattle.quadratic.proofs.Bitlaws.{digit₂, bit-lt, not-both, ones_low}
use Rattle.quadratic.proofs.Clear.{slope-at}
use Rattle.quadratic.proofs.Lowest.{set_below, undropped}
use Rattle.quadratic.proofs.Over.{over_none, over-numbered}
use Rattle.quadratic.proofs.Values.{value-zero}
use Rattle.quadratic.proofs.Summing.{odd_base, odd-out, lone-out, lone-zero, pair-out, root-out, two_out}

module _ (f : QuadraticForm) (live a : ℕ) (inside : live < 2 ^ 48) (on : bit live a ≡ 1) where
  place : a < 48
  place = set_below 48 live a inside on

  -- the linear coefficient by its bits
  own : (D o : ℕ) → bit f.odd a ≡ o → 2 * o + 4 * bit f.neg a ≡ D → coef f.odd f.neg a ≡ D
  own D o e d = ap (λ b. 2 * b + 4 * bit f.neg a) e ∙ d

  pub slope : (D : ℕ) → coef f.odd f.neg a ≡ D → (c : ℕ) → value_at f (bit_xor c (2 ^ a))
      ≡ (value_at f c + (D + 4 * dot (get_or f.coupling a 0) c)) % 8
  slope D e c = slope-at f a c place ∙ ap (λ d. (value_at f c + (d + 4 * dot (get_or f.coupling a 0) c)) % 8) e

  -- a variable whose coefficient is 2 or 6
  pub odd-left : (f₁ f' : QuadraticForm) (d p r power : ℕ) → bit f.odd a ≡ 1 → d ≡ coef f.odd f.neg a
      → p ≡ get_or f.coupling a 0 → r ≡ bit_xor live (2 ^ a)
      → ((c : ℕ) → value_at f₁ c ≡ (value_at f c + (1 + 6 * (d / 4))) % 8)
      → ((c : ℕ) → value_at f' c ≡ (value_at f₁ c + 2 * (4 - d / 2) * dot (bit_and p r) c) % 8)
      → left_of omegas f' r (power + 1) ≡ left_of omegas f live power
  odd-left f₁ f' d p r power odd de pe re one law =
      let n = bit f.neg a in
      let ln = bit-lt f.neg a in
      let e : d ≡ 2 + 4 * n = de ∙ own (2 + 4 * n) 1 odd refl in
      let k : 1 + 6 * (d / 4) ≡ 1 + 6 * n = omega (arith, e, ln) in
      let t : 2 * (4 - d / 2) ≡ 6 - 4 * n = omega (arith, e, ln) in
      ap (λ m. left_of omegas f' m (power + 1)) re
      ∙ root-out omega-laws power _ _
      (odd-out omega-laws (value_at f) live a (get_or f.coupling a 0) (2 + 4 * n) on place
      (slope (2 + 4 * n) (own (2 + 4 * n) 1 odd refl)) (value_at f₁) (value_at f') (1 + 6 * n) (6 - 4 * n)
      (λ c. one c ∙ ap (λ x. (value_at f c + x) % 8) k)
      (λ c. law c ∙ ap₂ (λ x m. (value_at f₁ c + x * dot m c) % 8) t (ap₂ bit_and pe re)) (λ q x l. odd_base omega-laws n q x ln l))

  module _ (alone : bit_and (get_or f.coupling a 0) live ≡ 0) (even : bit f.odd a ≡ 0) where
    -- a variable coupled with no live one, whose coefficient is 0
    pub lone-left : (r power : ℕ) → r ≡ bit_xor live (2 ^ a) → coef f.odd f.neg a ≡ 0 → left_of omegas f r (power + 2)
        ≡ left_of omegas f live power
    lone-left r power re z =
        ap (λ m. left_of omegas f m (power + 2)) re
        ∙ two_out omega-laws power _ _ (lone-out omega-laws (value_at f) live a (get_or f.coupling a 0) 0 on place (slope 0 z) alone refl)

    -- one whose coefficient is 4: the sum is 0
    pub dead-left : (power : ℕ) → (coef f.odd f.neg a ≡ 0 → ⊥) → left_of omegas f live power ≡ omegas.nil
    dead-left power nz =
        let l = bit-lt f.neg a in
        let four : coef f.odd f.neg a ≡ 4 = omega (arith, nz, even, l) in
        ap (omegas.times (rpow omegas power))
        (lone-zero omega-laws (value_at f) live a (get_or f.coupling a 0) 4 on place (slope 4 four) alone refl)
        ∙ CommFacts.times_nil omega-laws.comm (rpow omegas power)

-- two numbers 0 or 4, as their common bits
both-four : (α β : ℕ) → α < 2 → β < 2 → bit_and (4 * α) (4 * β) ≡ 4 * (α * β)
both-four = digit₂ (λ α β. bit_and (4 * α) (4 * β) ≡ 4 * (α * β)) refl refl refl refl

-- two coupled variables whose coefficients are 0 or 4
module _ (f : QuadraticForm) (live a b : ℕ) (inside : live < 2 ^ 48) (on : bit live a ≡ 1) (on' : bit live b ≡ 1)
    (even : bit f.odd a ≡ 0) (even' : bit f.odd b ≡ 0) (coupled : bit (get_or f.coupling a 0) b ≡ 1) where
  pair-apart : b ≡ a → ⊥
  pair-apart e = not-both (link f.coupling a a) (f.own a ∙ even) (ap (bit (get_or f.coupling a 0)) (sym e) ∙ coupled)

  pub still-on : bit (bit_xor live (2 ^ a)) b ≡ 1
  still-on = undropped live a b pair-apart ∙ on'

  pub pair_left : (f₁ f₂ f₃ f' : QuadraticForm) (d d' p q r power : ℕ) → d ≡ coef f.odd f.neg a → d' ≡ coef f.odd f.neg b
      → p ≡ get_or f.coupling a 0 → q ≡ get_or f.coupling b 0 → r ≡ bit_xor (bit_xor live (2 ^ a)) (2 ^ b)
      → ((c : ℕ) → value_at f₁ c ≡ (value_at f c + bit_and d d') % 8) → ((c : ℕ)
      → value_at f₂ c ≡ (value_at f₁ c + d * dot (bit_and q r) c) % 8)
      → ((c : ℕ) → value_at f₃ c ≡ (value_at f₂ c + d' * dot (bit_and p r) c) % 8)
      → ((c : ℕ) → value_at f' c ≡ (value_at f₃ c + 4 * (dot (bit_and p r) c * dot (bit_and q r) c)) % 8)
      → left_of omegas f' r (power + 2) ≡ left_of omegas f live power
  pair_left f₁ f₂ f₃ f' d d' p q r power de de' pe qe re one law₂ law₃ law =
      let α = bit f.neg a in
      let β = bit f.neg b in
      let e : coef f.odd f.neg a ≡ 4 * α = omega (arith, even) in
      let e' : coef f.odd f.neg b ≡ 4 * β = omega (arith, even') in
      let left = bit_xor (bit_xor live (2 ^ a)) (2 ^ b) in
      let u = ap₂ bit_and pe re in
      let w = ap₂ bit_and qe re in
      ap (λ m. left_of omegas f' m (power + 2)) re
      ∙ two_out omega-laws power _ _
      (pair-out omega-laws (value_at f) live a b (get_or f.coupling a 0) (get_or f.coupling b 0) α β on on' pair-apart
      (set_below 48 live a inside on) (set_below 48 live b inside on')
      coupled (slope f live a inside on (4 * α) e) (slope f live b inside on' (4 * β) e') (value_at f₁) (value_at f₂)
      (value_at f₃) (value_at f')
      (λ c. one c ∙ ap (λ x. (value_at f c + x) % 8)
      (ap₂ bit_and (de ∙ e) (de' ∙ e') ∙ both-four α β (bit-lt f.neg a) (bit-lt f.neg b)))
      (λ c. law₂ c ∙ ap₂ (λ x m. (value_at f₁ c + x * dot m c) % 8) (de ∙ e) w)
      (λ c. law₃ c ∙ ap₂ (λ x m. (value_at f₂ c + x * dot m c) % 8) (de' ∙ e') u)
      (λ c. law c ∙ ap₂ (λ m n. (value_at f₃ c + 4 * (dot m c * dot n c)) % 8) u w))

-- a step in which g variables go and the power rises by m
pub stepped : (f f' : QuadraticForm) (live live' power power' g m : ℕ) → 0 < g → g ≤ m → m ≤ 2 * g
    → Reduced f f' live live' power power' g m
    → Stepped f f' live live' power power'
stepped f f' live live' power power' g m l lo hi r =
    let n = r.count in
    let p = r.powers in
    record { same = r.same; fewer = omega arith; least = omega arith; most = omega arith }

-- with no variable left the sum is one power of ω
pub ended : (f : QuadraticForm) (live power : ℕ) → live ≡ 0 → left_of omegas f live power ≡ exact omegas power (f.phase % 8)
ended f live power z =
    ap (λ m. left_of omegas f m power) z
    ∙ ap (omegas.times (rpow omegas power)) (over_none omega-laws.comm _ 48 0 ∙ ap (wpow omegas) (value-zero f))

-- the sum over all strings, by their numbers, in any ring
over-total : {R : Type 0} {o : Ops R} (laws : CommLaws o) (s : PhasedSpace) → over o (form_power o s.form) s.space.pivots 48 0
    ≡ sum_over o s
over-total {o = o} laws s =
    let P = s.space.pivots in
    over-numbered laws (form_power o s.form) P 48 0
    ∙ ap (sum_to o _) (ap (λ n. 2 ^ n) (sym (ones_low 48 P) ∙ ap ones (mod-eq_of_lt s.space.within)))
    ∙ Sums.sum_same laws _ _ (2 ^ ones P) (λ c l. ap (form_power o s.form) (xor_zero_l (spread 48 P c)))

pub numbered : (s : PhasedSpace) → left_of omegas s.form s.space.pivots 0 ≡ sum_over omegas s
numbered s = CommFacts.one_times omega-laws.comm _ ∙ over-total omega-laws.comm s
