-- The strings of a space by number, each once.
use Rattle.std.proofs.Common.{◌≡◌, ℕ, zero, suc, ◌+◌, ◌*◌, ◌/◌, ◌%◌, ◌^◌, ◌<◌, Bool, true, false, cond, eqb, Some, None, sym, refl, ap, ◌∙◌, ap₂, add-zero, mod-eq_of_lt, one-mul, mul-zero, arith, pow_pos}
use native.Mathlib.Decide.{ℕ_discrete}
use native.Mathlib.Nat.{mod-one}
use lib.Bits.{bit_and, bit_xor, and_zero_l, xor_shifted}
use lib.Count.{ones}
use lib.Pow.{high, low}
use Rattle.std.proofs.lemmas.Bool.{eq-eqb, eqb-true}
use Rattle.cyclotomic.specs.Ring.{Ops, CommLaws, wpow}
use Rattle.cyclotomic.specs.Sum.{sum_to, only}
use Rattle.cyclotomic.proofs.Sums.{Onto}
use Rattle.cyclotomic.proofs.Sums
use Rattle.quadratic.specs.Bits.{bit, sum}
use Rattle.quadratic.specs.Echelon.{row, combination, reduced}
use Rattle.quadratic.specs.Numbering.{spread}
use Rattle.quadratic.specs.Phase.{phase}
use Rattle.quadratic.specs.Strings.{Member, Under}
use Rattle.quadratic.specs.Sums.{term_at, term_of}
use Rattle.quadratic.specs.Value.{value_at}
use Rattle.quadratic.specs.declared.affine.AffineSpace.{AffineSpace}
use Rattle.quadratic.specs.declared.phased.PhasedSpace.{PhasedSpace}
use Rattle.quadratic.proofs.Bitlaws.{bit-lt, bit-and, mod-more}
use Rattle.quadratic.proofs.Confine.{member-under, ones-under}
use Rattle.quadratic.proofs.Laws.{facts, holds, member_is, coordinate, masked, and_pow}
use Rattle.quadratic.proofs.Linear.{linear-pick, and-linear}
use Rattle.quadratic.proofs.Numbering.{spread-on, spread-off}
use Rattle.quadratic.proofs.Over.{spread-lt, twice}

-- ---- the parts of a mask by number

-- the bits of c, spread over a mask, stand inside it
spread-part : (n mask c : ℕ) → bit_and (spread n mask c) mask ≡ spread n mask c
unfolding spread
spread-part zero mask c = and_zero_l mask
spread-part (suc n) mask c =
    elim (ℕ_discrete (bit mask n) 1) [
      | yes on ↦
          let b = c % 2 in
          let x = spread n mask (c / 2) in
          let e : spread (suc n) mask c ≡ bit_xor (b * 2 ^ n) x =
          spread-on n mask c on ∙ sym (xor_shifted b n x (spread-lt n mask (c / 2))) in
          let top = linear-pick (λ z. bit_and z mask) (and-linear mask) b (2 ^ n) (omega arith)
          ∙ ap (λ z. b * z) (and_pow n mask ∙ ap (λ d. d * 2 ^ n) on ∙ one-mul (2 ^ n)) in
          ap (λ z. bit_and z mask) e ∙ and-linear mask (b * 2 ^ n) x ∙ ap₂ bit_xor top (spread-part n mask (c / 2)) ∙ sym e
      | no off ↦ let e = spread-off n mask c off in ap (λ z. bit_and z mask) e ∙ spread-part n mask c ∙ sym e
    ]

-- how many numbers there are, by one position more
more : (mask n c : ℕ) → bit mask n ≡ 1 → c < 2 ^ (sum (bit mask) n + bit mask n) → c < 2 ^ sum (bit mask) n + 2 ^ sum (bit mask) n
more mask n c on l = let e = ap (λ b. 2 ^ (sum (bit mask) n + b)) on ∙ twice (sum (bit mask) n) in omega (arith, l, e)

no_more : (mask n : ℕ) → (bit mask n ≡ 1 → ⊥) → 2 ^ (sum (bit mask) n + bit mask n) ≡ 2 ^ sum (bit mask) n
no_more mask n off =
    let z : bit mask n ≡ 0 = let l = bit-lt mask n in omega arith in
    ap (λ b. 2 ^ (sum (bit mask) n + b)) z ∙ ap (λ j. 2 ^ j) (add-zero (sum (bit mask) n))

-- a number in two parts
halves : (c d : ℕ) → c % 2 ≡ d % 2 → c / 2 ≡ d / 2 → c ≡ d
halves c d e h = omega arith

-- two numbers are spread to two masks
spread-apart : (n mask c d : ℕ) → c < 2 ^ sum (bit mask) n → d < 2 ^ sum (bit mask) n → spread n mask c ≡ spread n mask d → c ≡ d
unfolding spread
spread-apart zero mask c d i j e = omega arith
spread-apart (suc n) mask c d i j e =
    elim (ℕ_discrete (bit mask n) 1) [
      | yes on ↦
          let k = more mask n c on i in
          let l = more mask n d on j in
          let f = sym (spread-on n mask c on) ∙ e ∙ spread-on n mask d on in
          let x = spread-lt n mask (c / 2) in
          let y = spread-lt n mask (d / 2) in
          halves c d (sym (high (c % 2) n x) ∙ ap (λ z. z / 2 ^ n) f ∙ high (d % 2) n y)
          (spread-apart n mask (c / 2) (d / 2) (omega (arith, k)) (omega (arith, l))
          (sym (low (c % 2) n x) ∙ ap (λ z. z % 2 ^ n) f ∙ low (d % 2) n y))
      | no off ↦
          let z = no_more mask n off in
          spread-apart n mask c d (rw z at i) (rw z at j) (sym (spread-off n mask c off) ∙ e ∙ spread-off n mask d off)
    ]

-- every mask inside is met
spread-onto : (n mask x : ℕ) → ((k : ℕ) → k < n → bit mask k ≡ 0 → bit x k ≡ 0)
    → (c : ℕ) × (c < 2 ^ sum (bit mask) n) × (spread n mask c ≡ x % 2 ^ n)
unfolding spread
spread-onto zero mask x h = (0, pow_pos 0, sym (mod-one x))
spread-onto (suc n) mask x h =
    let (c, l, e) = spread-onto n mask x (λ k i. h k (omega arith)) in
    elim (ℕ_discrete (bit mask n) 1) [
      | yes on ↦
          let b = bit x n in
          let s = bit-lt x n in
          let d = b + (c + c) in
          let r : d % 2 ≡ b = omega (arith, s) in
          let q : d / 2 ≡ c = omega (arith, s) in
          let w = ap (λ b. 2 ^ (sum (bit mask) n + b)) on ∙ twice (sum (bit mask) n) in (
            d,
            rw w (omega (arith, l, s)),
            spread-on n mask d on ∙ ap₂ (λ u v. u * 2 ^ n + spread n mask v) r q ∙ ap (λ v. b * 2 ^ n + v) e ∙ sym (mod-more x n),
          )
      | no off ↦
          let z : bit x n ≡ 0 = h n (omega arith) (let i = bit-lt mask n in omega arith) in (
            c,
            rw (no_more mask n off) l,
            spread-off n mask c off ∙ e ∙ sym (mod-more x n ∙ ap (λ b. b * 2 ^ n + x % 2 ^ n) z ∙ omega arith),
          )
    ]

-- ---- the strings of a space by number

module _ (s : AffineSpace) where
  -- the string numbered by c
  pub point : ℕ → ℕ
  point c = bit_xor s.shift (combination (row s.rows) (spread 48 s.pivots c))

  point-member : (c : ℕ) → Member s (point c)
  unfolding point
  point-member c = (spread 48 s.pivots c, refl)

  -- its coordinates
  point-pivots : (c : ℕ) → bit_and (point c) s.pivots ≡ spread 48 s.pivots c
  unfolding point
  point-pivots c =
      coordinate s.pivots (row s.rows) s.shift (facts s) (spread 48 s.pivots c) (spread-part 48 s.pivots c)

  abbrev pub inside : ℕ → Bool
  inside y = eqb (reduced s.pivots (row s.rows) y) s.shift

  pub numbered : (n : ℕ) → Under s n → Onto point (2 ^ ones s.pivots) (2 ^ n) inside
  unfolding point
  numbered n u = record {
    into = λ c l. member-under s n (point c) u (point-member c);
    holds = λ c l. eq-eqb _ _ (holds s (point c) (point-member c));
    apart = λ c d l k e. spread-apart 48 s.pivots c d (rw count l) (rw count k)
        (sym (point-pivots c) ∙ ap (λ y. bit_and y s.pivots) e ∙ point-pivots d);
    meets = λ y l h.
        let x = bit_and y s.pivots in
        let (c, k, e) = spread-onto 48 s.pivots x (λ p i z. bit-and y s.pivots p ∙ ap (λ b. bit y p * b) z ∙ mul-zero (bit y p)) in (
          c,
          rw count at k,
          ap (λ z. bit_xor s.shift (combination (row s.rows) z))
              (e ∙ mod-eq_of_lt (masked s.pivots (row s.rows) s.shift (facts s) y))
              ∙ sym (member_is s.pivots (row s.rows) s.shift (facts s) y (eqb-true _ _ h)),
        );
  }
    where
      count : sum (bit s.pivots) 48 ≡ ones s.pivots
      count = ones-under 48 s.pivots s.within

-- ---- sums over the strings of a space

-- the sum over the numbers is the sum over all strings of n bits
pub sum-strings : {R : Type 0} {o : Ops R} → CommLaws o → (s : PhasedSpace) (n : ℕ) → Under s.space n
    → sum_to o (term_at o s) (2 ^ ones s.space.pivots) ≡ sum_to o (λ y. term_of o (phase s y)) (2 ^ n)
unfolding phase
sum-strings {R} {o} laws s n u =
    Sums.sum_same laws _ _ (2 ^ ones s.space.pivots) (λ c l. ap (wpow o) (sym (s.idle (point s.space c)
    ∙ ap (value_at s.form) (point-pivots s.space c))))
    ∙ Sums.reindex laws (point s.space) (2 ^ ones s.space.pivots) (2 ^ n) (inside s.space)
    (λ y. wpow o (value_at s.form y)) (numbered s.space n u)
    ∙ Sums.sum_same laws _ _ (2 ^ n) (λ y l. term (inside s.space y) (value_at s.form y))
  where
    term : (b : Bool) (v : ℕ) → only o b (wpow o v) ≡ term_of o (cond b (Some v) None)
    term true v = refl
    term false v = refl
