-- Two spaces with the same strings are the same.
use Rattle.std.proofs.Common.{◌≡◌, ℕ, zero, suc, ◌+◌, ◌*◌, ◌%◌, ◌^◌, ◌<◌, ◌≤◌, sym, refl, ap, ◌∙◌, ap₂, lt_of_lt_of_le, lt_of_le_of_lt, mod-lt, mod-eq_of_lt, one-mul, zero-mul, arith, pow_pos, pow_mono}
use native.Mathlib.Decide.{dec_lt}
use lib.Bits.{bit_and, bit_xor, xor_comm, xor_lt, xor_zero_l, xor_self, and_le_l}
use Rattle.quadratic.specs.Bits.{span, bit}
use Rattle.quadratic.proofs.Bitlaws.{digit, digit₂, bit-lt, bit-and, bit_past, mod-more}
use Rattle.quadratic.proofs.Dots.{by_bits}
use Rattle.quadratic.specs.Echelon.{row, combination, reduced}
use Rattle.quadratic.specs.Strings.{Member}
use Rattle.quadratic.specs.declared.affine.AffineSpace.{AffineSpace}
use Rattle.quadratic.proofs.Linear.{move}
use Rattle.quadratic.proofs.Laws.{facts, holds, shift_in, comb-pow, red-linear, red-keep, lead-bit}

-- the two spaces have the same strings
abbrev pub SameStrings : AffineSpace → AffineSpace → Type 0
SameStrings s t = ((y : ℕ) → Member s y → Member t y) × ((y : ℕ) → Member t y → Member s y)

-- no row reaches above its own position
pub span-lt : (R : ℕ → ℕ) → ((p : ℕ) → R p < 2 ^ suc p) → (c n m : ℕ) → c < 2 ^ n → span R c m < 2 ^ n
span-lt R low c n zero l = pow_pos n
span-lt R low c n (suc m) l =
    xor_lt n (span R c m) (bit c m * R m) (span-lt R low c n m l)
    (digit (λ b. bit c m ≡ b → b * R m < 2 ^ n) (λ z. rw zero-mul (pow_pos n))
    (λ o. rw one-mul (lt_of_lt_of_le (low m) (pow_mono (under o)))) (bit c m) (bit-lt c m) refl)
  where
    under : bit c m ≡ 1 → suc m ≤ n
    under o = elim (dec_lt m n) [ yes i ↦ i | no i ↦ let z = bit_past n c m l (omega arith) in absurd (omega arith) ]

-- without its top bit
shorter : (c n : ℕ) → c < 2 ^ suc n → bit c n ≡ 0 → c < 2 ^ n
shorter c n l z =
    let e : c ≡ c % 2 ^ n = sym (mod-eq_of_lt l) ∙ mod-more c n ∙ ap (λ b. b * 2 ^ n + c % 2 ^ n) z ∙ omega arith in
    let m = mod-lt c (pow_pos n) in
    omega (arith, e, m)

pub nothing : (a x : ℕ) → bit_xor a x ≡ a → x ≡ 0
nothing a x e = move x a a (xor_comm x a ∙ e) ∙ xor_self a

module _ (s t : AffineSpace) (to : (y : ℕ) → Member s y → Member t y) where
  left : ℕ → ℕ
  left y = reduced t.pivots (row t.rows) y

  shift-left : left s.shift ≡ t.shift
  unfolding left
  shift-left = holds t s.shift (to s.shift (shift_in s))

  -- each row of s is a combination of rows of t
  row-left : (p : ℕ) → left (row s.rows p) ≡ 0
  unfolding left
  row-left p =
      let x = row s.rows p in
      nothing t.shift (left x) (ap (λ z. bit_xor z (left x)) (sym shift-left)
      ∙ sym (red-linear t.pivots (row t.rows) t.shift (facts t) s.shift x)
      ∙ holds t (bit_xor s.shift x)
      (to (bit_xor s.shift x) (
        bit_and (2 ^ p) s.pivots,
        ap (bit_xor s.shift) (sym (comb-pow s.pivots (row s.rows) s.shift (facts s) p)),
      )))

  row_is : (p : ℕ) → row s.rows p ≡ combination (row t.rows) (bit_and (row s.rows p) t.pivots)
  unfolding left
  row_is p = let x = row s.rows p in move x (combination (row t.rows) (bit_and x t.pivots)) 0 (row-left p)
      ∙ xor_zero_l (combination (row t.rows) (bit_and x t.pivots))

  -- and each pivot of s is one of t
  pub pivot-of : (p : ℕ) → bit s.pivots p ≡ 1 → bit t.pivots p ≡ 1
  unfolding combination
  pivot-of p o =
      digit (λ b. bit t.pivots p ≡ b → b ≡ 1) (λ z.
      let x = row s.rows p in
      let c = bit_and x t.pivots in
      let low : c < 2 ^ p = shorter c p (lt_of_le_of_lt (and_le_l x t.pivots) (s.low p))
      (bit-and x t.pivots p ∙ ap (λ b. bit x p * b) z ∙ omega arith) in
      let e : bit x p ≡ 0 = ap (λ y. bit y p) (row_is p)
      ∙ bit_past p (combination (row t.rows) c) p (span-lt (row t.rows) t.low c p 48 low) (omega arith) in
      let f = lead-bit s.pivots (row s.rows) s.shift (facts s) p o in
      absurd (omega (arith, e, f))) (λ o. refl) (bit t.pivots p) (bit-lt t.pivots p) refl

  module _ (same : s.pivots ≡ t.pivots) where
    pub row_same : (p : ℕ) → row s.rows p ≡ row t.rows p
    row_same p =
        row_is p ∙ ap (combination (row t.rows)) (ap (bit_and (row s.rows p)) (sym same) ∙ s.lead p ∙ ap (bit_and (2 ^ p)) same)
        ∙ comb-pow t.pivots (row t.rows) t.shift (facts t) p

    pub shift_same : s.shift ≡ t.shift
    unfolding left
    shift_same = sym (red-keep t.pivots (row t.rows) t.shift (facts t) s.shift (ap (bit_and s.shift) (sym same) ∙ s.clean))
        ∙ shift-left

pub pivots-same : (s t : AffineSpace) → SameStrings s t → s.pivots ≡ t.pivots
pivots-same s t h =
    by_bits s.pivots t.pivots
    (λ p. both (bit s.pivots p) (bit t.pivots p) (bit-lt s.pivots p) (bit-lt t.pivots p)
    (pivot-of s t h.0 p) (pivot-of t s h.1 p))
  where
    both : (a b : ℕ) → a < 2 → b < 2 → (a ≡ 1 → b ≡ 1) → (b ≡ 1 → a ≡ 1) → a ≡ b
    both = digit₂ (λ a b. (a ≡ 1 → b ≡ 1) → (b ≡ 1 → a ≡ 1) → a ≡ b) (λ f g. refl) (λ f g. g refl) (λ f g. sym (f refl)) (λ f g. refl)

-- ---- equal fields, equal strings

pub strings-same : (s t : AffineSpace) → s.shift ≡ t.shift → ((p : ℕ) → p < 48 → row s.rows p ≡ row t.rows p)
    → (y : ℕ) → Member s y → Member t y
unfolding combination
strings-same s t e r y m = (m.0, m.1 ∙ ap₂ bit_xor e (rows m.0 48 (λ p l. r p l)))
  where
    rows : (c n : ℕ) → ((p : ℕ) → p < n → row s.rows p ≡ row t.rows p) → span (row s.rows) c n ≡ span (row t.rows) c n
    rows c zero h = refl
    rows c (suc n) h = ap₂ (λ x z. bit_xor x (bit c n * z)) (rows c n (λ p l. h p (omega arith))) (h n (omega arith))
