use Rattle.std.proofs.Common.{◌≡◌, ℕ, zero, suc, ◌+◌, ◌-◌, ◌*◌, ◌/◌, ◌%◌, ◌^◌, ◌<◌, ◌≤◌, ◌≢◌, sym, refl, ap, ◌∙◌, ap₂, lt_of_lt_of_le, lt_of_le_of_lt, add-zero, mod-lt, mod-eq_of_lt, add_comm, one-mul, add-one, one-add, arith, pow_pos, pow_mono}
use mathlib.Core.Path.{fun_ext}
use native.Mathlib.Nat.{zero-div, div-eq_of_lt, mod-one}
use native.Mathlib.Decide.{dec_lt}
use lib.Bits.{bit_and, bit_or, bit_xor, or_shr, or_mod, xor_shr, xor_mod, and_shr, and_mod, and_le_l}
use lib.Pow.{pow-lt, mod-pow-add, field, mod-mod-pow, high, low}
use lib.Count.{ones, ones_cat}
use Rattle.quadratic.specs.Bits.{bit, dot, sum, inner}

-- a statement about a bit is a statement about 0 and 1
pub digit : (P : ℕ → Type 0) → P 0 → P 1 → (x : ℕ) → x < 2 → P x
digit P p q zero h = p
digit P p q (suc zero) h = q
digit P p q (suc (suc x)) h = absurd (omega arith)

pub digit₂ : (P : ℕ → ℕ → Type 0) → P 0 0 → P 0 1 → P 1 0 → P 1 1 → (x y : ℕ) → x < 2 → y < 2 → P x y
digit₂ P p q r s x y hx hy = digit (λ x. P x y) (digit (P 0) p q y hy) (digit (P 1) r s y hy) x hx

pub digit₃ : (P : ℕ → ℕ → ℕ → Type 0) → P 0 0 0 → P 0 0 1 → P 0 1 0 → P 0 1 1 → P 1 0 0 → P 1 0 1 → P 1 1 0 → P 1 1 1
    → (x y z : ℕ) → x < 2 → y < 2 → z < 2 → P x y z
digit₃ P p q r s t u v w x y z hx hy hz = digit (λ x. P x y z) (digit₂ (P 0) p q r s y z hy hz) (digit₂ (P 1) t u v w y z hy hz) x hx

-- a bit is not both
pub not-both : (b : ℕ) → b ≡ 0 → b ≡ 1 → ⊥
not-both b z o = omega arith

pub bit-lt : (x i : ℕ) → bit x i < 2
unfolding bit
bit-lt x i = omega arith

xor-digit : (x y : ℕ) → x < 2 → y < 2 → bit_xor x y ≡ (x + y) % 2
xor-digit = digit₂ (λ x y. bit_xor x y ≡ (x + y) % 2) refl refl refl refl

and-digit : (x y : ℕ) → x < 2 → y < 2 → bit_and x y ≡ x * y
and-digit = digit₂ (λ x y. bit_and x y ≡ x * y) refl refl refl refl

pub bit-xor : (x y i : ℕ) → bit (bit_xor x y) i ≡ (bit x i + bit y i) % 2
unfolding bit
bit-xor x y i =
    ap (λ n. n % 2) (xor_shr x y i) ∙ xor_mod (x / 2 ^ i) (y / 2 ^ i) 1 ∙ xor-digit (bit x i) (bit y i) (bit-lt x i) (bit-lt y i)

pub bit-and : (x y i : ℕ) → bit (bit_and x y) i ≡ bit x i * bit y i
unfolding bit
bit-and x y i =
    ap (λ n. n % 2) (and_shr x y i) ∙ and_mod (x / 2 ^ i) (y / 2 ^ i) 1 ∙ and-digit (bit x i) (bit y i) (bit-lt x i) (bit-lt y i)

or-digit : (x y : ℕ) → x < 2 → y < 2 → bit_or x y ≡ (x + y + x * y) % 2
or-digit = digit₂ (λ x y. bit_or x y ≡ (x + y + x * y) % 2) refl refl refl refl

pub bit-or : (x y i : ℕ) → bit (bit_or x y) i ≡ (bit x i + bit y i + bit x i * bit y i) % 2
unfolding bit
bit-or x y i =
    ap (λ n. n % 2) (or_shr x y i) ∙ or_mod (x / 2 ^ i) (y / 2 ^ i) 1 ∙ or-digit (bit x i) (bit y i) (bit-lt x i) (bit-lt y i)

-- a bit of both
pub bits-both : (x y i : ℕ) → bit (bit_and x y) i ≡ 1 → (bit x i ≡ 1) × (bit y i ≡ 1)
bits-both x y i h = digit₂ (λ a b. a * b ≡ 1 → (a ≡ 1) × (b ≡ 1)) (λ e. absurd (not-both 0 refl e))
    (λ e. absurd (not-both 0 refl e)) (λ e. absurd (not-both 0 refl e)) (λ e. (refl, refl))
    (bit x i) (bit y i) (bit-lt x i) (bit-lt y i) (sym (bit-and x y i) ∙ h)

-- one more digit
pub mod-more : (x n : ℕ) → x % 2 ^ suc n ≡ bit x n * 2 ^ n + x % 2 ^ n
unfolding bit
mod-more x n = ap (λ k. x % 2 ^ k) (sym (one-add n)) ∙ mod-pow-add x 1 n

-- numbers of n digits with the same digits are equal
pub same_low : (n x y : ℕ) → ((i : ℕ) → i < n → bit x i ≡ bit y i) → x % 2 ^ n ≡ y % 2 ^ n
same_low zero x y h = omega arith
same_low (suc n) x y h =
    mod-more x n ∙ ap₂ (λ b r. b * 2 ^ n + r) (h n (omega arith)) (same_low n x y (λ i l. h i (omega arith))) ∙ sym (mod-more y n)

pub same_bits : (n x y : ℕ) → x < 2 ^ n → y < 2 ^ n → ((i : ℕ) → i < n → bit x i ≡ bit y i) → x ≡ y
same_bits n x y hx hy h = sym (mod-eq_of_lt hx) ∙ same_low n x y h ∙ mod-eq_of_lt hy

pub ones-digit : (x : ℕ) → x < 2 → ones x ≡ x
unfolding ones
ones-digit = digit (λ x. ones x ≡ x) refl refl

-- how many of the n lowest digits are set
pub ones_low : (n x : ℕ) → ones (x % 2 ^ n) ≡ sum (bit x) n
unfolding ones
ones_low zero x = ap ones (mod-one x)
ones_low (suc n) x =
    ap ones (mod-more x n) ∙ ones_cat n (bit x n) (x % 2 ^ n) (mod-lt x (pow_pos n))
    ∙ ap₂ (λ a b. a + b) (ones-digit (bit x n) (bit-lt x n)) (ones_low n x) ∙ add_comm (bit x n) (sum (bit x) n)

and_low : (n x y : ℕ) → ones (bit_and x y % 2 ^ n) ≡ inner (bit x) (bit y) n
and_low n x y = ones_low n (bit_and x y) ∙ ap (λ f. sum f n) (fun_ext (bit-and x y))

pub dot-inner : (n x y : ℕ) → x < 2 ^ n → dot x y ≡ inner (bit x) (bit y) n % 2
unfolding dot
dot-inner n x y h =
    ap (λ k. ones k % 2) (sym (mod-eq_of_lt (lt_of_le_of_lt (and_le_l x y) h))) ∙ ap (λ k. k % 2) (and_low n x y)

-- ---- the digits of small numbers, and of a number with a digit put on top

pub bit-zero : (i : ℕ) → bit 0 i ≡ 0
unfolding bit
bit-zero i = ap (λ n. n % 2) (zero-div (2 ^ i))

-- no digit past the end
pub bit_past : (n x i : ℕ) → x < 2 ^ n → n ≤ i → bit x i ≡ 0
unfolding bit
bit_past n x i h l = ap (λ n. n % 2) (div-eq_of_lt (lt_of_lt_of_le h (pow_mono l)))

-- the low digits
pub bit-low : (n x i : ℕ) → i < n → bit (x % 2 ^ n) i ≡ bit x i
unfolding bit
bit-low n x i l =
    let j : ℕ = n - suc i in
    let e : n ≡ suc j + i = omega arith in
    ap (λ k. x % 2 ^ k / 2 ^ i % 2) e ∙ ap (λ k. k % 2) (field x (suc j) i) ∙ ap (λ k. x / 2 ^ i % 2 ^ k % 2) (sym (add-one j))
    ∙ mod-mod-pow (x / 2 ^ i) j 1

pub bit-top : (n x : ℕ) → x < 2 ^ n → bit (2 ^ n + x) n ≡ 1
unfolding bit
bit-top n x h = ap (λ k. (k + x) / 2 ^ n % 2) (sym (one-mul (2 ^ n))) ∙ ap (λ k. k % 2) (high 1 n h)

pub bit-under : (n x i : ℕ) → x < 2 ^ n → i < n → bit (2 ^ n + x) i ≡ bit x i
bit-under n x i h l =
    sym (bit-low n (2 ^ n + x) i l) ∙ ap (λ k. bit ((k + x) % 2 ^ n) i) (sym (one-mul (2 ^ n))) ∙ ap (λ k. bit k i) (low 1 n h)

pub bit-pow : (b : ℕ) → bit (2 ^ b) b ≡ 1
bit-pow b = ap (λ k. bit k b) (sym (add-zero (2 ^ b))) ∙ bit-top b 0 (pow_pos b)

pub bit-pow-other : (b i : ℕ) → i ≢ b → bit (2 ^ b) i ≡ 0
bit-pow-other b i ne =
    elim (dec_lt i b) [
      | yes l ↦ ap (λ k. bit k i) (sym (add-zero (2 ^ b))) ∙ bit-under b 0 i (pow_pos b) l ∙ bit-zero i
      | no g ↦ bit_past (suc b) (2 ^ b) i (pow-lt {i = b} (omega arith)) (omega arith)
    ]
