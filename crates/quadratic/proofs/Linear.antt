-- Linear maps of strings, and the combinations of rows as such maps.
use Rattle.std.proofs.Common.{◌≡◌, ℕ, zero, suc, ◌+◌, ◌*◌, ◌%◌, ◌^◌, ◌<◌, sym, refl, ap, ◌∙◌, ap₂, mod-lt, mod-eq_of_lt, one-mul, zero-mul, pow_pos}
use mathlib.Core.Path.{fun_ext}
use native.Mathlib.Nat.{mod-one}
use lib.Bits.{bit_and, bit_xor, xor_assoc, xor_comm, xor_self, xor_zero_l, xor_zero_r, xor_shifted, and_comm}
use Rattle.quadratic.specs.Bits.{bit, dot, span}
use Rattle.quadratic.proofs.Bitlaws.{digit, digit₂, bit-lt, bit-xor, mod-more}
use Rattle.quadratic.proofs.Dots.{dot-xor-r, dot-lt, and_xor}

-- ---- sums

swap : (a b c d : ℕ) → bit_xor (bit_xor a b) (bit_xor c d) ≡ bit_xor (bit_xor a c) (bit_xor b d)
swap a b c d =
    xor_assoc a b (bit_xor c d) ∙ ap (bit_xor a) (sym (xor_assoc b c d) ∙ ap (λ x. bit_xor x d) (xor_comm b c) ∙ xor_assoc c b d)
    ∙ sym (xor_assoc a c (bit_xor b d))

pub back : (a b : ℕ) → bit_xor (bit_xor a b) b ≡ a
back a b = xor_assoc a b b ∙ ap (bit_xor a) (xor_self b) ∙ xor_zero_r a

-- equal sums: what is added may be moved
pub move : (a b c : ℕ) → bit_xor a b ≡ c → a ≡ bit_xor c b
move a b c e = sym (back a b) ∙ ap (λ x. bit_xor x b) e

pub cancel : (a b c : ℕ) → bit_xor a c ≡ bit_xor b c → a ≡ b
cancel a b c e = move a c (bit_xor b c) e ∙ back b c

pub xor-digit : (x y : ℕ) → x < 2 → y < 2 → bit_xor x y ≡ (x + y) % 2
xor-digit = digit₂ (λ x y. bit_xor x y ≡ (x + y) % 2) refl refl refl refl

-- ---- linear maps

abbrev pub Linear : (ℕ → ℕ) → Type 0
Linear L = (x y : ℕ) → L (bit_xor x y) ≡ bit_xor (L x) (L y)

pub linear-zero : (L : ℕ → ℕ) → Linear L → L 0 ≡ 0
linear-zero L l = l 0 0 ∙ xor_self (L 0)

pub linear-pick : (L : ℕ → ℕ) → Linear L → (b x : ℕ) → b < 2 → L (b * x) ≡ b * L x
linear-pick L l b x =
    digit (λ b. L (b * x) ≡ b * L x) (ap L (zero-mul x) ∙ linear-zero L l ∙ sym (zero-mul (L x))) (ap L (one-mul x) ∙ sym (one-mul (L x))) b

pub linear-span : (L : ℕ → ℕ) → Linear L → (R : ℕ → ℕ) (c n : ℕ) → L (span R c n) ≡ span (λ p. L (R p)) c n
linear-span L l R c zero = linear-zero L l
linear-span L l R c (suc n) = l (span R c n) (bit c n * R n)
    ∙ ap₂ bit_xor (linear-span L l R c n) (linear-pick L l (bit c n) (R n) (bit-lt c n))

-- the single bits give the number
span-pow : (c n : ℕ) → span (λ p. 2 ^ p) c n ≡ c % 2 ^ n
span-pow c zero = sym (mod-one c)
span-pow c (suc n) =
    ap (λ x. bit_xor x (bit c n * 2 ^ n)) (span-pow c n) ∙ xor_comm (c % 2 ^ n) (bit c n * 2 ^ n)
    ∙ xor_shifted (bit c n) n (c % 2 ^ n) (mod-lt c (pow_pos n))
    ∙ sym (mod-more c n)

-- a linear map is known by its values at the single bits
pub span-linear : (L : ℕ → ℕ) → Linear L → (R : ℕ → ℕ) → ((p : ℕ) → R p ≡ L (2 ^ p)) → (c n : ℕ) → c < 2 ^ n → span R c n ≡ L c
span-linear L l R e c n h =
    ap (λ R. span R c n) (fun_ext e) ∙ sym (linear-span L l (λ p. 2 ^ p) c n) ∙ ap L (span-pow c n ∙ mod-eq_of_lt h)

pub pick-xor : (a b m : ℕ) → a < 2 → b < 2 → bit_xor a b * m ≡ bit_xor (a * m) (b * m)
pick-xor a b m =
    digit₂ (λ a b. bit_xor a b * m ≡ bit_xor (a * m) (b * m)) (simp zero-mul) (simp (zero-mul, one-mul) (sym (xor_zero_l m)))
    (simp (zero-mul, one-mul) (sym (xor_zero_r m)))
    (simp (zero-mul, one-mul) (sym (xor_self m))) a b

pub bit-linear : (i : ℕ) → Linear (λ x. bit x i)
bit-linear i x y = bit-xor x y i ∙ sym (xor-digit (bit x i) (bit y i) (bit-lt x i) (bit-lt y i))

pub dot-linear : (w : ℕ) → Linear (dot w)
dot-linear w x y = dot-xor-r w x y ∙ sym (xor-digit (dot w x) (dot w y) (dot-lt w x) (dot-lt w y))

pub and-linear : (m : ℕ) → Linear (λ x. bit_and x m)
and-linear m x y = and_comm (bit_xor x y) m ∙ and_xor m x y ∙ ap₂ bit_xor (and_comm m x) (and_comm m y)

pub sum-linear : (L M : ℕ → ℕ) → Linear L → Linear M → Linear (λ x. bit_xor (L x) (M x))
sum-linear L M l m x y = ap₂ bit_xor (l x y) (m x y) ∙ swap (L x) (L y) (M x) (M y)

-- m where a linear bit is set
pub pick-linear : (L : ℕ → ℕ) → Linear L → ((x : ℕ) → L x < 2) → (m : ℕ) → Linear (λ x. L x * m)
pick-linear L l b m x y = ap (λ k. k * m) (l x y) ∙ pick-xor (L x) (L y) m (b x) (b y)

pub span-xor : (R : ℕ → ℕ) (n : ℕ) → Linear (λ c. span R c n)
span-xor R zero x y = refl
span-xor R (suc n) x y =
    sum-linear (λ c. span R c n) (λ c. bit c n * R n) (span-xor R n) (pick-linear (λ c. bit c n) (bit-linear n) (λ c. bit-lt c n) (R n)) x y
