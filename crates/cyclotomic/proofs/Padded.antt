-- What `{:02x}` and `{:016x}` write.
use Rattle.std.proofs.Common.{◌≡◌, ℕ, zero, suc, ◌+◌, ◌-◌, ◌*◌, ◌/◌, ◌%◌, ◌^◌, ◌<◌, ◌≤◌, true, false, cond, List, [], ◌∷◌, ◌++◌, refl, sym, ap, ◌∙◌, arith, nat_lt, add-zero, zero-add, pow-add, lit<, lit≤}
use Rattle.std.proofs.Math.Nat.{div-one, div-div-eq-div-mul}
use Rattle.std.specs.Fmt.{digits, padded_integral, format_spec}
use Rattle.std.proofs.lemmas.Bool.Decides.{nat_tests}
use Rattle.cyclotomic.specs.Columns.{glyph_of, glyphs, hex_at}
use Rattle.cyclotomic.proofs.Zeros.{tail, written}

-- each digit at its place

glyphs-more : (f : ℕ → ℕ) (at k : ℕ) → glyphs f at (suc k) ≡ glyphs f at k ++ glyph_of (f (at + k)) ∷ []
glyphs-more f at zero = ap (λ (m : ℕ). glyph_of (f m) ∷ []) (sym (add-zero at))
glyphs-more f at (suc k) =
    let next : at + 1 + k ≡ at + suc k = omega arith in
    ap (λ (l : List ℕ). glyph_of (f at) ∷ l) (glyphs-more f (at + 1) k ∙ ap (λ (m : ℕ). glyphs f (at + 1) k ++ glyph_of (f m) ∷ []) next)

glyphs-same : (f g : ℕ → ℕ) (at n : ℕ) → ((i : ℕ) → at ≤ i → i < at + n → f i ≡ g i) → glyphs f at n ≡ glyphs g at n
glyphs-same f g at zero same = refl
glyphs-same f g at (suc n) same =
    ap (λ (x : ℕ). glyph_of x ∷ glyphs f (at + 1) n) (same at (omega arith) (omega arith))
    ∙ ap (λ (l : List ℕ). glyph_of (g at) ∷ l) (glyphs-same f g (at + 1) n (λ i low high. same i (omega arith) (omega arith)))

-- a digit of n / 16 is the digit of n at the same place, counted from the left
shifted : (k n i : ℕ) → i < k → hex_at k (n / 16) i ≡ hex_at (suc k) n i
shifted k n i h =
    let first : nat_lt i k ≡ true = grind (arith, nat_tests) in
    let second : nat_lt i (suc k) ≡ true = grind (arith, nat_tests) in
    let exponent : 4 + 4 * (k - 1 - i) ≡ 4 * (suc k - 1 - i) = omega arith in
    ap (λ b. cond b (n / 16 / 2 ^ (4 * (k - 1 - i)) % 16) 0) first
    ∙ (ap (λ (m : ℕ). m % 16) (div-div-eq-div-mul n 16 (2 ^ (4 * (k - 1 - i)))
    ∙ ap (λ (m : ℕ). n / m) (sym (pow-add 2 4 (4 * (k - 1 - i))) ∙ ap (λ (m : ℕ). 2 ^ m) exponent))
    ∙ ap (λ b. cond b (n / 2 ^ (4 * (suc k - 1 - i)) % 16) 0) (sym second))

lowest : (k n : ℕ) → n % 16 ≡ hex_at (suc k) n k
lowest k n =
    let test : nat_lt k (suc k) ≡ true = grind (arith, nat_tests) in
    let exponent : 4 * (suc k - 1 - k) ≡ 0 = omega arith in
    ap (λ (m : ℕ). m % 16) (sym (div-one n)) ∙ (ap (λ (m : ℕ). n / 2 ^ m % 16) (sym exponent)
    ∙ ap (λ b. cond b (n / 2 ^ (4 * (suc k - 1 - k)) % 16) 0) (sym test))

-- the last k digits of n are those that `hex_at` has at the places 0 to k - 1
tail-glyphs : (k n : ℕ) → tail 16 k n ≡ glyphs (hex_at k n) 0 k
tail-glyphs zero n = refl
tail-glyphs (suc k) n =
    ap (λ (l : List ℕ). l ++ glyph_of (n % 16) ∷ [])
    (tail-glyphs k (n / 16) ∙ glyphs-same (hex_at k (n / 16)) (hex_at (suc k) n) 0 k (λ i low high. shifted k n i (omega arith)))
    ∙ (ap (λ (x : ℕ). glyphs (hex_at (suc k) n) 0 k ++ glyph_of x ∷ []) (lowest k n ∙ ap (hex_at (suc k) n) (sym (zero-add k)))
    ∙ sym (glyphs-more (hex_at (suc k) n) 0 k))

-- a byte by `{:02x}`, and a word by `{:016x}`

pub two : (n : ℕ) → n < 2 ^ 8 → padded_integral (format_spec 32 0 4 2 (2 ^ 64 - 1)) false [] (digits 16 false n) ≡ glyphs (hex_at 2 n) 0 2
two n h = written 16 2 n (lit≤ tt) (lit< tt) (omega arith) ∙ tail-glyphs 2 n

pub sixteen : (n : ℕ) → n < 2 ^ 64
    → padded_integral (format_spec 32 0 4 16 (2 ^ 64 - 1)) false [] (digits 16 false n) ≡ glyphs (hex_at 16 n) 0 16
sixteen n h = written 16 16 n (lit≤ tt) (lit< tt) (omega arith) ∙ tail-glyphs 16 n
