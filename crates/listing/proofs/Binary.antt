-- What `{:0nb}` writes of a number with at most n binary digits: its n lowest bits, the highest first.
use Rattle.std.proofs.Common.{◌≡◌, ℕ, zero, suc, ◌+◌, ◌-◌, ◌/◌, ◌%◌, ◌^◌, ◌<◌, ◌≤◌, Bool, true, false, List, [], ◌∷◌, ◌++◌, length, replicate, refl, sym, ap, ap₂, ◌∙◌, arith, append_assoc, append-nil, add-zero, one-add, mod-lt, pow-add, pow-suc, pow_pos}
use Rattle.std.proofs.Math.Nat.{div-one, div-div-eq-div-mul, zero-div}
use Rattle.std.specs.Fmt.{digit_glyph, digits, padded_integral, format_spec}
use Rattle.cyclotomic.proofs.Zeros.{tail, Few, written}
use Rattle.quadratic.specs.Bits.{bit}
use Rattle.quadratic.proofs.Bitlaws.{bit-low}
use Rattle.listing.specs.Fields.{bits_text}

-- the lowest bit is the last
lowest : (y : ℕ) → y % 2 ≡ bit y 0
unfolding bit
lowest y = ap (λ (m : ℕ). m % 2) (sym (div-one y))

-- a bit of the half is the one above it
higher : (y n : ℕ) → bit (y / 2) n ≡ bit y (suc n)
unfolding bit
higher y n =
    ap (λ (m : ℕ). m % 2) (div-div-eq-div-mul y 2 (2 ^ n)
    ∙ ap (λ (m : ℕ). y / m) (sym (pow-add 2 1 n) ∙ ap (λ (m : ℕ). 2 ^ m) (one-add n)))

-- the bits of the half, and the lowest bit behind them
bits-last : (n y : ℕ) → bits_text n (y / 2) ++ (48 + y % 2) ∷ [] ≡ bits_text (suc n) y
bits-last zero y = ap (λ (b : ℕ). (48 + b) ∷ []) (lowest y)
bits-last (suc n) y = ap₂ (λ (b : ℕ) (l : List ℕ). (48 + b) ∷ l) (higher y n) (bits-last n y)

-- the n lowest bits are those of the rest after division by 2 ^ m, where n is at most m
bits-low : (n m y : ℕ) → n ≤ m → bits_text n (y % 2 ^ m) ≡ bits_text n y
bits-low zero m y h = refl
bits-low (suc n) m y h = ap₂ (λ (b : ℕ) (l : List ℕ). (48 + b) ∷ l) (bit-low m y n (omega arith)) (bits-low n m y (omega arith))

-- a binary digit as it is printed
glyph : (d : ℕ) → d < 2 → digit_glyph false d ≡ 48 + d
glyph zero h = refl
glyph (suc zero) h = refl
glyph (suc (suc d)) h = absurd (omega arith)

-- a number below 2 ^ k has at most k digits
few : (k y : ℕ) → y < 2 ^ k → Few 2 k y
few zero y h = omega arith
few (suc k) y h = few k (y / 2) (omega (arith, pow-suc 2 k))

-- the last k digits are the bits
tail-bits : (k y : ℕ) → tail 2 k y ≡ bits_text k y
tail-bits zero y = refl
tail-bits (suc k) y = ap₂ (λ (l : List ℕ) (d : ℕ). l ++ d ∷ []) (tail-bits k (y / 2)) (glyph (y % 2) (omega arith)) ∙ bits-last k y

-- `{:0kb}` of the k lowest bits, which are cut off at m
pub binary : (k y m : ℕ) → k ≤ 64 → 0 < k → m ≡ 2 ^ k
    → padded_integral (format_spec 32 0 4 k (2 ^ 64 - 1)) false [] (digits 2 false (y % m)) ≡ bits_text k y
binary k y m le low e =
    ap (λ m. padded_integral (format_spec 32 0 4 k (2 ^ 64 - 1)) false [] (digits 2 false (y % m))) e
    ∙ (written 2 k (y % 2 ^ k) le low (few k (y % 2 ^ k) (mod-lt y (pow_pos k)))
    ∙ (tail-bits k (y % 2 ^ k) ∙ bits-low k k y (omega arith)))
