-- The laws of bits_from: one bit more, two fields side by side, its bound, and equal bits.
use Rattle.std.proofs.Common.{◌≡◌, ℕ, zero, suc, ◌+◌, ◌-◌, ◌*◌, ◌/◌, ◌%◌, ◌^◌, ◌<◌, ◌≤◌, List, length, get_or, take, sym, refl, ap, ◌∙◌, inl, inr, add-zero, add_assoc, add-suc, mul_assoc, pow-suc, zero-add, add-one, arith, length-take, get_or-take, ext_get_or, pow_mono, shr-shr}
use Rattle.std.proofs.lemmas.List.{get_or_past}
use Rattle.std.proofs.lemmas.Bool.{cases_lt}
use lib.Pow.{high, mod-pow-add}
use Rattle.std.proofs.lemmas.Nat.{one_shl}
use Rattle.archive.specs.Bits.{bit_at, bits_from}

bit_below : (b : List ℕ) (i : ℕ) → bit_at b i < 2
unfolding bit_at
bit_below b i = omega arith

pub bits_none : (b : List ℕ) (p : ℕ) → bits_from b p 0 ≡ 0
unfolding bits_from
bits_none b p = refl

pub bits-more : (b : List ℕ) (p w : ℕ) → bits_from b p (w + 1) ≡ bits_from b p w * 2 + bit_at b (p + w)
unfolding bits_from
bits-more b p w = rw add-one refl

bits-suc : (b : List ℕ) (p w : ℕ) → bits_from b p (suc w) ≡ bits_from b p w * 2 + bit_at b (p + w)
unfolding bits_from
bits-suc b p w = refl

pub bits_below : (b : List ℕ) (p w : ℕ) → bits_from b p w < 2 ^ w
bits_below b p zero = rw bits_none (omega arith)
bits_below b p (suc w) = let h = bits_below b p w in let l = bit_below b (p + w) in rw (bits-suc, pow-suc) (omega arith)

-- two fields side by side are one
pub bits-split : (b : List ℕ) (p w v : ℕ) → bits_from b p (w + v) ≡ bits_from b p w * 2 ^ v + bits_from b (p + w) v
bits-split b p w zero = rw (add-zero, bits_none) (omega arith)
bits-split b p w (suc v) =
    let h = bits-split b p w v in
    let e : bits_from b p (w + suc v) ≡ bits_from b p (w + v) * 2 + bit_at b (p + (w + v)) = rw (add-suc w v) (bits-suc b p (w + v)) in
    let f = bits-suc b (p + w) v in
    let g : bit_at b (p + (w + v)) ≡ bit_at b (p + w + v) = rw (add_assoc p w v) refl in
    let m : bits_from b p w * (2 ^ v * 2) ≡ bits_from b p w * 2 ^ v * 2 = sym (mul_assoc (bits_from b p w) (2 ^ v) 2) in
    rw (pow-suc 2 v) (omega (arith, h, e, f, g, m))

-- a bit of a field
pub bit-of : (b : List ℕ) (p w j : ℕ) → j < w → bit_at b (p + j) ≡ bits_from b p w / 2 ^ (w - suc j) % 2
bit-of b p w j h =
    let v = w - suc j in
    let e : w ≡ j + 1 + v = omega arith in
    let s = bits-split b p (j + 1) v in
    let m = bits-more b p j in
    let t = bit_below b (p + j) in
    let q : bits_from b p w / 2 ^ v ≡ bits_from b p (j + 1) = rw (ap (bits_from b p) e ∙ s)
    (high (bits_from b p (j + 1)) v (bits_below b (p + (j + 1)) v)) in
    rw (q, m) (omega arith)

bit-inside : (b : List ℕ) (p w s : ℕ) → p % 8 + w + s ≡ 7 → bit_at b (p + w) ≡ get_or b (p / 8) 0 / 2 ^ s % 2
unfolding bit_at
bit-inside b p w s h =
    let q : (p + w) / 8 ≡ p / 8 = omega arith in
    let r : 7 - (p + w) % 8 ≡ s = omega arith in
    rw (q, r) refl

-- bits that agree make equal fields
pub bits-same : (b d : List ℕ) (p w : ℕ) → ((j : ℕ) → j < w → bit_at b (p + j) ≡ bit_at d (p + j)) → bits_from b p w ≡ bits_from d p w
bits-same b d p zero f = bits_none b p ∙ sym (bits_none d p)
bits-same b d p (suc w) f =
    let h = bits-same b d p w (λ j l. f j (omega arith)) in
    let e = f w (omega arith) in
    rw (bits-suc b p w, bits-suc d p w) (omega arith)

-- equal fields have equal bits
pub same_bits : (b d : List ℕ) (p w : ℕ) → bits_from b p w ≡ bits_from d p w → (j : ℕ) → j < w → bit_at b (p + j) ≡ bit_at d (p + j)
same_bits b d p w e j h = bit-of b p w j h ∙ ap (λ x. x / 2 ^ (w - suc j) % 2) e ∙ sym (bit-of d p w j h)

-- a field inside one byte
bits-chunk : (b : List ℕ) (p w : ℕ) → p % 8 + w ≤ 8 → bits_from b p w ≡ get_or b (p / 8) 0 / 2 ^ (8 - p % 8 - w) % 2 ^ w
bits-chunk b p zero h = rw (bits_none b p) (omega arith)
bits-chunk b p (suc w) h =
    let x = get_or b (p / 8) 0 in
    let s = 8 - p % 8 - suc w in
    let e : 8 - p % 8 - w ≡ s + 1 = omega arith in
    let i = bits-chunk b p w (omega arith) in
    let y = bit-inside b p w s (omega arith) in
    let z = shr-shr x s 1 in
    let m : x / 2 ^ s % 2 ^ suc w ≡ (x / 2 ^ s / 2 ^ 1 % 2 ^ w) * 2 ^ 1 + x / 2 ^ s % 2 ^ 1 = ap (λ t. x / 2 ^ s % 2 ^ t)
    (sym (add-one w)) ∙ mod-pow-add (x / 2 ^ s) w 1 in
    let j : bits_from b p w ≡ x / 2 ^ s / 2 ^ 1 % 2 ^ w = rw z (i ∙ ap (λ t. x / 2 ^ t % 2 ^ w) e) in
    rw bits-suc (omega (arith, y, j, m))

-- a byte is the field at its eight bits
pub byte-bits : (b : List ℕ) (i : ℕ) → get_or b i 0 < 256 → bits_from b (8 * i) 8 ≡ get_or b i 0
byte-bits b i h =
    let r : (8 * i) % 8 ≡ 0 = omega arith in
    let q : 8 * i / 8 ≡ i = omega arith in
    let e = bits-chunk b (8 * i) 8 (omega arith) in
    e ∙ rw (r, q) (omega arith)

-- lists of bytes of one length with the same bits are equal
pub bytes_same : (b d : List ℕ) → length b ≡ length d → ((i : ℕ) → get_or b i 0 < 256) → ((i : ℕ) → get_or d i 0 < 256)
    → bits_from b 0 (8 * length b) ≡ bits_from d 0 (8 * length b) → b ≡ d
bytes_same b d e hb hd h =
    ext_get_or 0 b d e (λ i l.
    let at : (j : ℕ) → j < 8 → bit_at b (8 * i + j) ≡ bit_at d (8 * i + j) = λ j m.
    simp zero-add at (same_bits b d 0 (8 * length b) h (8 * i + j) (omega arith)) in
    sym (byte-bits b i (hb i)) ∙ bits-same b d (8 * i) 8 at ∙ byte-bits d i (hd i))

-- the bits of the first m bytes
pub bit-take : (b : List ℕ) (m q : ℕ) → q < 8 * m → bit_at (take m b) q ≡ bit_at b q
unfolding bit_at
bit-take b m q h = ap (λ x. x / 2 ^ (7 - q % 8) % 2) (get_or-take m b (q / 8) 0 (omega arith))

pub bits-take : (b : List ℕ) (m p w : ℕ) → p + w ≤ 8 * m → bits_from (take m b) p w ≡ bits_from b p w
bits-take b m p w h = bits-same (take m b) b p w (λ j l. bit-take b m (p + j) (omega arith))

-- the first m bytes are bytes
pub bytes_take : (b : List ℕ) (m : ℕ) → ((i : ℕ) → get_or b i 0 < 256) → (i : ℕ) → get_or (take m b) i 0 < 256
bytes_take b m h i =
    let t = length-take m b in
    elim (cases_lt i m) [
      | inl l ↦ rw (get_or-take m b i 0 l) (h i)
      | inr l ↦ let past : length (take m b) ≤ i = omega arith in rw (get_or_past (take m b) i 0 past) (omega arith)
    ]

-- one byte's part more
pub bits-step : (b : List ℕ) (p w s : ℕ) → (p + w) % 8 + s ≤ 8 → s < 64
    → bits_from b p (w + s) ≡ bits_from b p w * ((1 * 2 ^ s) % 2 ^ 64) + get_or b ((p + w) / 8) 0 / 2 ^ (8 - (p + w) % 8 - s) %
    ((1 * 2 ^ s) % 2 ^ 64)
bits-step b p w s h l = rw (one_shl s 64 l, bits-split b p w s, bits-chunk b (p + w) s h) refl

pub step_fits : (b : List ℕ) (p w s : ℕ) → w + s ≤ 64 → bits_from b p (w + s) < 2 ^ 64
step_fits b p w s h = let l = bits_below b p (w + s) in let m : 2 ^ (w + s) ≤ 2 ^ 64 = pow_mono h in omega arith
