-- The bits of a list of bytes, counted from 0, the most significant bit of a byte first.
use Rattle.std.specs.Prelude.{◌≡◌, ℕ, zero, suc, ◌+◌, ◌-◌, ◌*◌, ◌/◌, ◌%◌, ◌^◌, ◌<◌, ◌≤◌, List, slice_index}

-- the bit at a place; past the end it is 0
unfoldable pub bit_at : List ℕ → ℕ → ℕ
bit_at b i = slice_index b (i / 8) / 2 ^ (7 - i % 8) % 2

-- the number in the bits from a place on, a width of them
unfoldable pub bits_from : List ℕ → ℕ → ℕ → ℕ
bits_from b p zero = 0
bits_from b p (suc w) = bits_from b p w * 2 + bit_at b (p + w)

-- only bits from one place up to another changed
abbrev pub Framed : List ℕ → List ℕ → ℕ → ℕ → Type 0
Framed b b' from to = ((q : ℕ) → q < from → bit_at b' q ≡ bit_at b q) × ((q : ℕ) → to ≤ q → bit_at b' q ≡ bit_at b q)
