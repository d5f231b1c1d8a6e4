-- Hexadecimal digits as they are printed.
use Rattle.std.specs.Prelude.{◌≡◌, ℕ, ◌+◌, ◌-◌, ◌*◌, ◌/◌, ◌%◌, ◌<◌, true, cond, ◌⊎◌, List, [], ◌∷◌, ◌++◌, length, codes, is_some, Some, None, Option, nat_lt, slice_index}
use Rattle.std.specs.Option.{unwrap_or}
use Rattle.cyclotomic.specs.Columns.{glyph_of}

-- the number that a byte stands for as a digit, in small or capital letters
abbrev pub nibble_of : ℕ → Option ℕ
nibble_of b =
    cond (nat_lt b 48) None
    (cond (nat_lt b 58) (Some (b - 48))
    (cond (nat_lt b 65) None (cond (nat_lt b 71) (Some (b - 55)) (cond (nat_lt b 97) None (cond (nat_lt b 103) (Some (b - 87)) None)))))

-- each byte is a digit
abbrev pub Digits : List ℕ → Type 0
Digits w = (k : ℕ) → k < length w → is_some (nibble_of (slice_index w k)) ≡ true

-- `-`, or pairs of digits
abbrev pub Paired : List ℕ → Type 0
Paired w = (w ≡ 45 ∷ []) ⊎ ((0 < length w) × (length w % 2 ≡ 0) × Digits w)

-- the digits of such a word, `-` having none
abbrev pub digits_of : List ℕ → List ℕ
digits_of [] = []
digits_of (b ∷ []) = []
digits_of (b ∷ c ∷ w) = b ∷ c ∷ w

-- the byte of the pair with the number i, from 0
abbrev pub byte_at : List ℕ → ℕ → ℕ
byte_at w i = 16 * unwrap_or (nibble_of (slice_index w (2 * i))) 0 + unwrap_or (nibble_of (slice_index w (2 * i + 1))) 0

-- the bytes of all pairs
pub record Decoded (w bytes : List ℕ) : Type 0 where
  pub long : length bytes ≡ length w / 2
  pub each : (i : ℕ) → i < length w / 2 → slice_index bytes i ≡ byte_at w i

-- a byte as a pair of small digits; bytes as pairs, `-` standing for none
abbrev pub byte_text : ℕ → List ℕ
byte_text b = glyph_of (b / 16) ∷ glyph_of (b % 16) ∷ []

abbrev pub pairs_text : List ℕ → List ℕ
pairs_text [] = []
pairs_text (b ∷ bs) = byte_text b ++ pairs_text bs

abbrev pub hex_text : List ℕ → List ℕ
hex_text [] = codes "-"
hex_text (b ∷ bs) = pairs_text (b ∷ bs)
