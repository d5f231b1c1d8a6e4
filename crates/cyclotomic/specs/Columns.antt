-- The hexadecimal digits of a number.
use Rattle.std.specs.Prelude.{ℕ, zero, suc, ◌-◌, ◌*◌, ◌/◌, ◌%◌, ◌^◌, ◌+◌, cond, nat_lt, List, [], ◌∷◌}

-- digit i, from the left, of the lowest n hexadecimal digits of x; 0 past the end
abbrev pub hex_at : ℕ → ℕ → ℕ → ℕ
hex_at n x i = cond (nat_lt i n) (x / 2 ^ (4 * (n - 1 - i)) % 16) 0

-- the byte that stands for a digit, in small letters
abbrev pub glyph_of : ℕ → ℕ
glyph_of d = cond (nat_lt d 10) (48 + d) (87 + d)

-- the digits f gives from a place on, n of them
abbrev pub glyphs : (ℕ → ℕ) → ℕ → ℕ → List ℕ
glyphs f at zero = []
glyphs f at (suc n) = glyph_of (f at) ∷ glyphs f (at + 1) n

-- the word at a place of four; 0 past the end
abbrev pub word_at : ℕ → ℕ → ℕ → ℕ → ℕ → ℕ
word_at a b c d zero = a
word_at a b c d (suc zero) = b
word_at a b c d (suc (suc zero)) = c
word_at a b c d (suc (suc (suc zero))) = d
word_at a b c d (suc (suc (suc (suc i)))) = 0
