-- The bits of a string, the parity of what two strings share, and combinations of rows.
use Rattle.std.specs.Prelude.{◌≡◌, ℕ, zero, suc, ◌+◌, ◌*◌, ◌/◌, ◌%◌, ◌^◌, ◌<◌, Bool, true, false, List, bit_and, bit_xor, count_ones, slice_index}

-- bit i of x
unfoldable pub bit : ℕ → ℕ → ℕ
bit x i = x / 2 ^ i % 2

-- the parity of the bits that two strings share
unfoldable pub dot : ℕ → ℕ → ℕ
dot x y = count_ones (bit_and x y) % 2

-- f 0 + .. + f (n - 1)
abbrev pub sum : (ℕ → ℕ) → ℕ → ℕ
sum f zero = 0
sum f (suc n) = sum f n + f n

-- f 0 * g 0 + .. + f (n - 1) * g (n - 1)
abbrev pub inner : (ℕ → ℕ) → (ℕ → ℕ) → ℕ → ℕ
inner f g = sum (λ b. f b * g b)

-- p is the place of the lowest set bit of x, and y is x without it
pub record Lowest (x p y : ℕ) : Type 0 where
  pub place : p < 48
  pub on : bit x p ≡ 1
  pub least : (q : ℕ) → q < p → bit x q ≡ 0
  pub rest : y ≡ bit_xor x (2 ^ p)

-- p is the place of the highest set bit of x, and y is x without it
pub record Highest (x p y : ℕ) : Type 0 where
  pub place : p < 48
  pub on : bit x p ≡ 1
  pub most : x < 2 ^ suc p
  pub rest : y ≡ bit_xor x (2 ^ p)

-- the table t' is t with the mask added to each row of `rows`
abbrev pub RowsXor : List ℕ → List ℕ → ℕ → ℕ → Type 0
RowsXor t t' rows mask = (k : ℕ) → slice_index t' k ≡ bit_xor (slice_index t k) (bit rows k * mask)

-- the sum of those of the first n rows that stand in c
abbrev pub span : (ℕ → ℕ) → ℕ → ℕ → ℕ
span R c zero = 0
span R c (suc n) = bit_xor (span R c n) (bit c n * R n)

-- a truth value as a bit
abbrev pub flag : Bool → ℕ
flag true = 1
flag false = 0
