-- Rows and strings by number: row a is that of the a-th pivot from the top.
use Rattle.std.specs.Prelude.{ℕ, zero, suc, ◌+◌, ◌-◌, ◌*◌, ◌/◌, ◌%◌, ◌^◌, cond, Some, None, Option, ◌==◌}
use Rattle.quadratic.specs.Bits.{bit}

-- the position of the a-th set bit from the top, of those below n
unfoldable pub place : ℕ → ℕ → ℕ → Option ℕ
place zero mask a = None
place (suc n) mask a = cond (bit mask n == 1) (cond (a == 1) (Some n) (place n mask (a - 1))) (place n mask a)

-- the bits of c, the lowest first, at the set bits of the mask below n, the highest first
unfoldable pub spread : ℕ → ℕ → ℕ → ℕ
spread zero mask c = 0
spread (suc n) mask c = cond (bit mask n == 1) ((c % 2) * 2 ^ n + spread n mask (c / 2)) (spread n mask c)
