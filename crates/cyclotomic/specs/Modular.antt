-- The numbers below n, as a ring.
use Rattle.std.specs.Prelude.{ℕ, ◌+◌, ◌-◌, ◌*◌, ◌%◌, ◌^◌, ◌<◌}
use Rattle.std.proofs.Common.{mod-lt, lit<}
use Rattle.cyclotomic.specs.Ring.{Ops}
use Rattle.cyclotomic.specs.Adjoin.{Pair, tower}

abbrev pub Below : ℕ → Type 0
Below n = (k : ℕ) × (k < n)

abbrev pub low : {n : ℕ} → 0 < n → ℕ → Below n
low {n} h k = (k % n, mod-lt k h)

abbrev pub residues : {n : ℕ} → 0 < n → ℕ → Ops (Below n)
residues {n} h w = record {
  nil = low h 0;
  one = low h 1;
  w = low h w;
  neg = λ x. low h (n - x.0);
  plus = λ x y. low h (x.0 + y.0);
  times = λ x y. low h (x.0 * y.0);
}

-- modulo 17, where 2^4 = -1
abbrev pub seventeen : Ops (Below 17)
seventeen = residues (lit< tt) 2

-- a0 + a1 w + a2 w^2 + a3 w^3 modulo 2^64
abbrev pub Quad : Type 0
Quad = Pair (Pair (Below (2 ^ 64)))

abbrev pub quads : Ops Quad
quads = tower (residues (lit< tt) 1)
