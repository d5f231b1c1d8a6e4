-- A state as a vector with an entry in Z[ω] for every string, and the inner product of two vectors.
use Rattle.std.specs.Prelude.{ℕ, ◌^◌}
use Rattle.cyclotomic.specs.Adjoin.{Omega, omegas, ints, conj}
use Rattle.cyclotomic.specs.Exact.{scaled}
use Rattle.cyclotomic.specs.Sum.{sum_to}
use Rattle.stabilizer.specs.States.{amplitude}
use Rattle.stabilizer.specs.declared.state.StabilizerState.{StabilizerState}

-- the amplitude at y times √2^4144: no amplitude has a power below -4144, so this is a number of Z[ω]
abbrev pub entry : StabilizerState → ℕ → Omega
entry s y = scaled 4144 (amplitude s y)

-- the sum over all strings of n bits of the conjugate of u's entry times v's
abbrev pub inner : ℕ → (ℕ → Omega) → (ℕ → Omega) → Omega
inner n u v = sum_to omegas (λ y. omegas.times (conj ints (u y)) (v y)) (2 ^ n)
