-- What a Pauli operator makes of a phased space, and the sum of both.
use Rattle.std.specs.Prelude.{◌≡◌, ℕ, ◌+◌, ◌*◌, Option, bit_xor, count_ones}
use Rattle.cyclotomic.specs.Adjoin.{Omega, omegas}
use Rattle.cyclotomic.specs.Ring.{two, rpow}
use Rattle.quadratic.specs.Bits.{dot}
use Rattle.quadratic.specs.Moves.{turn}
use Rattle.quadratic.specs.Phase.{phase}
use Rattle.quadratic.specs.Sums.{term_of}
use Rattle.quadratic.specs.declared.affine.Outcome.{Outcome}
use Rattle.quadratic.specs.declared.affine.Outcome.TheVariants.{Unchanged, Empty, Restricted}
use Rattle.quadratic.specs.declared.phased.PhasedSpace.{PhasedSpace}
use Rattle.stabilizer.specs.declared.pauli.PauliMasks.{PauliMasks}

-- ω to the power of a phase, and 0 where there is none
abbrev pub term : Option ℕ → Omega
term = term_of omegas

-- the phase that the operator gives to y: it comes from y with the bits of the mask turned over
abbrev pub operated : PauliMasks → PhasedSpace → ℕ → Option ℕ
operated m s y = turn (2 * m.quarters + 4 * dot m.signs (bit_xor y m.flips)) (phase s (bit_xor y m.flips))

abbrev pub sum_at : PauliMasks → PhasedSpace → ℕ → Omega
sum_at m s y = omegas.plus (term (phase s y)) (term (operated m s y))

-- the sum is that of s' times a power of √2, by which the dimension falls from one more than it was
pub record Summed (m : PauliMasks) (s s' : PhasedSpace) : Type 0 where
  pub root : ℕ
  pub balance : count_ones s'.space.pivots + root ≡ count_ones s.space.pivots + 1
  pub sums : (y : ℕ) → sum_at m s y ≡ omegas.times (rpow omegas root) (term (phase s' y))

-- left as it was, since the operator does; nothing left; or another space
abbrev pub Effected : Outcome → PauliMasks → PhasedSpace → PhasedSpace → Type 0
Effected Unchanged m s s' = (s' ≡ s) × ((y : ℕ) → sum_at m s y ≡ omegas.times (two omegas) (term (phase s y)))
Effected Empty m s s' = (s' ≡ s) × ((y : ℕ) → sum_at m s y ≡ omegas.nil)
Effected Restricted m s s' = Summed m s s'
