-- What a gate does to a phased space, by the positions of its qubits.
use Rattle.std.specs.Prelude.{◌≡◌, ℕ, ◌^◌, ◌<◌, ◌≢◌, bit_xor, count_ones}
use Rattle.quadratic.specs.Bits.{bit}
use Rattle.quadratic.specs.Moves.{turn}
use Rattle.quadratic.specs.Phase.{phase}
use Rattle.quadratic.specs.declared.phased.PhasedSpace.{PhasedSpace}
use Rattle.stabilizer.specs.Gates.{turning, flipping}
use Rattle.stabilizer.specs.declared.gate.Gate.{Gate}
use Rattle.stabilizer.specs.declared.gate.Gate.TheVariants.{X, Z, S, SDagger, CNot, CZ}

-- two different positions
abbrev pub Two : ℕ → ℕ → Type 0
Two a b = (a < 48) × (b < 48) × (a ≢ b)

abbrev pub Placed : Gate → ℕ → ℕ → Type 0
Placed X a b = a < 48
Placed Z a b = a < 48
Placed S a b = a < 48
Placed SDagger a b = a < 48
Placed CNot a b = Two a b
Placed CZ a b = Two a b

-- the phase at y is that at the string from which the matrix takes it, turned
pub record Moved (g : Gate) (a b : ℕ) (s s' : PhasedSpace) : Type 0 where
  pub phases : (y : ℕ) → phase s' y ≡ turn (turning g (bit y a) (bit y b)) (phase s (bit_xor y (flipping g (bit y a) (2 ^ a) (2 ^ b))))
  pub rows : count_ones s'.space.pivots ≡ count_ones s.space.pivots
