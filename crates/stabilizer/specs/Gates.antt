-- The gates: their numbers, the qubits that each takes, and their matrices.
use Rattle.std.specs.Prelude.{ℕ, ◌-◌, ◌*◌, ◌^◌, Bool, cond, not, ◌&&◌, Some, None, Option, ◌==◌, bit_xor, nat_le}
use Rattle.quadratic.specs.Bits.{bit}
use Rattle.stabilizer.specs.declared.gate.Gate.{Gate}
use Rattle.stabilizer.specs.declared.gate.Gate.TheVariants.{X, Z, S, SDagger, CNot, CZ}

abbrev pub gate_numbered : ℕ → Option Gate
gate_numbered kind =
    cond (kind == 1) (Some X) (cond (kind == 2) (Some Z) (cond (kind == 3) (Some S)
    (cond (kind == 4) (Some SDagger) (cond (kind == 5) (Some CNot) (cond (kind == 6) (Some CZ) None)))))

abbrev pub number_of : Gate → ℕ
number_of X = 1
number_of Z = 2
number_of S = 3
number_of SDagger = 4
number_of CNot = 5
number_of CZ = 6

-- S and S† are each other's inverse, and every other gate is its own
abbrev pub inverse_of : Gate → Gate
inverse_of X = X
inverse_of Z = Z
inverse_of S = SDagger
inverse_of SDagger = S
inverse_of CNot = CNot
inverse_of CZ = CZ

abbrev pub is_qubit : ℕ → ℕ → Bool
is_qubit n j = nat_le 1 j && nat_le j n

-- one qubit, and 0 in the place of the second
abbrev pub alone : ℕ → ℕ → ℕ → Bool
alone n j l = is_qubit n j && l == 0

-- two different qubits
abbrev pub apart : ℕ → ℕ → ℕ → Bool
apart n j l = is_qubit n j && (is_qubit n l && not (j == l))

abbrev pub takes : Gate → ℕ → ℕ → ℕ → Bool
takes X n j l = alone n j l
takes Z n j l = alone n j l
takes S n j l = alone n j l
takes SDagger n j l = alone n j l
takes CNot n j l = apart n j l
takes CZ n j l = apart n j l

-- another kind is refused with 9, and then other qubits with 10
abbrev pub operands_number : Option Gate → ℕ → ℕ → ℕ → ℕ
operands_number (Some g) n j l = cond (takes g n j l) 0 10
operands_number None n j l = 9

abbrev pub gate_number : ℕ → ℕ → ℕ → ℕ → ℕ
gate_number n kind j l = operands_number (gate_numbered kind) n j l

-- A matrix with one entry in each row: in row y it has ω^(turn y), in the column `move y`.
pub record Monomial : Type 0 where
  pub turn : ℕ → ℕ
  pub move : ℕ → ℕ

-- the power of ω at a string whose first and second qubit have the bits a and b
abbrev pub turning : Gate → ℕ → ℕ → ℕ
turning X a b = 0
turning Z a b = 4 * a
turning S a b = 2 * a
turning SDagger a b = 6 * a
turning CNot a b = 0
turning CZ a b = 4 * (a * b)

-- what is flipped where the first qubit has the bit a; p and q have a 1 at the first and the second qubit
abbrev pub flipping : Gate → ℕ → ℕ → ℕ → ℕ
flipping X a p q = p
flipping Z a p q = 0
flipping S a p q = 0
flipping SDagger a p q = 0
flipping CNot a p q = a * q
flipping CZ a p q = 0

-- the matrix of a gate on qubits j and l of n: qubit j is bit n - j of a string
abbrev pub gate_matrix : ℕ → Gate → ℕ → ℕ → Monomial
gate_matrix n g j l = record {
  turn = λ y. turning g (bit y (n - j)) (bit y (n - l));
  move = λ y. bit_xor y (flipping g (bit y (n - j)) (2 ^ (n - j)) (2 ^ (n - l)));
}
