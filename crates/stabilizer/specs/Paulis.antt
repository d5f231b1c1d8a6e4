-- Paulis: a sign and a letter for each qubit, how they are written, and their matrices.
use Rattle.std.specs.Prelude.{ℕ, ◌+◌, ◌*◌, ◌^◌, cond, List, [], ◌∷◌, length, Some, None, Option, ◌==◌, bit_xor}
use Rattle.quadratic.specs.Bits.{bit}
use Rattle.stabilizer.specs.Gates.{Monomial}

pub data Letter : Type 0 where
  I X Y Z : Letter

-- the sign is 1 for minus
pub record Pauli : Type 0 where
  pub minus : ℕ
  pub letters : List Letter

-- a letter flips its bit or leaves it
abbrev pub flip : Letter → ℕ
flip I = 0
flip X = 1
flip Y = 1
flip Z = 0

-- the power of ω by which a letter multiplies a bit b: Y takes 0 to i, and 1 to -i
abbrev pub turn : Letter → ℕ → ℕ
turn I b = 0
turn X b = 0
turn Y b = 2 + 4 * b
turn Z b = 4 * b

-- the bits that letters flip, and what they multiply the string x by; the first letter has the highest bit
abbrev pub flips : List Letter → ℕ
flips [] = 0
flips (l ∷ ls) = flip l * 2 ^ length ls + flips ls

abbrev pub turns : List Letter → ℕ → ℕ
turns [] x = 0
turns (l ∷ ls) x = turn l (bit x (length ls)) + turns ls x

-- P takes the string x to x with bits flipped, times a power of ω: row y has its entry in the column of y flipped back
abbrev pub pauli_matrix : Pauli → Monomial
pauli_matrix P = record {
  turn = λ y. 4 * P.minus + turns P.letters (bit_xor y (flips P.letters));
  move = λ y. bit_xor y (flips P.letters);
}

-- ---- texts: + or -, then a letter for each qubit, in ASCII

abbrev pub sign_of : ℕ → Option ℕ
sign_of b = cond (b == 43) (Some 0) (cond (b == 45) (Some 1) None)

abbrev pub letter_of : ℕ → Option Letter
letter_of b = cond (b == 73) (Some I) (cond (b == 88) (Some X) (cond (b == 89) (Some Y) (cond (b == 90) (Some Z) None)))

abbrev pub joined : Option Letter → Option (List Letter) → Option (List Letter)
joined (Some l) (Some ls) = Some (l ∷ ls)
joined (Some l) None = None
joined None ls = None

abbrev pub letters_of : List ℕ → Option (List Letter)
letters_of [] = Some []
letters_of (b ∷ text) = joined (letter_of b) (letters_of text)

abbrev pub signed : Option ℕ → Option (List Letter) → Option Pauli
signed (Some e) (Some ls) = Some (record { minus = e; letters = ls })
signed (Some e) None = None
signed None ls = None

abbrev pub pauli_of : List ℕ → Option Pauli
pauli_of [] = None
pauli_of (b ∷ text) = signed (sign_of b) (letters_of text)

-- a text of another length is refused with 11, and then one that is no Pauli with 12
abbrev pub read_number : Option Pauli → ℕ
read_number (Some P) = 0
read_number None = 12

abbrev pub text_number : ℕ → List ℕ → ℕ
text_number n text = cond (length text == n + 1) (read_number (pauli_of text)) 11
