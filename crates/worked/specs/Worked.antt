-- Worked examples, said of every value with the fields in question.
use Rattle.std.specs.Prelude.{◌≡◌, ℕ, List, [], ◌∷◌, pos, negsuc, Some}
use Rattle.cyclotomic.specs.Modular.{Quad, quads, seventeen}
use Rattle.cyclotomic.specs.Scalars.{Triple, triple_of, nought}
use Rattle.cyclotomic.specs.declared.scalar.Scalar.{Scalar}
use Rattle.quadratic.specs.Meets.{dimension_in, phase_in, linear_in, coupling_in}
use Rattle.quadratic.specs.Sums.{IsSum, total}
use Rattle.quadratic.specs.declared.intersection.Intersection.{Intersection}
use Rattle.stabilizer.specs.Calls.{Step, project}
use Rattle.stabilizer.specs.Overlaps.{Intersects, Overlaps}
use Rattle.stabilizer.specs.States.{Opened}
use Rattle.stabilizer.specs.declared.state.StabilizerState.{StabilizerState}
use Rattle.archive.specs.Writes.{RunOf}

-- forms of no variable, of one, and of two coupled ones: the phase and the linear coefficients
pub record NoVariable (x : Intersection) (Q : ℕ) : Type 0 where
  pub dimension : dimension_in x ≡ Some 0
  pub phase : phase_in x ≡ Some Q

pub record OneVariable (x : Intersection) (Q D : ℕ) : Type 0 where
  pub dimension : dimension_in x ≡ Some 1
  pub phase : phase_in x ≡ Some Q
  pub linear : linear_in x 1 ≡ Some D

pub record Coupled (x : Intersection) (Q D E : ℕ) : Type 0 where
  pub dimension : dimension_in x ≡ Some 2
  pub phase : phase_in x ≡ Some Q
  pub first : linear_in x 1 ≡ Some D
  pub second : linear_in x 2 ≡ Some E
  pub coupling : coupling_in x 1 2 ≡ Some 4

-- every intersection of a kind has the exponential sum (ε, p, m)
abbrev pub Sums : (Intersection → Type 0) → Triple → Type 0
Sums P y = (x : Intersection) (r : Scalar) → P x → IsSum x r → triple_of r ≡ y

-- the bytes 04 10 00 88 and 04 10 00 89: one qubit, both strings with the amplitude 1/2, and the second turned to i/2
abbrev pub level : List ℕ
level = 4 ∷ 16 ∷ 0 ∷ 136 ∷ []

abbrev pub turned : List ℕ
turned = 4 ∷ 16 ∷ 0 ∷ 137 ∷ []

-- 04 10 01 79: the amplitudes 2^(-3/2) ω⁷ and 2^(-3/2) ω
abbrev pub apart : List ℕ
apart = 4 ∷ 16 ∷ 1 ∷ 121 ∷ []

-- the texts +X, +Y and -Z
abbrev pub plus_x : List ℕ
plus_x = 43 ∷ 88 ∷ []

abbrev pub plus_y : List ℕ
plus_y = 43 ∷ 89 ∷ []

abbrev pub minus_z : List ℕ
minus_z = 45 ∷ 90 ∷ []

-- a projection of s on a text answers 0 and leaves a state with the bytes b
abbrev pub Leaves : StabilizerState → List ℕ → List ℕ → Type 0
Leaves s text b = (a : ℕ) (s' : StabilizerState) → Step (project text) s a s' → (a ≡ 0) × RunOf s' b

-- what holds of every intersection of a state with the bytes b and one with the bytes d
abbrev pub Between : List ℕ → List ℕ → (Intersection → Type 0) → Type 0
Between b d P = (t s : StabilizerState) (x : Intersection) → RunOf t b → RunOf s d → Intersects x t s → P x

abbrev pub words_of : Quad → ℕ × ℕ × ℕ × ℕ
words_of z = (z.re.re.0, z.im.re.0, z.re.im.0, z.im.im.0)

-- the examples; y is the overlap in one of them, and z the overlap in the other order
pub record WorkedExamples (y z : Triple) : Type 0 where
  -- ω⁵
  pub one_string : Sums (λ x. NoVariable x 5) (1, pos 0, 5)
  -- 1 + i and 1 - 1
  pub quarter_turn : Sums (λ x. OneVariable x 0 2) (1, pos 1, 1)
  pub half_turn : Sums (λ x. OneVariable x 0 4) nought
  -- 1 + 1 + 1 - 1, 1 + i + i + 1 and 1 + i - i - 1
  pub coupled : Sums (λ x. Coupled x 0 0 0) (1, pos 2, 0)
  pub coupled_turns : Sums (λ x. Coupled x 0 2 2) (1, pos 3, 1)
  pub opposite_turns : Sums (λ x. Coupled x 0 2 6) nought
  -- (1 + i)/4, and (1 - i)/4 in the other order, of the sum 1 + i, which is 5 modulo 17 and (1, 0, 1, 0) modulo 2^64
  pub answer : y ≡ (1, negsuc 2, 1)
  pub conjugate : z ≡ (1, negsuc 2, 7)
  pub overlap : (t s : StabilizerState) (x : Scalar) → RunOf t level → RunOf s turned → Overlaps x t s → triple_of x ≡ y
  pub swapped : (t s : StabilizerState) (x : Scalar) → RunOf t turned → RunOf s level → Overlaps x t s → triple_of x ≡ z
  pub sum : Between level turned (λ x. (r : Scalar) → IsSum x r → triple_of r ≡ (1, pos 1, 1))
  pub residue : Between level turned (λ x. (total seventeen x).0 ≡ 5)
  pub words : Between level turned (λ x. words_of (total quads x) ≡ (1, 0, 1, 0))
  -- projections of the opened state, with amplitude 1 at 0, and of the state with the amplitude 1/2 at both strings
  pub onto_x : (s : StabilizerState) → Opened s 1 → Leaves s plus_x level
  pub onto_y : (s : StabilizerState) → Opened s 1 → Leaves s plus_y turned
  pub onto_minus_z : (s : StabilizerState) → Opened s 1 → (a : ℕ) (s' : StabilizerState) → Step (project minus_z) s a s' → a ≡ 21
  pub level_onto_y : (s : StabilizerState) → RunOf s level → Leaves s plus_y apart
