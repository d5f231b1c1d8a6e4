-- Pairs of states by their numbers, and a line for each.
use Rattle.std.specs.Prelude.{◌≡◌, ℕ, ◌+◌, ◌-◌, ◌<◌, ◌≤◌, ◌⊎◌, List, map, All, AllPairs, Contains, Some, drop, slice_get}
use Rattle.std.specs.List.{flat_map}
use Rattle.stabilizer.specs.declared.state.StabilizerState.{StabilizerState}
use Rattle.listing.specs.Lines.{LineTells, line_numbers}
use Rattle.listing.specs.Texts.{line_text}
use Rattle.listing.specs.Written.{ended}
use Rattle.listing.specs.declared.line.Line.{Line}

-- by the first number, and then by the second
abbrev pub Before : ℕ × ℕ → ℕ × ℕ → Type 0
Before p q = (p.0 < q.0) ⊎ ((p.0 ≡ q.0) × (p.1 < q.1))

-- just the pairs of numbers with P, each once, in rising order
pub record InOrder (P : ℕ × ℕ → Type 0) (ps : List (ℕ × ℕ)) : Type 0 where
  pub rising : AllPairs Before ps
  pub sound : All P ps
  pub complete : (p : ℕ × ℕ) → P p → Contains ps p

-- two different numbers of states, of which there are n, the smaller first
abbrev pub IsPair : ℕ → ℕ × ℕ → Type 0
IsPair n p = (1 ≤ p.0) × (p.0 < p.1) × (p.1 ≤ n)

-- those with the first number i
abbrev pub IsPairOf : ℕ → ℕ → ℕ × ℕ → Type 0
IsPairOf i n p = IsPair n p × (p.0 ≡ i)

-- t stands at the place i of the states, and these stand behind it
pub record StandsAt (states : List StabilizerState) (i : ℕ) (t : StabilizerState) (behind : List StabilizerState) : Type 0 where
  pub at : slice_get states i ≡ Some t
  pub rest : drop (i + 1) states ≡ behind

-- R holds of the states with these numbers, which count from 1
abbrev pub HoldsOf : (StabilizerState → StabilizerState → Type 0) → List StabilizerState → ℕ × ℕ → Type 0
HoldsOf R states p =
    (t s : StabilizerState) → slice_get states (p.0 - 1) ≡ Some t → slice_get states (p.1 - 1) ≡ Some s → R t s

-- the text has a line for each pair of numbers with P, in rising order, and each line tells of the states with its numbers
pub record Lines {A : Type 0}
    (shown : A → List ℕ)
    (R : A → StabilizerState → StabilizerState → Type 0)
    (states : List StabilizerState)
    (P : ℕ × ℕ → Type 0)
    (text : List ℕ) : Type 0 where
  pub lines : List (Line A)
  pub pairs : InOrder P (map line_numbers lines)
  pub told : All (λ l. HoldsOf (LineTells R l) states (line_numbers l)) lines
  pub written : text ≡ flat_map (λ l. ended (line_text shown l)) lines
