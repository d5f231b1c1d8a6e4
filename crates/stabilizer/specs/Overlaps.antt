-- What two states of one size have in common.
use Rattle.std.specs.Prelude.{◌≡◌, ℕ, zero, suc, ◌+◌, ◌≤◌, cond, ℤ, pos, ◌+ℤ◌, neg_ℤ, Ok, Err, Option, Result, IfSome, option_and_then, ◌==◌, count_ones}
use Rattle.cyclotomic.specs.Adjoin.{omegas}
use Rattle.cyclotomic.specs.Exact.{scaled, mirrored}
use Rattle.cyclotomic.specs.Scalars.{Triple, triple_of, nought, Kind, embedded}
use Rattle.cyclotomic.specs.declared.refusal.Refusal.{Refusal}
use Rattle.cyclotomic.specs.declared.scalar.Scalar.{Scalar}
use Rattle.quadratic.specs.Phase.{phase, less}
use Rattle.quadratic.specs.Sums.{total}
use Rattle.quadratic.specs.declared.intersection.Intersection.{Intersection}
use Rattle.stabilizer.specs.Vectors.{entry, inner}
use Rattle.stabilizer.specs.declared.state.StabilizerState.{StabilizerState}

-- states of different sizes are refused with 23
abbrev pub sizes_number : StabilizerState → StabilizerState → ℕ
sizes_number t s = cond (t.qubits == s.qubits) 0 23

abbrev pub phase_inside : Intersection → ℕ → Option ℕ
phase_inside x y = option_and_then (λ m. phase m y) x.space

-- the strings in both spaces, each with the phase of s less that of t
abbrev pub Intersects : Intersection → StabilizerState → StabilizerState → Type 0
Intersects x t s = (y : ℕ) → phase_inside x y ≡ less (phase s.body y) (phase t.body y)

-- among strings of n bits, the dimension is at least the sum of both less n
abbrev pub Roomy : Intersection → StabilizerState → StabilizerState → Type 0
Roomy x t s =
    IfSome x.space (λ m. count_ones t.body.space.pivots + count_ones s.body.space.pivots ≤ count_ones m.space.pivots + s.qubits)

-- the weight and the dimension of a state, taken from its amplitudes' power
abbrev pub depth : StabilizerState → ℕ
depth s = s.loss + count_ones s.body.space.pivots

-- a scalar with its power lowered; 0 stays
abbrev pub lowered_by : ℕ → ℤ → ℕ → ℕ → Triple
lowered_by zero p m k = nought
lowered_by (suc e) p m k = (1, p +ℤ neg_ℤ (pos k), m)

abbrev pub lowered : Triple → ℕ → Triple
lowered x k = lowered_by x.0 x.1 x.2 k

-- the overlap of t and s, as a triple: the sum over all strings of the conjugate of t's amplitude times that of s
pub record IsOverlap (t s : StabilizerState) (x : Triple) : Type 0 where
  pub kind : Kind x
  -- the power lies from -8240 to 0
  pub range : x.0 ≡ 1 → (a : ℕ) × (x.1 ≡ neg_ℤ (pos a)) × (a ≤ 8240)
  -- both sides times √2^8288, since each entry is an amplitude times √2^4144
  pub exact : scaled 8288 x ≡ inner t.qubits (entry t) (entry s)

abbrev pub Orthogonal : StabilizerState → StabilizerState → Type 0
Orthogonal t s = inner t.qubits (entry t) (entry s) ≡ omegas.nil

-- the overlap is the sum over all strings, 0 exactly where that is 0; and it is the exponential sum of the intersection, with the
-- powers of both states
pub record Overlaps (x : Scalar) (t s : StabilizerState) : Type 0 where
  pub is : IsOverlap t s (triple_of x)
  -- the overlap of s and t is the conjugate
  pub swapped : IsOverlap s t (mirrored (triple_of x))
  pub vanishes : (triple_of x).0 ≡ 0 → Orthogonal t s
  pub orthogonal : Orthogonal t s → (triple_of x).0 ≡ 0
  pub both : Intersection
  pub shared : Intersects both t s
  pub sum : Scalar
  pub exact : embedded omegas (triple_of sum) ≡ total omegas both
  pub value : triple_of x ≡ lowered (triple_of sum) (depth t + depth s)

abbrev pub Overlapping : Result Scalar Refusal → StabilizerState → StabilizerState → Type 0
Overlapping (Ok x) t s = Overlaps x t s
Overlapping (Err e) t s = Unit {0}
