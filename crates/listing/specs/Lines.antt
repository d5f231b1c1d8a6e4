-- What the lines say of two states.
use Rattle.std.specs.Prelude.{◌≡◌, ℕ, T, IfOk}
use Rattle.cyclotomic.specs.Refusals.{answer_of}
use Rattle.quadratic.specs.declared.intersection.Intersection.{Intersection}
use Rattle.stabilizer.specs.Overlaps.{sizes_number, Intersects, Overlaps}
use Rattle.stabilizer.specs.States.{SameState}
use Rattle.stabilizer.specs.declared.state.StabilizerState.{StabilizerState}
use Rattle.listing.specs.declared.comparison.Comparison.{Comparison}
use Rattle.listing.specs.declared.line.Line.{Line}
use Rattle.listing.specs.Sums.{ColumnsOf}

-- the overlap of t and s, the columns of their intersection, and whether the two are the same state
pub record Compares (c : Comparison) (t s : StabilizerState) : Type 0 where
  pub overlap : Overlaps c.overlap t s
  pub both : Intersection
  pub shared : Intersects both t s
  pub columns : ColumnsOf c.columns both
  pub sound : T c.equal → SameState t s
  pub complete : SameState t s → T c.equal

abbrev pub line_numbers : {A : Type 0} → Line A → ℕ × ℕ
line_numbers l = (l.i, l.j)

-- what a line says of two states, where R relates what is said to the two
pub record LineTells {A : Type 0} (R : A → StabilizerState → StabilizerState → Type 0) (l : Line A) (t s : StabilizerState) : Type 0 where
  pub number : answer_of l.outcome ≡ sizes_number t s
  pub told : IfOk l.outcome (λ x. R x t s)
