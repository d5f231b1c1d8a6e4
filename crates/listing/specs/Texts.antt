-- The text of each part of a listing.
use Rattle.std.specs.Prelude.{ℕ, Bool, true, false, List, ◌++◌, Some, None, Ok, Err, codes, decimal, Option, Result}
use Rattle.cyclotomic.specs.Scalars.{triple_of}
use Rattle.cyclotomic.specs.Texts.{refusal_text, residue_text, triple_text, words_text}
use Rattle.cyclotomic.specs.declared.refusal.Refusal.{Refusal}
use Rattle.cyclotomic.specs.declared.scalar.Scalar.{Scalar}
use Rattle.listing.specs.declared.columns.Columns.{Columns}
use Rattle.listing.specs.declared.comparison.Comparison.{Comparison}
use Rattle.listing.specs.declared.line.Line.{Line}

-- ε p m
abbrev pub scalar_text : Scalar → List ℕ
scalar_text x = triple_text (triple_of x)

-- two digits of a residue; four words of sixteen
abbrev pub columns_text : Option Columns → List ℕ
columns_text None = codes "-- --"
columns_text (Some c) = residue_text c.residue.residue ++ (codes " " ++ words_text c.quad.a0.0 c.quad.a1.0 c.quad.a2.0 c.quad.a3.0)

abbrev pub mark_text : Bool → List ℕ
mark_text true = codes "="
mark_text false = codes "."

-- overlap, columns, and whether the states are the same
abbrev pub comparison_text : Comparison → List ℕ
comparison_text c = scalar_text c.overlap ++ (codes " " ++ (columns_text c.columns ++ (codes " " ++ mark_text c.equal)))

-- what is said, or the refusal
abbrev pub outcome_text : {A : Type 0} → (A → List ℕ) → Result A Refusal → List ℕ
outcome_text text (Ok x) = text x
outcome_text text (Err e) = refusal_text e

-- i j, and what is said of the two: ε p m residue quad mark in a listing and ε p m in a description, or refused 23
abbrev pub line_text : {A : Type 0} → (A → List ℕ) → Line A → List ℕ
line_text text l = decimal l.i ++ (codes " " ++ (decimal l.j ++ (codes " " ++ outcome_text text l.outcome)))
