-- The columns of an intersection: the sum over all its strings, in each ring.
use Rattle.std.specs.Prelude.{◌≡◌, ℕ, ◌^◌, ◌<◌, ◌≤◌, Some, None, Option}
use Rattle.std.proofs.Common.{lit<}
use Rattle.std.specs.Option.{unwrap_or}
use Rattle.cyclotomic.specs.Adjoin.{quad}
use Rattle.cyclotomic.specs.Modular.{Below, Quad, seventeen, quads, low}
use Rattle.cyclotomic.specs.declared.mod17.Mod17.{Mod17}
use Rattle.cyclotomic.specs.declared.quads.Cyclotomic64.{Cyclotomic64}
use Rattle.quadratic.specs.Meets.{dimension_in}
use Rattle.quadratic.specs.Sums.{total}
use Rattle.quadratic.specs.declared.intersection.Intersection.{Intersection}
use Rattle.listing.specs.declared.columns.Columns.{Columns}

-- the element of each ring that a value stands for
abbrev pub residue_of : Mod17 → Below 17
residue_of x = low (lit< tt) x.residue

abbrev pub quad_of : Cyclotomic64 → Quad
quad_of x = quad (low {n = 2 ^ 64} (lit< tt) x.a0.0) (low (lit< tt) x.a1.0) (low (lit< tt) x.a2.0) (low (lit< tt) x.a3.0)

-- the number of dimensions, 0 for an empty intersection
abbrev pub dimension : Intersection → ℕ
dimension x = unwrap_or (dimension_in x) 0

pub record Summed (c : Columns) (x : Intersection) : Type 0 where
  pub few : dimension x ≤ 12
  pub residue : residue_of c.residue ≡ total seventeen x
  pub quad : quad_of c.quad ≡ total quads x

-- none over 12 dimensions
abbrev pub ColumnsOf : Option Columns → Intersection → Type 0
ColumnsOf None x = 12 < dimension x
ColumnsOf (Some c) x = Summed c x
