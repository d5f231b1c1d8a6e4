-- The words of Writes, of the fields of a state that is written.
use Rattle.std.specs.Prelude.{◌≡◌, ℕ, ◌*◌, ◌<◌, List, slice_index}
use Rattle.quadratic.specs.Fields.{coefficient_at}
use Rattle.quadratic.specs.Quadratic.{link}
use Rattle.quadratic.specs.declared.phased.PhasedSpace.{PhasedSpace}
use Rattle.archive.specs.Bits.{bits_from}
use Rattle.archive.specs.Held.{linear_place, place_of_coupling}
use Rattle.archive.specs.Layout.{bits_before_fill}
use Rattle.archive.specs.Writes.{HeaderPut, RowsPut, FormPut}
use Rattle.archive.specs.declared.put.StateFields.{StateFields}

abbrev pub body_of : StateFields → PhasedSpace
body_of f = f.state.now.body

-- the place of the linear coefficient of row a, and of the coupling of rows a and c; and the bits before the fill
abbrev pub linear_from : StateFields → ℕ → ℕ
linear_from f a = linear_place 0 f.shape.n f.shape.k a

abbrev pub coupling_from : StateFields → ℕ → ℕ → ℕ
coupling_from f a c = place_of_coupling 0 f.shape.n f.shape.k a c

abbrev pub bits_of : StateFields → ℕ
bits_of f = bits_before_fill f.shape.n f.shape.k

-- what stands in a buffer: the fields before the rows, the rows and the shift, the coefficients, the couplings of row a
abbrev pub HeaderIn : StateFields → List ℕ → Type 0
HeaderIn f b = HeaderPut b f.shape.n f.shape.k f.state.now.loss (body_of f).form.phase

abbrev pub RowsIn : StateFields → List ℕ → Type 0
RowsIn f b = RowsPut b f.shape.n f.shape.k f.pivots.items (body_of f)

abbrev pub LinearIn : StateFields → List ℕ → Type 0
LinearIn f b = (a : ℕ) → a < f.shape.k → 2 * bits_from b (linear_from f a) 2 ≡ coefficient_at (body_of f) (slice_index f.pivots.items a)

abbrev pub CouplingsOfIn : StateFields → ℕ → List ℕ → Type 0
CouplingsOfIn f a b = (c : ℕ) → a < c → c < f.shape.k
    → bits_from b (coupling_from f a c) 1 ≡ link (body_of f).form.coupling (slice_index f.pivots.items a) (slice_index f.pivots.items c)

abbrev pub CouplingsIn : StateFields → List ℕ → Type 0
CouplingsIn f b = (a c : ℕ) → a < c → c < f.shape.k
    → bits_from b (coupling_from f a c) 1 ≡ link (body_of f).form.coupling (slice_index f.pivots.items a) (slice_index f.pivots.items c)

abbrev pub FormIn : StateFields → List ℕ → Type 0
FormIn f b = FormPut b f.shape.n f.shape.k f.pivots.items (body_of f)
