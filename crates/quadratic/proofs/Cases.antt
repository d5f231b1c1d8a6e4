-- An intersection is empty, or that of a space.
use Rattle.std.proofs.Common.{None, Some}
use Rattle.quadratic.specs.declared.intersection.Intersection.{Intersection}
use Rattle.quadratic.specs.declared.phased.PhasedSpace.{PhasedSpace}

abbrev pub empty : Intersection
empty = record { space = None }

abbrev pub of_space : PhasedSpace → Intersection
of_space s = record { space = Some s }

-- what holds of the empty intersection and of each space's holds of all
pub by_space : (P : Intersection → Type 0) → P empty → ((s : PhasedSpace) → P (of_space s)) → (x : Intersection) → P x
by_space P none some x = elim x.space as (λ o. P (record { space = o })) [ None ↦ none | Some s ↦ some s ]
