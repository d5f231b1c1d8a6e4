-- What loading a whole archive gives.
use Rattle.std.specs.Prelude.{ℕ, ◌+◌, List, [], ◌∷◌, Some, None, Option}
use Rattle.stabilizer.specs.declared.state.StabilizerState.{StabilizerState}
use Rattle.archive.specs.declared.fault.ArchiveFault.{ArchiveFault}
use Rattle.archive.specs.declared.load.LoadError.{LoadError}
use Rattle.archive.specs.declared.load.LoadError.TheVariants.{Archive, Memory}
use Rattle.archive.specs.Archives.{place_after}
use Rattle.archive.specs.Held.{Holds}

-- the states stand in the archive one after another, behind the first i
abbrev pub InTurn : List ℕ → ℕ → List StabilizerState → Type 0
InTurn b i [] = Unit {0}
InTurn b i (s ∷ ss) = Holds b (place_after b i) s × InTurn b (i + 1) ss

-- the archive's fault, which want of memory is not
abbrev pub fault_of : LoadError → Option ArchiveFault
fault_of (Archive f) = Some f
fault_of Memory = None
