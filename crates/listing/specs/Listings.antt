-- What is written of a whole archive.
use Rattle.std.specs.Prelude.{◌≡◌, ℕ, List, ◌++◌, length, Some, None, Option, codes, decimal}
use Rattle.archive.specs.Archives.{count_of, archive_fault}
use Rattle.archive.specs.Faults.{archive_report, fault_text}
use Rattle.archive.specs.Loads.{InTurn}
use Rattle.archive.specs.declared.fault.ArchiveFault.{ArchiveFault}
use Rattle.stabilizer.specs.Overlaps.{Overlaps}
use Rattle.stabilizer.specs.declared.state.StabilizerState.{StabilizerState}
use Rattle.listing.specs.Fields.{state_lines}
use Rattle.listing.specs.Lines.{Compares}
use Rattle.listing.specs.Pairs.{IsPair, Lines}
use Rattle.listing.specs.Written.{ended}
use Rattle.listing.specs.Texts.{comparison_text, scalar_text}

-- the number of states
abbrev pub sheets_text : ℕ → List ℕ
sheets_text n = ended (codes "sheets " ++ decimal n)

-- the line of a fault
abbrev pub line_of_fault : ArchiveFault → List ℕ
line_of_fault f = ended (fault_text (archive_report f))

-- the listing of states: how many there are, and a line for each pair
pub record ListsStates (states : List StabilizerState) (text : List ℕ) : Type 0 where
  pub rest : List ℕ
  pub whole : text ≡ sheets_text (length states) ++ rest
  pub pairs : Lines comparison_text Compares states (IsPair (length states)) rest

-- the description of states: how many there are, the fields of each, and a line for each pair
pub record DescribesStates (states : List StabilizerState) (text : List ℕ) : Type 0 where
  pub rest : List ℕ
  pub whole : text ≡ sheets_text (length states) ++ (state_lines 1 states ++ rest)
  pub pairs : Lines scalar_text Overlaps states (IsPair (length states)) rest

-- the states of an archive in turn, and P of them and the text
pub record OnStates (P : List StabilizerState → List ℕ → Type 0) (archive text : List ℕ) : Type 0 where
  pub states : List StabilizerState
  pub count : length states ≡ count_of archive
  pub turn : InTurn archive 0 states
  pub told : P states text

-- for an archive with a fault its line, and for any other a text on its states
abbrev pub FaultOr : (List StabilizerState → List ℕ → Type 0) → Option ArchiveFault → List ℕ → List ℕ → Type 0
FaultOr P (Some f) archive text = text ≡ line_of_fault f
FaultOr P None archive text = OnStates P archive text

-- the text of an archive: P of its states, or the line of its fault
abbrev pub Reports : (List StabilizerState → List ℕ → Type 0) → List ℕ → List ℕ → Type 0
Reports P archive text = FaultOr P (archive_fault archive) archive text
