-- The numbers of a fault: each case of the three layers with what it reports.
use Rattle.std.specs.Prelude.{ℕ, List, ◌++◌, codes, decimal}
use Rattle.archive.specs.declared.fault.Field.{Field}
use Rattle.archive.specs.declared.fault.Field.TheVariants.{Count, Qubits, Dimension, Weight, Phase, Row}
use Rattle.archive.specs.declared.fault.Field.TheVariants.{Shift, Linear, Coupling, Fill, Rest}
use Rattle.archive.specs.declared.fault.Layer.{Layer}
use Rattle.archive.specs.declared.fault.Layer.TheVariants.{Bits as BitsLayer, State as StateLayer, Archive as ArchiveLayer}
use Rattle.archive.specs.declared.fault.Rule.{Rule}
use Rattle.archive.specs.declared.fault.Rule.TheVariants.{QubitRange, DimensionRange, WeightRange, EchelonForm, ZeroFill, NothingLeft}
use Rattle.archive.specs.declared.fault.BitsFault.{BitsFault}
use Rattle.archive.specs.declared.fault.StateFault.{StateFault}
use Rattle.archive.specs.declared.fault.StateFault.TheVariants.{Bits, Broken}
use Rattle.archive.specs.declared.fault.ArchiveFault.{ArchiveFault}
use Rattle.archive.specs.declared.fault.ArchiveFault.TheVariants.{State, Short, Overfull, LeftOver}
use Rattle.archive.specs.declared.fault.Report.{Report}

abbrev pub layer_number : Layer → ℕ
layer_number BitsLayer = 1
layer_number StateLayer = 2
layer_number ArchiveLayer = 3

abbrev pub field_number : Field → ℕ
field_number Count = 0
field_number Qubits = 1
field_number Dimension = 2
field_number Weight = 3
field_number Phase = 4
field_number Row = 5
field_number Shift = 6
field_number Linear = 7
field_number Coupling = 8
field_number Fill = 9
field_number Rest = 10

abbrev pub rule_number : Rule → ℕ
rule_number QubitRange = 2
rule_number DimensionRange = 3
rule_number WeightRange = 4
rule_number EchelonForm = 5
rule_number ZeroFill = 6
rule_number NothingLeft = 8

-- what a fault reports
abbrev pub bits_report : BitsFault → Report
bits_report f = record { layer = 1; number = 1; sheet = 0; field = field_number f.field; place = f.place }

abbrev pub state_report : StateFault → Report
state_report (Bits f) = bits_report f
state_report (Broken r x p) = record { layer = 2; number = rule_number r; sheet = 0; field = field_number x; place = p }

-- a report of the state with a number
abbrev pub of_sheet : ℕ → Report → Report
of_sheet i r = record { layer = r.layer; number = r.number; sheet = i; field = r.field; place = r.place }

abbrev pub archive_report : ArchiveFault → Report
archive_report (State i f) = of_sheet i (state_report f)
archive_report (Short f) = bits_report f
archive_report Overfull = record { layer = 3; number = 7; sheet = 0; field = 0; place = 0 }
archive_report (LeftOver p) = record { layer = 3; number = 8; sheet = 0; field = 10; place = p }

-- a fault as that of the state with the number i
abbrev pub numbered : ℕ → ArchiveFault → ArchiveFault
numbered i (State j f) = State i f
numbered i (Short f) = Short f
numbered i Overfull = Overfull
numbered i (LeftOver p) = LeftOver p

-- fault layer number sheet field place
abbrev pub fault_text : Report → List ℕ
fault_text r =
    codes "fault "
    ++ (decimal r.layer
    ++ (codes " "
    ++ (decimal r.number ++
    (codes " " ++ (decimal r.sheet ++ (codes " " ++ (decimal r.field ++ (codes " " ++ decimal r.place))))))))
