-- Why a state is denied, and a state of an archive: the archive's fault, or else a number that is not 1 to the count.
use Rattle.std.specs.Prelude.{ℕ, Bool, cond, ◌&&◌, List, Some, None, Option, nat_le}
use Rattle.cyclotomic.specs.declared.refusal.Refusal.TheVariants.{Index}
use Rattle.cyclotomic.specs.Refusals.{number_of}
use Rattle.archive.specs.declared.fault.ArchiveFault.{ArchiveFault}
use Rattle.archive.specs.declared.fault.Report.{Report}
use Rattle.archive.specs.declared.fault.StateFault.{StateFault}
use Rattle.archive.specs.declared.container.Denial.{Denial}
use Rattle.archive.specs.declared.container.Denial.TheVariants.{Fault, Refused}
use Rattle.archive.specs.Faults.{state_report}
use Rattle.archive.specs.Archives.{count_of, archive_fault}

-- the number of a denial by what its faults report, and that of one by a state's fault
abbrev pub number_by : {F : Type 0} → (F → Report) → Denial F → ℕ
number_by report (Fault f) = (report f).number
number_by report (Refused e) = number_of e

abbrev pub denial_number : Denial StateFault → ℕ
denial_number = number_by state_report

abbrev pub denial : Option ArchiveFault → Bool → Option (Denial ArchiveFault)
denial (Some f) known = Some (Fault f)
denial None known = cond known None (Some (Refused Index))

unfoldable pub denied : List ℕ → ℕ → Option (Denial ArchiveFault)
denied b i = denial (archive_fault b) (nat_le 1 i && nat_le i (count_of b))
