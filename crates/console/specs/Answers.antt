-- What an answer says of what a call of a library answered.
use Rattle.std.specs.Prelude.{◌≡◌, ℕ, Ok, Err, Result, Some, None, Option}
use Rattle.archive.specs.Faults.{archive_report}
use Rattle.archive.specs.declared.container.Denial.{Denial}
use Rattle.archive.specs.declared.container.Denial.TheVariants.{Fault as OfArchive, Refused as OfCall}
use Rattle.archive.specs.declared.fault.ArchiveFault.{ArchiveFault}
use Rattle.archive.specs.declared.fault.Report.{Report}
use Rattle.cyclotomic.specs.Modular.{Below, Quad, seventeen, quads}
use Rattle.cyclotomic.specs.Refusals.{answer_of}
use Rattle.cyclotomic.specs.Ring.{Ops}
use Rattle.cyclotomic.specs.declared.refusal.Refusal.{Refusal}
use Rattle.cyclotomic.specs.declared.scalar.Scalar.{Scalar}
use Rattle.listing.specs.Sums.{residue_of, quad_of}
use Rattle.console.specs.declared.answer.Answer.{Answer}
use Rattle.console.specs.declared.answer.Answer.TheVariants.{Done, Refused, Fault, Unreadable, Scalar as Shows, Aside}
use Rattle.console.specs.declared.answer.RingValue.{RingValue}
use Rattle.console.specs.declared.answer.RingValue.TheVariants.{Mod17 as Residue, Quad as Words}
use Rattle.console.specs.declared.command.RingName.{RingName}
use Rattle.console.specs.declared.command.RingName.TheVariants.{Mod17 as NamedResidue, Quad as NamedWords}

-- an answer that grants nothing
abbrev pub Denies : Answer → Type 0
Denies (Refused e) = Unit {0}
Denies (Fault f) = Unit {0}
Denies (Unreadable p) = Unit {0}
Denies a = ⊥

-- the answer to a call that may be refused
abbrev pub call_answer : Result Unit Refusal → Answer
call_answer (Ok u) = Done
call_answer (Err e) = Refused e

abbrev pub scalar_answer : Result Scalar Refusal → Answer
scalar_answer (Ok x) = Shows x
scalar_answer (Err e) = Refused e

abbrev pub split_answer : Result (Option Scalar) Refusal → Answer
split_answer (Ok (Some x)) = Shows x
split_answer (Ok None) = Aside
split_answer (Err e) = Refused e

-- the answer for a fault, and for what denies a state of an archive
abbrev pub fault_answer : Report → Answer
fault_answer r = Fault r

abbrev pub denial_answer : Denial ArchiveFault → Answer
denial_answer (OfArchive f) = fault_answer (archive_report f)
denial_answer (OfCall e) = Refused e

-- a is the answer to a call that came to something with P
pub record Answers {A : Type 0} (shown : Result A Refusal → Answer) (P : Result A Refusal → Type 0) (a : Answer) : Type 0 where
  pub result : Result A Refusal
  pub answer : a ≡ shown result
  pub holds : P result

-- a call came to the number n, and to a value with P
pub record Comes {A : Type 0} (n : ℕ) (P : Result A Refusal → Type 0) (r : Result A Refusal) : Type 0 where
  pub number : answer_of r ≡ n
  pub value : P r

-- a is the answer a', and P holds
pub record Said (a a' : Answer) (P : Type 0) : Type 0 where
  pub answer : a ≡ a'
  pub holds : P

-- a value of the ring with a name is the element that f gives in every ring
abbrev pub IsValue : RingName → RingValue → ((R : Type 0) → Ops R → R) → Type 0
IsValue NamedResidue (Residue v) f = residue_of v ≡ f (Below 17) seventeen
IsValue NamedWords (Words v) f = quad_of v ≡ f Quad quads
IsValue ring v f = ⊥
