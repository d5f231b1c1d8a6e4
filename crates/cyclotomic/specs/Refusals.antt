-- The number of each refusal, and of each answer.
use Rattle.std.specs.Prelude.{ℕ, Ok, Err, Result}
use Rattle.cyclotomic.specs.declared.refusal.Refusal.{Refusal}
use Rattle.cyclotomic.specs.declared.refusal.Refusal.TheVariants.{Qubits, Kind, Operands, TextLength, Letter}
use Rattle.cyclotomic.specs.declared.refusal.Refusal.TheVariants.{Buffer, StringNumber, Index, Impossible, Exhausted, Sizes, Finished}
use Rattle.cyclotomic.specs.declared.refusal.Refusal.TheVariants.{NegativePower}

abbrev pub number_of : Refusal → ℕ
number_of Qubits = 2
number_of Kind = 9
number_of Operands = 10
number_of TextLength = 11
number_of Letter = 12
number_of Buffer = 13
number_of StringNumber = 14
number_of Index = 15
number_of Impossible = 21
number_of Exhausted = 22
number_of Sizes = 23
number_of Finished = 24
number_of NegativePower = 25

-- 0 for a call that was granted, else the number of its refusal
abbrev pub answer_of : {T : Type 0} → Result T Refusal → ℕ
answer_of (Ok x) = 0
answer_of (Err e) = number_of e
