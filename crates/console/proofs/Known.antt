-- First words that commands have.
use Rattle.std.proofs.Common.{◌≡◌, List, ℕ, Ok, Err, Result, IfErr, length, sym}
use Rattle.std.proofs.lemmas.Slice.Eq.{HasBytesAt, text_from_reads}
use Rattle.console.specs.Spelling.{verb_of, parts_of, IsUnknown}
use Rattle.console.specs.declared.command.Command.{Command}
use Rattle.console.specs.declared.command.Operands.{Operands}
use Rattle.console.specs.declared.problem.Problem.{Problem}
use Rattle.console.specs.declared.problem.Problem.TheVariants.{UnknownCommand}

-- a word that is a command's is not unknown, whatever was answered
pub known : (r : Result Command Problem) (command : Command) (o : Operands) (word : List ℕ)
    → length word ≡ length (verb_of (parts_of command o)) → HasBytesAt word 0 (verb_of (parts_of command o))
    → IfErr r (λ p. IsUnknown word → p ≡ UnknownCommand)
known (Ok a) command o word long read = tt
known (Err p) command o word long read = λ h. absurd (h command o (sym (text_from_reads word (verb_of (parts_of command o)) long read)))
