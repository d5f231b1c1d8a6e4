use Rattle.std.proofs.Common.{arith, rules}
use Rattle.console.proofs.Known.{known}
use Rattle.console.specs.declared.command.Command.TheVariants.{OnState}
use Rattle.console.specs.declared.command.Name.TheVariants.{S}
use Rattle.console.specs.declared.command.StateCommand.TheVariants.{Amplitude, Fields, Gate, Open, Project, Read, Take, Write}
use Rattle.console.proofs.command.parse_on_state.Goals as goal

pub returns-in-gate-clause-unknown : goal.returns-in-gate-clause-unknown
returns-in-gate-clause-unknown c =
    known c.parse_gate.result (OnState S (Gate 0 0 0)) c.args.operands.now c.args.verb.now (omega arith) (search rules)

pub returns-in-take-clause-unknown : goal.returns-in-take-clause-unknown
returns-in-take-clause-unknown c =
    known c.parse_take.result (OnState S (Take 0)) c.args.operands.now c.args.verb.now (omega arith) (search rules)

pub returns-in-write-clause-unknown : goal.returns-in-write-clause-unknown
returns-in-write-clause-unknown c =
    known c.parse_write.result (OnState S Write) c.args.operands.now c.args.verb.now (omega arith) (search rules)

pub returns-in_err-bytes-in-read-clause-unknown : goal.returns-in_err-bytes-in-read-clause-unknown
returns-in_err-bytes-in-read-clause-unknown c = known _ (OnState S Read) c.args.operands.now c.args.verb.now (omega arith) (search rules)

pub returns-in_err-name-in-amplitude-clause-unknown : goal.returns-in_err-name-in-amplitude-clause-unknown
returns-in_err-name-in-amplitude-clause-unknown c =
    known _ (OnState S (Amplitude 0)) c.args.operands.now c.args.verb.now (omega arith) (search rules)

pub returns-in_err-name-in-open-clause-unknown : goal.returns-in_err-name-in-open-clause-unknown
returns-in_err-name-in-open-clause-unknown c =
    known _ (OnState S (Open 0)) c.args.operands.now c.args.verb.now (omega arith) (search rules)

pub returns-in_err-name-in-project-clause-unknown : goal.returns-in_err-name-in-project-clause-unknown
returns-in_err-name-in-project-clause-unknown c =
    known _ (OnState S Project) c.args.operands.now c.args.verb.now (omega arith) (search rules)

pub returns-in_err-name-in-read-clause-unknown : goal.returns-in_err-name-in-read-clause-unknown
returns-in_err-name-in-read-clause-unknown c = known _ (OnState S Read) c.args.operands.now c.args.verb.now (omega arith) (search rules)

pub returns-in_err-named-in-fields-clause-unknown : goal.returns-in_err-named-in-fields-clause-unknown
returns-in_err-named-in-fields-clause-unknown c =
    known _ (OnState S Fields) c.args.operands.now c.args.verb.now (omega arith) (search rules)

pub returns-in_err-qubits-in-open-clause-unknown : goal.returns-in_err-qubits-in-open-clause-unknown
returns-in_err-qubits-in-open-clause-unknown c =
    known _ (OnState S (Open 0)) c.args.operands.now c.args.verb.now (omega arith) (search rules)

pub returns-in_err-read_text-in-project-clause-unknown : goal.returns-in_err-read_text-in-project-clause-unknown
returns-in_err-read_text-in-project-clause-unknown c =
    known _ (OnState S Project) c.args.operands.now c.args.verb.now (omega arith) (search rules)

pub returns-in_err-string-in-amplitude-clause-unknown : goal.returns-in_err-string-in-amplitude-clause-unknown
returns-in_err-string-in-amplitude-clause-unknown c =
    known _ (OnState S (Amplitude 0)) c.args.operands.now c.args.verb.now (omega arith) (search rules)

pub returns-in_err-word-in-project-clause-unknown : goal.returns-in_err-word-in-project-clause-unknown
returns-in_err-word-in-project-clause-unknown c =
    known _ (OnState S Project) c.args.operands.now c.args.verb.now (omega arith) (search rules)
