use Rattle.std.proofs.Common.{arith, codes, None, refl, rules}
use Rattle.console.proofs.Known.{known}
use Rattle.console.specs.declared.command.Command.TheVariants.{Embed, Split, Total}
use Rattle.std.proofs.lemmas.Slice.Eq.{text_from_reads}
use Rattle.console.specs.declared.command.RingName.TheVariants.{Mod17}
use Rattle.console.proofs.command.parse_rest.Goals as goal

pub returns-in-coordinates-clause-spelled : goal.returns-in-coordinates-clause-spelled
returns-in-coordinates-clause-spelled c = (text_from_reads c.args.verb.now (codes "coordinates") (omega arith) (search rules), refl)

pub returns-in_err-place-in-split-clause-unknown : goal.returns-in_err-place-in-split-clause-unknown
returns-in_err-place-in-split-clause-unknown c = known _ (Split 0) c.args.operands.now c.args.verb.now (omega arith) (search rules)

pub returns-in_err-read_calls-in-split-clause-unknown : goal.returns-in_err-read_calls-in-split-clause-unknown
returns-in_err-read_calls-in-split-clause-unknown c = known _ (Split 0) c.args.operands.now c.args.verb.now (omega arith) (search rules)

pub returns-in_err-ring-in-embed-clause-unknown : goal.returns-in_err-ring-in-embed-clause-unknown
returns-in_err-ring-in-embed-clause-unknown c =
    known _ (Embed Mod17 (record { term = None })) c.args.operands.now c.args.verb.now (omega arith) (search rules)

pub returns-in_err-ring-in-total-clause-unknown : goal.returns-in_err-ring-in-total-clause-unknown
returns-in_err-ring-in-total-clause-unknown c = known _ (Total Mod17 0) c.args.operands.now c.args.verb.now (omega arith) (search rules)

pub returns-in_err-scalar-in-embed-clause-unknown : goal.returns-in_err-scalar-in-embed-clause-unknown
returns-in_err-scalar-in-embed-clause-unknown c =
    known _ (Embed Mod17 (record { term = None })) c.args.operands.now c.args.verb.now (omega arith) (search rules)

pub returns-in_err-times-in-total-clause-unknown : goal.returns-in_err-times-in-total-clause-unknown
returns-in_err-times-in-total-clause-unknown c = known _ (Total Mod17 0) c.args.operands.now c.args.verb.now (omega arith) (search rules)

pub returns-in_err-word-in-split-clause-unknown : goal.returns-in_err-word-in-split-clause-unknown
returns-in_err-word-in-split-clause-unknown c = known _ (Split 0) c.args.operands.now c.args.verb.now (omega arith) (search rules)
