use Rattle.std.proofs.Common.{arith, rules}
use Rattle.console.proofs.Known.{known}
use Rattle.console.specs.declared.command.Command.TheVariants.{Check, Host, View}
use Rattle.console.proofs.command.parse_bytes.Goals as goal

pub returns-in_err-bytes-in-check-clause-unknown : goal.returns-in_err-bytes-in-check-clause-unknown
returns-in_err-bytes-in-check-clause-unknown c = known _ Check c.args.operands.now c.args.verb.now (omega arith) (search rules)

pub returns-in_err-bytes-in-host-2-clause-unknown : goal.returns-in_err-bytes-in-host-2-clause-unknown
returns-in_err-bytes-in-host-2-clause-unknown c = known _ Host c.args.operands.now c.args.verb.now (omega arith) (search rules)

pub returns-in_err-bytes-in-host-3-clause-unknown : goal.returns-in_err-bytes-in-host-3-clause-unknown
returns-in_err-bytes-in-host-3-clause-unknown c = known _ Host c.args.operands.now c.args.verb.now (omega arith) (search rules)

pub returns-in_err-bytes-in-host-clause-unknown : goal.returns-in_err-bytes-in-host-clause-unknown
returns-in_err-bytes-in-host-clause-unknown c = known _ Host c.args.operands.now c.args.verb.now (omega arith) (search rules)

pub returns-in_err-bytes-in-view-clause-unknown : goal.returns-in_err-bytes-in-view-clause-unknown
returns-in_err-bytes-in-view-clause-unknown c = known _ (View 0) c.args.operands.now c.args.verb.now (omega arith) (search rules)

pub returns-in_err-index-in-view-clause-unknown : goal.returns-in_err-index-in-view-clause-unknown
returns-in_err-index-in-view-clause-unknown c = known _ (View 0) c.args.operands.now c.args.verb.now (omega arith) (search rules)
