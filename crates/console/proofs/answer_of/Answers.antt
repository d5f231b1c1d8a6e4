use Rattle.console.proofs.Running.{does}
use Rattle.console.proofs.answer_of.Goals as goal

pub returns-in-Ok-clause-done : goal.returns-in-Ok-clause-done
returns-in-Ok-clause-done c =
    does c.args.words.now c.run.result c.in-Ok.command c.parse.new.operands c.run.new.operands c.args.session.now c.run.new.self
    c.in-Ok.ensures.spelled c.run.ensures.ran c.run.ensures.looks
