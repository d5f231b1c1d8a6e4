use Rattle.std.proofs.Common.{subst}
use Rattle.std.specs.Io.KnownBytes.{Appends}
use Rattle.listing.specs.Written.{ended}
use Rattle.console.specs.Lines.{Does}
use Rattle.console.specs.Replies.{reply_text}
use Rattle.console.proofs.Running.{on-ok}
use Rattle.console.proofs.answer_line.Goals as goal

pub returns-in_ok-answer-in_default-clause-replied : goal.returns-in_ok-answer-in_default-clause-replied
returns-in_ok-answer-in_default-clause-replied g c =
    let a = c.in_ok-answer-in_default.answer in
    on-ok c.writeln.result c.writeln.ensures.bytes (λ put spoken. record {
      answer = a;
      operands = c.answer_of.new.operands;
      done = subst (λ words. Does words c.args.session.now a c.answer_of.new.operands c.answer_of.new.session) c.without_end.ensures
          c.in_ok-answer-in_default.ensures.done;
      kept = c.in_ok-answer-in_default.ensures.kept;
      written = subst (λ b. Appends (g.O.Write.contents c.args.out.now) (g.O.Write.contents c.writeln.new.self) (ended (reply_text a b)))
          c.deref.ensures.value put;
    })
