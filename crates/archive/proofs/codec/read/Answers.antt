use Rattle.std.proofs.lemmas.Result.{err_from_is_err_and}
use Rattle.archive.specs.Layout.{alone_verdicts, alone_fault}
use Rattle.archive.proofs.First.{first-none, first_some}
use Rattle.archive.proofs.Numbered.{laid_out}
use Rattle.archive.proofs.codec.read.Goals as goal

pub returns : goal.returns
unfolding alone_fault
returns c =
    let none = c.in_ok-alone.ensures.verdict in
    let b = c.args.bytes.now in
    record {
      verdict = none;
      first = first-none (alone_verdicts b) none;
      state = c.build.ensures;
      layout = laid_out c.build.result b none c.build.ensures;
    }

pub returns-in_err-alone-clause-first : goal.returns-in_err-alone-clause-first
unfolding alone_fault
returns-in_err-alone-clause-first c =
    let p = err_from_is_err_and c.from_residual.result c.from_residual.ensures.1 in
    rw (p.1, p.2) (first_some (alone_verdicts c.args.bytes.now) _ c.in_err-alone.ensures.verdict)
