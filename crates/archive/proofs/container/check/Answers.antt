use Rattle.std.proofs.lemmas.Result.{err_from_is_err_and}
use Rattle.archive.specs.Archives.{archive_verdicts, archive_fault}
use Rattle.archive.proofs.First.{first-none, first_some}
use Rattle.archive.proofs.container.check.Goals as goal

pub returns-clause-first : goal.returns-clause-first
unfolding archive_fault
returns-clause-first c = first-none (archive_verdicts c.args.archive.now) c.in_ok-count.ensures.verdict

pub returns-in_err-count-clause-first : goal.returns-in_err-count-clause-first
unfolding archive_fault
returns-in_err-count-clause-first c =
    let p = err_from_is_err_and c.from_residual.result c.from_residual.ensures.1 in
    rw (p.1, p.2) (first_some (archive_verdicts c.args.archive.now) _ c.in_err-count.ensures.verdict)
