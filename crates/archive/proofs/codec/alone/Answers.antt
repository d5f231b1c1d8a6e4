use Rattle.std.proofs.Common.{◌%◌, ap, ◌∙◌, arith}
use Rattle.std.proofs.lemmas.Result.{err_from_is_err_and}
use Rattle.archive.proofs.Alone.{alone-bad, alone-more, alone-good, end_whole}
use Rattle.archive.proofs.codec.alone.Goals as goal

pub returns-in_err-end-clause-verdict : goal.returns-in_err-end-clause-verdict
returns-in_err-end-clause-verdict c =
    let p = err_from_is_err_and c.from_residual.result c.from_residual.ensures.1 in
    rw (p.1, p.2) (alone-bad c.args.bytes.now _ c.in_err-end.ensures.verdict)

pub returns-then-end-bytes-clause-verdict : goal.returns-then-end-bytes-clause-verdict
returns-then-end-bytes-clause-verdict c =
    let h = c.in_ok-end.ensures in
    let whole = ap (λ q. q % 8) h.end ∙ end_whole c.args.bytes.now 0 in
    alone-more c.args.bytes.now h.verdict c.in_ok-end.end h.end (omega arith)

pub returns : goal.returns
returns c =
    let h = c.in_ok-end.ensures in
    let whole = ap (λ q. q % 8) h.end ∙ end_whole c.args.bytes.now 0 in
    record {
      verdict = alone-good c.args.bytes.now h.verdict c.in_ok-end.end h.end (omega (arith, h.inside));
      sound = h.verdict;
    }
