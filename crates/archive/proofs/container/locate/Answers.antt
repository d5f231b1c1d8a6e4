use Rattle.std.proofs.Common.{◌≡◌, ◌+◌, ◌-◌, sym, ap, ◌∙◌, zero-add, arith}
use Rattle.std.proofs.lemmas.Result.{err_from_is_err_and}
use Rattle.std.proofs.lemmas.Bool.Decides.{nat_tests}
use Rattle.archive.specs.Archives.{place_after}
use Rattle.archive.proofs.First.{none-some}
use Rattle.archive.proofs.States.{first-place, whole-bytes, place-rises, state-good}
use Rattle.archive.proofs.Denials.{by-fault, by_number, by-none, states-good}
use Rattle.archive.proofs.container.locate.Goals as goal

pub returns-in_err-count-clause-verdict : goal.returns-in_err-count-clause-verdict
returns-in_err-count-clause-verdict c =
    let p = err_from_is_err_and c.from_residual.result c.from_residual.ensures.1 in
    rw (p.1, p.2) (by-fault c.args.archive.now c.args.i _ c.in_err-count.ensures.verdict)

pub returns-then-i-lt1-clause-verdict : goal.returns-then-i-lt1-clause-verdict
returns-then-i-lt1-clause-verdict c =
    let h = c.in_ok-count.ensures in
    by_number c.args.archive.now c.args.i h.verdict (rw (sym h.count) (grind (arith, nat_tests, c.then-i-lt1.either)))

pub skip-requires : goal.skip-requires
skip-requires c =
    let h = c.in_ok-count.ensures in
    record {
      place = sym (first-place c.args.archive.now);
      near = omega arith;
      few = omega (arith, h.few);
      inside = omega (arith, h.some);
    }

pub returns-in_err-from : goal.returns-in_err-from
returns-in_err-from c =
    let h = c.in_ok-count.ensures in
    let good = states-good c.args.archive.now 0 (c.args.i - 1) h.some (omega (arith, h.count, h.few)) h.verdict (omega (arith, h.count)) in
    absurd (none-some _ (sym good ∙ c.in_err-from.ensures.verdict))

pub returns-in_err-to : goal.returns-in_err-to
returns-in_err-to c =
    let h = c.in_ok-count.ensures in
    let good = states-good c.args.archive.now (c.args.i - 1) 1 h.some (omega (arith, h.count, h.few)) h.verdict (omega (arith, h.count)) in
    absurd (none-some _ (sym good ∙ c.in_err-to.ensures.verdict))

pub returns : goal.returns
returns c =
    let b = c.args.archive.now in
    let i = c.args.i in
    let h = c.in_ok-count.ensures in
    let u = c.in_ok-from.ensures in
    let v = c.in_ok-to.ensures in
    let from : c.in_ok-from.from ≡ place_after b (i - 1) = u.place ∙ ap (place_after b) (zero-add (i - 1)) in
    let one : i - 1 + 1 ≡ i = omega arith in
    let to : c.in_ok-to.to ≡ place_after b i = v.place ∙ ap (place_after b) one in
    let w = whole-bytes b (i - 1) in
    let z = whole-bytes b i in
    let rise = place-rises b i in record {
      verdict = by-none b i h.verdict (rw (sym h.count) (grind (arith, nat_tests)));
      from = omega arith;
      to = omega arith;
      order = omega arith;
      inside = omega (arith, v.inside);
      near = omega (arith, u.near, h.few);
      sound = state-good b (i - 1) v.verdict;
    }
