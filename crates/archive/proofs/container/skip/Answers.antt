use Rattle.std.proofs.Common.{◌≡◌, ℕ, suc, ◌+◌, ◌-◌, ◌<◌, List, None, sym, ap, ◌∙◌, arith}
use Rattle.std.proofs.lemmas.Result.{err_from_is_err_and}
use Rattle.archive.specs.Layout.{end_of_state}
use Rattle.archive.specs.Archives.{place_after, states_fault}
use Rattle.archive.proofs.States.{next_place, no-states, then}
use Rattle.archive.proofs.container.skip.Goals as goal

-- one state is left
left-more : (b : List ℕ) (i m : ℕ) → i < m → states_fault b i (m - i) ≡ states_fault b i (suc (m - (i + 1)))
left-more b i m h = let e : m - i ≡ suc (m - (i + 1)) = omega arith in ap (states_fault b i) e

pub loop-i-preserved : goal.loop-i-preserved
loop-i-preserved c =
    let b = c.args.archive.now in
    let i = c.loop-i.i in
    let end = c.args.done + c.args.m in
    let w = c.loop-i.invariant in
    let h = c.in_ok-place.ensures in
    record {
      place = h.end ∙ ap (end_of_state b) w.place ∙ sym (next_place b i);
      near = omega (arith, h.near, w.near);
      inside = h.inside;
      left = w.left ∙ left-more b i end c.loop-i-test.true ∙ then b i (end - (i + 1)) _ w.place None h.verdict;
    }

pub returns-in_err-place-clause-verdict : goal.returns-in_err-place-clause-verdict
returns-in_err-place-clause-verdict c =
    let b = c.args.archive.now in
    let i = c.loop-i.i in
    let end = c.args.done + c.args.m in
    let w = c.loop-i.invariant in
    let p = err_from_is_err_and c.from_residual.result c.from_residual.ensures.1 in
    rw (p.1, p.2) (w.left ∙ left-more b i end c.loop-i-test.true
    ∙ then b i (end - (i + 1)) _ w.place _ c.in_err-place.ensures.verdict)

pub returns : goal.returns
returns c =
    let b = c.args.archive.now in
    let end = c.args.done + c.args.m in
    let full : c.loop-i.i ≡ end = omega (arith, c.loop-i.auto.i-end (omega arith)) in
    let none : end - c.loop-i.i ≡ 0 = omega arith in
    record {
      verdict = c.loop-i.invariant.left ∙ ap (states_fault b c.loop-i.i) none ∙ no-states b _;
      place = c.loop-i.invariant.place ∙ ap (place_after b) full;
      near = omega (arith, c.loop-i.invariant.near);
      inside = c.loop-i.invariant.inside;
    }
