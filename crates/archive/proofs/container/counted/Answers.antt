use Rattle.std.proofs.Common.{◌≡◌, ℕ, ◌+◌, ◌*◌, ◌<◌, ◌≤◌, List, length, Some, None, Option, sym, ap, ◌∙◌, zero-add, arith, rules}
use Rattle.std.proofs.lemmas.Result.{err_from_is_err_and}
use Rattle.std.proofs.lemmas.Bool.{lt-ltb, le-ltb, cond-true, cond-false}
use Rattle.archive.specs.declared.fault.ArchiveFault.{ArchiveFault}
use Rattle.archive.specs.declared.fault.ArchiveFault.TheVariants.{LeftOver}
use Rattle.archive.specs.First.{or_else}
use Rattle.archive.specs.Archives.{count_of, place_after, states_fault, archive_fault, rest_verdict}
use Rattle.archive.proofs.States.{first-place, no-count, high-count, states-rest}
use Rattle.archive.proofs.container.counted.Goals as goal

-- what follows from the states' verdict, by the reader's numbers
module _ (b : List ℕ) (n : ℕ) (en : n ≡ count_of b) (l : 0 < length b) (h : n ≤ 100) where
  over-states : (o : Option ArchiveFault) → states_fault b 0 n ≡ o → archive_fault b ≡ or_else o (rest_verdict b (place_after b n))
  over-states o e =
      states-rest b l (omega arith)
      ∙ ap (λ m. or_else (states_fault b 0 m) (rest_verdict b (place_after b m))) (sym en)
      ∙ ap (λ t. or_else t (rest_verdict b (place_after b n))) e

  module _ (q : ℕ) (e : q ≡ place_after b (0 + n)) where
    rest_of : rest_verdict b (place_after b n) ≡ rest_verdict b q
    rest_of = ap (rest_verdict b) (sym (e ∙ ap (place_after b) (zero-add n)))

    surplus : q < 8 * length b → rest_verdict b (place_after b n) ≡ Some (LeftOver q)
    surplus g = rest_of ∙ cond-true _ _ _ (lt-ltb q _ g)

    complete : 8 * length b ≤ q → rest_verdict b (place_after b n) ≡ None
    complete g = rest_of ∙ cond-false _ _ _ (le-ltb q _ g)

pub returns-in_default-clause-verdict : goal.returns-in_default-clause-verdict
returns-in_default-clause-verdict c = no-count c.args.archive.now (search rules) ∙ ap Some (sym c.from.ensures)

pub returns-then-count-gt-MOST_STATES-clause-verdict : goal.returns-then-count-gt-MOST_STATES-clause-verdict
returns-then-count-gt-MOST_STATES-clause-verdict c = high-count c.args.archive.now (search rules) (omega arith)

pub skip-requires : goal.skip-requires
skip-requires c =
    let some : 0 < length c.args.archive.now = search rules in
    record {
      place = sym (first-place c.args.archive.now);
      near = omega arith;
      few = omega arith;
      inside = omega arith;
    }

pub returns-in_err-end-clause-verdict : goal.returns-in_err-end-clause-verdict
returns-in_err-end-clause-verdict c =
    let p = err_from_is_err_and c.from_residual.result c.from_residual.ensures.1 in
    let some : 0 < length c.args.archive.now = search rules in
    rw (p.1, p.2) (over-states c.args.archive.now _ c.from-count.ensures some (omega arith) _ c.in_err-end.ensures.verdict)

pub returns-then-end-rest-clause-verdict : goal.returns-then-end-rest-clause-verdict
returns-then-end-rest-clause-verdict c =
    let b = c.args.archive.now in
    let h = c.in_ok-end.ensures in
    let some : 0 < length b = search rules in
    over-states b _ c.from-count.ensures some (omega arith) _ h.verdict
    ∙ surplus b _ c.from-count.ensures some (omega arith) c.in_ok-end.end h.place (omega arith)

pub returns : goal.returns
returns c =
    let b = c.args.archive.now in
    let h = c.in_ok-end.ensures in
    let some : 0 < length b = search rules in record {
      verdict = over-states b _ c.from-count.ensures some (omega arith) _ h.verdict
          ∙ complete b _ c.from-count.ensures some (omega arith) c.in_ok-end.end h.place (omega arith);
      count = c.from-count.ensures;
      few = omega arith;
      some = some;
    }
