use Rattle.std.proofs.Common.{rules, ap, take, drop, ◌∙◌}
use Rattle.std.proofs.lemmas.Iterator.{YieldsList-from_slice}
use Rattle.std.proofs.lemmas.Iterator.Adapters.{YieldsList-from_rev_slice}
use Rattle.std.proofs.lemmas.List.{take_min, drop_min}
use Rattle.circuit.specs.Made.{call_of}
use Rattle.circuit.specs.Runs.{inverse}
use Rattle.circuit.proofs.Walking.{walked-all, backwards-map, divides}
use Rattle.circuit.proofs.division.divide.Goals as goal

pub returns : goal.returns
returns c =
    let xs = c.args.calls.now in
    let place = c.args.place in
    let front = c.split_at.ensures.front ∙ ap (λ k. take k xs) c.min.ensures ∙ take_min place xs in
    let back = c.split_at.ensures.back ∙ ap (λ k. drop k xs) c.min.ensures ∙ drop_min place xs in
    let first = walked-all call_of _ _ _ (c.run-first.ensures call_of (λ call s r s' h. search rules))
    (YieldsList-from_slice (take place xs) cc) in
    let second = walked-all (λ x. inverse (call_of x)) _ _ _
    (c.run-second.ensures (λ x. inverse (call_of x)) (λ call s r s' h. search rules)) (YieldsList-from_rev_slice (drop place xs) cc) in
    rw (c.max.ensures) (divides xs place _ _ _ _ _ _ first (rw (backwards-map (drop place xs)) at second))
