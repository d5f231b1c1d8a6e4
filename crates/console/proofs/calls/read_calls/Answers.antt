use Rattle.std.proofs.Common.{[], ◌∷◌, ◌==◌, map, refl, inr, rules, tests, subst}
use Rattle.std.proofs.lemmas.Iterator.Consumers.{YieldsList-at, YieldsList-end}
use Rattle.std.proofs.lemmas.Iterator.Splits.{YieldsList-from_slice_split}
use Rattle.std.proofs.lemmas.List.{map-append}
use Rattle.circuit.specs.Made.{call_of}
use Rattle.console.specs.Parts.{IsCall}
use Rattle.console.specs.Words.{InTurn}
use Rattle.console.proofs.Spelled.{beside}
use Rattle.console.proofs.calls.read_calls.Goals as goal

pub loop-call-preserved : goal.loop-call-preserved
loop-call-preserved c =
    let (call, pushed, is) = c.in_ok-push_call.ensures in
    rw (pushed, map-append, map-append) (beside IsCall _ _ _ (c.in-Some.call.now ∷ []) [] c.loop-call.invariant (is, refl))

pub returns : goal.returns
returns c =
    let all = YieldsList-end (YieldsList-at c.into_iter-call-iterator.ensures.into_iter_gives
    (YieldsList-from_slice_split _ (λ b. b == 59) c.args.word.now c.split-call-items.ensures.rest c.split-call-items.ensures.done
    c.split-call-items.ensures.closure (λ x b q k. search (rules, tests))))
    c.loop-call.yielded _ c.loop-call.yielded_by _ _ c.in-None.is c.next.ensures.steps in
    inr (subst (λ ps. InTurn IsCall (map call_of c.loop-call.out.items) ps []) all.0 c.loop-call.invariant)
