use mathlib.Core.List.{map-append}
use Rattle.circuit.proofs.Walking.{walked_none, walked_more}
use Rattle.circuit.proofs.division.run.Goals as goal

pub loop-call-init : goal.loop-call-init
loop-call-init g c = λ ideal makes. walked_none c.args.state.now

pub loop-call-preserved : goal.loop-call-preserved
loop-call-preserved g c = λ ideal makes.
    let h = walked_more _ (ideal c.in-Some.call.now) c.args.state.now c.loop-call.state _ c.loop-call.met _
    (c.loop-call.invariant ideal makes) (makes _ _ _ _ c.make.ensures) in
    rw (c.max-met.ensures, c.from.ensures) (simp map-append h)

pub returns : goal.returns
returns g c = λ ideal makes.
    let all = rw c.into_iter-call-iterator.ensures.into_iter_gives at c.loop-call.yielded_by in
    (c.loop-call.yielded, (c.next.new.self, (c.loop-call.call-iterator, all, c.in-None.ensures.steps)), c.loop-call.invariant ideal makes)
