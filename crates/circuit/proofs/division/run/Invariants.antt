use Rattle.std.proofs.Common.{map}
use Rattle.stabilizer.specs.Calls.{Call}
use Rattle.circuit.specs.Splits.{MakesAs, Ran}
use Rattle.circuit.specs.declared.call.Call.{Call as Held}
use Rattle.circuit.proofs.division.run.Given as goal

abbrev pub invariant-loop-call : goal.invariant-loop-call
invariant-loop-call g l =
    (ideal : Held → Call) → MakesAs (goal.F-post g l.make) ideal → Ran (map (λ c. ideal c.now) l.yielded) l.initial.state l.met l.state
