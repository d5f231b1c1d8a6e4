use Rattle.std.proofs.Common.{[], map}
use Rattle.circuit.specs.Made.{call_of}
use Rattle.console.specs.Parts.{IsCall}
use Rattle.console.specs.Words.{InTurn}
use Rattle.console.proofs.calls.read_calls.Given as goal

abbrev pub invariant-loop-call : goal.invariant-loop-call
invariant-loop-call l = InTurn IsCall (map call_of l.out.items) (map (λ w. w.now) l.yielded) []
