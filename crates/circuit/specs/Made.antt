-- The calls that the code holds, as calls of the definitions.
use Rattle.std.specs.Prelude.{vec_items}
use Rattle.stabilizer.specs.Calls.{Call, gate, project}
use Rattle.circuit.specs.declared.call.Call.{Call as Held}
use Rattle.circuit.specs.declared.call.Call.TheVariants.{Gate, Project}

abbrev pub call_of : Held → Call
call_of (Gate kind first second) = gate kind first second
call_of (Project text) = project (vec_items text)
