use Rattle.std.proofs.Common.{rules, sym, ◌∙◌}
use Rattle.circuit.proofs.Walking.{comes_aside, comes_nought, comes_overlap, same_sizes, one_value}
use Rattle.circuit.proofs.division.split.Goals as goal

pub returns-in-Exhausted-clause-value : goal.returns-in-Exhausted-clause-value
returns-in-Exhausted-clause-value c = comes_aside c.divide.ensures c.in-Exhausted.is

pub returns-in-Exhausted-clause-one_value : goal.returns-in-Exhausted-clause-one_value
returns-in-Exhausted-clause-one_value c = one_value _ _ _

pub returns-in-Impossible-clause-value : goal.returns-in-Impossible-clause-value
returns-in-Impossible-clause-value c =
    let q = sym c.qubits.ensures ∙ c.if-qubits.false ∙ c.qubits-2.ensures in
    comes_nought c.divide.ensures c.zero.result q c.in-Impossible.is c.zero.ensures

pub returns-in-Impossible-clause-one_value : goal.returns-in-Impossible-clause-one_value
returns-in-Impossible-clause-one_value c = one_value _ _ _

pub returns-in_err-overlap-in-Neither-clause-number : goal.returns-in_err-overlap-in-Neither-clause-number
returns-in_err-overlap-in-Neither-clause-number c =
    search (rules, same_sizes c.divide.ensures)

pub returns-in_err-overlap-in-Neither-clause-one_value : goal.returns-in_err-overlap-in-Neither-clause-one_value
returns-in_err-overlap-in-Neither-clause-one_value c = one_value _ _ _

pub returns-in_ok-overlap-in-Neither-clause-value : goal.returns-in_ok-overlap-in-Neither-clause-value
returns-in_ok-overlap-in-Neither-clause-value c =
    let q = sym c.qubits.ensures ∙ c.if-qubits.false ∙ c.qubits-2.ensures in
    comes_overlap c.divide.ensures c.in_ok-overlap-in-Neither.field-0 q c.in-Neither.is c.in_ok-overlap-in-Neither.ensures.value.is

pub returns-in_ok-overlap-in-Neither-clause-one_value : goal.returns-in_ok-overlap-in-Neither-clause-one_value
returns-in_ok-overlap-in-Neither-clause-one_value c = one_value _ _ _
