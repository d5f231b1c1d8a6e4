use Rattle.std.proofs.Common.{Some, sym, ap, ◌∙◌}
use Rattle.quadratic.proofs.Phases.{phase-in, phase-out}
use Rattle.quadratic.proofs.phased.PhasedSpace.phase_at.Goals as goal

pub returns-then-contains : goal.returns-then-contains
returns-then-contains c = ap (λ x. Some x) c.value.ensures.value
    ∙ sym (phase-in c.args.self.now c.args.y (c.if-contains.ensures.sound tt))

pub returns-else-contains : goal.returns-else-contains
returns-else-contains c = sym (phase-out c.args.self.now c.args.y c.if-contains.ensures.complete)
