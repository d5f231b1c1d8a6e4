use Rattle.quadratic.specs.Value.{value_at}
use Rattle.quadratic.proofs.Sight.{wider, appended-wider}
use Rattle.quadratic.proofs.phased.PhasedSpace.append_row.Goals as goal

pub invariant_of-self : goal.invariant_of-self
invariant_of-self c =
    let s = c.args.self.now in
    let s' = c.append.new.self in record {
      idle = wider (value_at s.form) s.space.pivots s'.pivots
          (appended-wider c.append.result s.space s' c.args.row c.append.ensures) s.idle;
    }
