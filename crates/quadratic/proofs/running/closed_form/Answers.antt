use Rattle.std.proofs.Common.{◌∙◌}
use Rattle.quadratic.proofs.Closed.{closed}
use Rattle.quadratic.proofs.running.closed_form.Goals as goal

pub returns : goal.returns
returns g c =
    let x = c.exponential_sum in
    (rw c.unwrap.ensures at c.embed.ensures.value) ∙ closed g.R.Ring.laws c.args.x.now x.result x.ensures.bounds x.ensures.exact
