use Rattle.std.proofs.Common.{◌-◌, ◌^◌, ap, ◌∙◌}
use Rattle.cyclotomic.specs.Sum.{sum_to}
use Rattle.quadratic.specs.Running.{term_in}
use Rattle.quadratic.proofs.Added.{few, counted-all, all-added}
use Rattle.quadratic.proofs.running.total.Goals as goal

pub returns : goal.returns
returns g c =
    let o = g.R.Ring.ops in
    let x = c.args.x.now in
    let sum = c.added-sum.ensures in
    let all = sum.count ∙ counted-all (2 ^ 64 - 1) x (few x) in
    record { value = sum.value ∙ ap (sum_to o (term_in o x)) all ∙ all-added o x; count = all }
