use Rattle.std.proofs.Common.{◌+◌, ◌%◌, ap, ◌∙◌, arith}
use Rattle.quadratic.specs.Value.{value_at}
use Rattle.quadratic.proofs.Clear.{slope-at}
use Rattle.quadratic.proofs.form.QuadraticForm.slope.Goals as goal

pub returns : goal.returns
returns c =
    let f = c.args.self.now in
    record {
      value = slope-at f c.args.a c.args.c c.requires ∙ ap (λ r. (value_at f c.args.c + r) % 8) (omega arith);
      bound = omega arith;
    }
