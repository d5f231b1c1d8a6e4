use Rattle.std.proofs.Common.{◌+◌, ◌*◌, sym, ap₂, arith}
use Rattle.quadratic.proofs.Bitlaws.{bit_past}
use Rattle.quadratic.proofs.form.QuadraticForm.linear.Goals as goal

pub returns-then-p-ge48 : goal.returns-then-p-ge48
returns-then-p-ge48 c =
    let f = c.args.self.now in
    let far = c.if-p-ge48.true in
    record {
      value = sym
          (ap₂ (λ o n. 2 * o + 4 * n) (bit_past 48 f.odd c.args.p f.odds far) (bit_past 48 f.neg c.args.p f.negs far));
      bound = omega arith;
    }
