use Rattle.std.proofs.Common.{◌*◌, sym, ap, ◌∙◌}
use Rattle.quadratic.proofs.Bitlaws.{bit_past}
use Rattle.quadratic.proofs.form.QuadraticForm.coupling.Goals as goal
use Rattle.quadratic.proofs.form.QuadraticForm.coupling.Goals.{then-p-ge48-via-then-p-ge48, then-p-ge48-via-else-p-ge48+then-q-ge48}

pub returns-then-p-ge48 : goal.returns-then-p-ge48
returns-then-p-ge48 c =
    let f = c.args.self.now in
    let p = c.args.p in
    let q = c.args.q in
    elim c.then-p-ge48.branch [
      | then-p-ge48-via-then-p-ge48 w ↦ sym (ap (λ b. 4 * b) (f.square p q ∙ bit_past 48 _ p (f.inside q) w.if-p-ge48.true))
      | then-p-ge48-via-else-p-ge48+then-q-ge48 w ↦ sym (ap (λ b. 4 * b) (bit_past 48 _ q (f.inside p) w.if-q-ge48.true))
    ]
