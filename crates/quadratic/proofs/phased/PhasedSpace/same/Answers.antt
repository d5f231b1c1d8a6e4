use Rattle.std.proofs.Common.{rules, ◌≡◌, length}
use Rattle.quadratic.proofs.Same.{alike-phases, same-fields, told, Alike}
use Rattle.quadratic.proofs.phased.PhasedSpace.same.Goals as goal

pub returns : goal.returns
returns c =
    let s = c.args.self.now in
    let t = c.args.other.now in
    let rows : length s.space.rows ≡ length t.space.rows = search rules in
    let couplings : length s.form.coupling ≡ length t.form.coupling = search rules in
    record {
      sound = λ b. alike-phases s t (told s t (search rules));
      complete = λ h. let a : Alike s t = same-fields s t rows couplings h in search rules;
    }
