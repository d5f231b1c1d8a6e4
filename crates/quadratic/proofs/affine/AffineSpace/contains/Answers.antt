use Rattle.std.proofs.Common.{T, eqb, sym, ◌∙◌, subst, eqb→eq}
use lib.Dec.{eqb_refl}
use Rattle.quadratic.proofs.Laws.{holds, member}
use Rattle.quadratic.proofs.affine.AffineSpace.contains.Goals as goal

pub returns : goal.returns
returns c =
    let s = c.args.self.now in
    let y = c.args.y in
    let left = c.rest.result in
    let e = c.rest.ensures in
    record {
      sound = λ t. member s y (sym e ∙ eqb→eq left s.shift t);
      complete = λ m. subst (λ x. T (eqb left x)) (e ∙ holds s y m) (eqb_refl left);
    }
