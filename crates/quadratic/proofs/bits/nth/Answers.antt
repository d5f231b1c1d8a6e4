use Rattle.std.proofs.Common.{◌≡◌, ◌+◌, sym, ap, ◌∙◌, rules}
use Rattle.quadratic.specs.Numbering.{place}
use Rattle.quadratic.proofs.Numbering.{place-after, place-low, place_zero}
use Rattle.quadratic.proofs.bits.nth.Goals as goal

pub returns-in_err-passed : goal.returns-in_err-passed
returns-in_err-passed c =
    let none : c.args.a ≡ 0 = search rules in
    c.from_residual.ensures ∙ sym (ap (place 48 c.args.mask) none ∙ place_zero 48 c.args.mask)

pub returns : goal.returns
returns c =
    let (xs, (t, all, last), count) = c.nth.ensures.ran in
    let n = c.in_ok-passed.passed in
    let next : n + 1 ≡ c.args.a = search rules in
    let e = ap (λ x. x.left) c.rev.ensures.source ∙ c.set_bits.ensures in
    sym (ap (place 48 c.args.mask) (sym next) ∙ sym (place-low c.args.mask (n + 1)) ∙ ap (λ m. place 48 m (n + 1)) (sym e)
    ∙ place-after _ (λ s. s.iter.left) (λ s o u h. h) xs n c.nth.result c.rev.result t c.nth.new.self all last count)
