use Rattle.std.proofs.Common.{◌<◌, ◌≢◌, length, ap, ◌∙◌, arith, length-set, get_or-set_other, get_or-set_same, rules, below_more}
use Rattle.cyclotomic.specs.Columns.{glyph_of}
use Rattle.listing.proofs.text.column_digits.Goals as goal

pub loop-place-preserved : goal.loop-place-preserved
loop-place-preserved g c =
    let place = c.loop-place.place in
    let within : place < length c.loop-place.digits = search rules in (
      simp length-set c.loop-place.invariant.0,
      below_more _ _
          (λ k h. let ne : k ≢ place = omega arith in rw get_or-set_other (c.loop-place.invariant.1 k h))
          (get_or-set_same c.loop-place.digits place c.glyph.result 0 within
          ∙ (c.glyph.ensures.small c.digit.ensures.small ∙ ap glyph_of c.digit.ensures.value)),
    )
