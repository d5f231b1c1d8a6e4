use Rattle.std.proofs.Common.{◌≡◌, ℕ, ◌%◌, ◌^◌, ◌<◌, ℤ, sym, ap, ◌∙◌, mod-eq_of_lt, to_z-of_z, w64, to_z, of_z}
use lib.Signed.{mag}
use Rattle.cyclotomic.proofs.Conj.{four}
use Rattle.quadratic.proofs.Words.{total-sized, total-signed}
use Rattle.quadratic.proofs.coordinates.exact_coordinates.Goals as goal

-- a coordinate that was read off a word
read : (r : ℤ) (word own : ℕ) {t : ℕ} → mag r < 2 ^ 63 → r ≡ to_z w64 word → word < 2 ^ 64 → word ≡ own → own % 2 ^ 64 ≡ t
    → to_z w64 (of_z w64 r) ≡ to_z w64 t
read r word own f e l w t = to_z-of_z {w = w64} {z = r} (record { sfits = f }) ∙ e
    ∙ ap (to_z w64) (sym (mod-eq_of_lt l) ∙ ap (λ k. k % 2 ^ 64) w ∙ t)

pub returns : goal.returns
returns c =
    let sum = c.closed_form-sum.result in
    let x = c.args.x.now in
    let words = four
    (read c.cast_signed.result c.word.result sum.a0.0 c.cast_signed.type_inv c.cast_signed.ensures c.word.type_inv c.word.ensures
    (ap (λ z. z.re.re.0) c.closed_form-sum.ensures))
    (read c.cast_signed-2.result c.word-2.result sum.a1.0 c.cast_signed-2.type_inv c.cast_signed-2.ensures c.word-2.type_inv c.word-2.ensures
    (ap (λ z. z.im.re.0) c.closed_form-sum.ensures))
    (read c.cast_signed-3.result c.word-3.result sum.a2.0 c.cast_signed-3.type_inv c.cast_signed-3.ensures c.word-3.type_inv c.word-3.ensures
    (ap (λ z. z.re.im.0) c.closed_form-sum.ensures))
    (read c.cast_signed-4.result c.word-4.result sum.a3.0 c.cast_signed-4.type_inv c.cast_signed-4.ensures c.word-4.type_inv c.word-4.ensures
    (ap (λ z. z.im.im.0) c.closed_form-sum.ensures)) in
    record { words = words; exact = words ∙ total-signed x; sizes = total-sized x }
