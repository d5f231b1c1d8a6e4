use Rattle.std.proofs.Common.{◌≡◌, ℕ, ◌<◌, List, [], ◌∷◌, ◌++◌, length, take, get_or, refl, sym, ap, ◌∙◌, arith, append-nil}
use Rattle.std.proofs.Output.{has_written_append, has_written_of_eq}
use Rattle.std.proofs.lemmas.List.{take_more}
use Rattle.listing.specs.Digits.{byte_text, pairs_text}
use Rattle.listing.proofs.hex.HexBytesDisplay.fmt.Goals as goal

-- one byte more is one pair more
pairs-more : (bs : List ℕ) (b : ℕ) → pairs_text (bs ++ b ∷ []) ≡ pairs_text bs ++ byte_text b
pairs-more [] b = append-nil (byte_text b)
pairs-more (x ∷ bs) b = ap (λ (t : List ℕ). byte_text x ++ t) (pairs-more bs b)

pub loop-byte-preserved : goal.loop-byte-preserved
loop-byte-preserved g c = λ plain.
    let bytes = c.args.self.now.0.now in
    let i = c.loop-byte.byte-index in
    let b = get_or bytes i 0 in
    let within : i < length bytes = omega arith in
    let text = ap pairs_text (take_more bytes i 0 within) ∙ pairs-more (take i bytes) b in
    let so_far = c.loop-byte.invariant plain in
    has_written_of_eq _ _ _ _ _ (sym text)
    (has_written_append _ _ _ _ _ _ so_far (c.in_ok-write_byte.ensures so_far.plain refl))
