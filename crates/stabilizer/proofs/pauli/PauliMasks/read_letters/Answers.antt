use Rattle.std.proofs.Common.{rules, ◌≡◌, suc, length, [], ◌∷◌, ◌++◌, Err, refl, sym, ap, ◌∙◌}
use Rattle.std.proofs.lemmas.List.{nil_from_length}
use Rattle.std.proofs.lemmas.Result.{err_from_is_err_and}
use Rattle.stabilizer.proofs.Texts.{behind-more, below-place, masks-none, letter-more, letter-bad}
use Rattle.stabilizer.proofs.pauli.PauliMasks.read_letters.Goals as goal

pub loop-place-init : goal.loop-place-init
loop-place-init c =
    let none : c.default-masks.result ≡ record { flips = 0; signs = 0; quarters = 0 } = search rules in
    record { behind = []; whole = search rules; counted = search rules; masks = rw none (masks-none [] refl) }

-- the letter goes to the place above those that are read
pub with-requires-clause-flips : goal.with-requires-clause-flips
with-requires-clause-flips c =
    let i = c.loop-place.invariant in
    let p : c.in-Some.place ≡ length i.behind = search rules in
    rw p (below-place c.loop-place.masks i.behind i.masks).0

pub with-requires-clause-signs : goal.with-requires-clause-signs
with-requires-clause-signs c =
    let i = c.loop-place.invariant in
    let p : c.in-Some.place ≡ length i.behind = search rules in
    rw p (below-place c.loop-place.masks i.behind i.masks).1

pub with-requires-clause-quarters : goal.with-requires-clause-quarters
with-requires-clause-quarters c =
    let i = c.loop-place.invariant in
    let p : c.in-Some.place ≡ length i.behind = search rules in
    rw p (below-place c.loop-place.masks i.behind i.masks).2

pub returns-in_err-masks : goal.returns-in_err-masks
returns-in_err-masks c =
    let i = c.loop-place.invariant in
    let front = c.next.new.self.iter.iter.rest.now in
    let b = c.in-Some.field-0-1.now in
    let e : c.loop-place.place-iterator.iter.iter.rest.now ≡ front ++ (b ∷ []) = search rules in
    let p = err_from_is_err_and c.from_residual.result c.from_residual.ensures.1 in
    rw (p.1 ∙ ap (λ e. Err e) p.2) (rw (behind-more c.args.letters.now _ front i.behind b i.whole e)
    (letter-bad front i.behind b _ _ _ c.in_err-masks.ensures))

pub loop-place-preserved : goal.loop-place-preserved
loop-place-preserved c =
    let i = c.loop-place.invariant in
    let front = c.next.new.self.iter.iter.rest.now in
    let b = c.in-Some.field-0-1.now in
    let e : c.loop-place.place-iterator.iter.iter.rest.now ≡ front ++ (b ∷ []) = search rules in
    let q : c.next.new.self.count ≡ suc c.loop-place.place-iterator.count = search rules in
    let p : c.in-Some.place ≡ length i.behind = search rules in
    record {
      behind = b ∷ i.behind;
      whole = behind-more c.args.letters.now _ front i.behind b i.whole e;
      counted = ap suc i.counted ∙ sym q;
      masks = letter-more b i.behind c.loop-place.masks c.in_ok-masks.masks c.in-Some.place p i.masks c.in_ok-masks.ensures;
    }

pub returns : goal.returns
returns c =
    let i = c.loop-place.invariant in
    let z : length c.loop-place.place-iterator.iter.iter.rest.now ≡ 0 = search rules in
    rw (i.whole ∙ ap (λ r. r ++ i.behind) (nil_from_length _ z)) i.masks
