use Rattle.std.proofs.Common.{◌≡◌, ℕ, ◌+◌, ◌≤◌, List, Some, length, get_or, inl, inr, refl, sym, ap, ap₂, ◌∙◌, subst, arith, length-drop}
use Rattle.std.proofs.lemmas.List.{get_or-drop}
use Rattle.std.proofs.lemmas.Option.{slice_get_read, slice_get_within}
use Rattle.std.specs.Prelude.{slice_get}
use Rattle.stabilizer.specs.declared.state.StabilizerState.{StabilizerState}
use Rattle.listing.specs.Lines.{LineTells}
use Rattle.listing.specs.Pairs.{IsPairOf, HoldsOf, StandsAt}
use Rattle.listing.proofs.Numbered.{Joined, HoldsOf-at, Writes-line, Writes-nil}
use Rattle.listing.proofs.pairs.write_pairs_of.Goals as goal

-- how many states there are
size : {states : List StabilizerState} {i : ℕ} {t : StabilizerState} {behind : List StabilizerState} → StandsAt states i t behind
    → length states ≡ i + 1 + length behind
size {states} {i} {t} {behind} stands =
    omega (arith, slice_get_within states i t stands.at, length-drop (i + 1) states, ap length stands.rest)

pub loop-k-init : goal.loop-k-init
loop-k-init g c = λ states stands.
    Writes-nil g.T.OfPair.text g.T.OfPair.tells states (IsPairOf (c.args.i + 1) (c.args.i + 1 + 0)) _
    (λ p h. omega arith)

-- the pairs up to j, and the one with j + 1
next : (i j m : ℕ) → 1 ≤ i → i ≤ j → m ≡ j + 1 → Joined (IsPairOf i j) (λ p. p ≡ (i, j + 1)) (IsPairOf i m)
next i j m k l e =
    record {
      apart = λ p q h e. inr (omega (arith, ap (λ (x : ℕ × ℕ). x.0) e), omega (arith, ap (λ (x : ℕ × ℕ). x.1) e));
      both = λ p h. elim h [ inl a ↦ (omega arith, omega arith) | inr b ↦ subst (IsPairOf i m) (sym b) (omega arith, refl) ];
      either = λ p h. grind arith;
    }

pub loop-k-preserved : goal.loop-k-preserved
loop-k-preserved g c = λ states stands.
    let i = c.args.i in
    let k = c.loop-k.k in
    let j = i + 1 + k in
    let line = c.new-line.result in
    let all = size stands in
    let second : slice_get states j ≡ Some c.index-behind-k.result =
    slice_get_read states (length states) j _ refl (omega arith)
    (c.index-behind-k.is ∙ (ap (λ ss. get_or ss k c.index-behind-k.result) (sym stands.rest) ∙ get_or-drop (i + 1) states k _)) in
    let told : HoldsOf (LineTells g.T.OfPair.tells line) states (i + 1, j + 1) =
    HoldsOf-at (LineTells g.T.OfPair.tells line) states i j _ _ stands.at second
    (record { number = c.new-line.ensures.number; told = c.new-line.ensures.told }) in
    Writes-line g.T.OfPair.text g.T.OfPair.tells states (IsPairOf (i + 1) j)
    (IsPairOf (i + 1) (i + 1 + (k + 1))) (g.O.Write.contents c.args.out.now) (g.O.Write.contents c.loop-k.out)
    (g.O.Write.contents c.writeln.new.self) line (i + 1, j + 1) (next (i + 1) j _ (omega arith) (omega arith) (omega arith))
    (c.loop-k.invariant states stands) (ap₂ (λ (a b : ℕ). (a, b)) c.new-line.ensures.first c.new-line.ensures.second) told
    c.in_ok-writeln.ensures.bytes
