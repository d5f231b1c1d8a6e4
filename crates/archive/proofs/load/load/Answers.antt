use Rattle.std.proofs.Common.{◌≡◌, ℕ, suc, ◌+◌, List, [], ◌∷◌, ◌++◌, length, vec_items, sym, ap, ◌∙◌, subst, add-zero, zero-add, arith, length-append}
use Rattle.stabilizer.specs.declared.state.StabilizerState.{StabilizerState}
use Rattle.archive.specs.Archives.{place_after}
use Rattle.archive.specs.Held.{Holds}
use Rattle.archive.specs.Layout.{state_fault}
use Rattle.archive.specs.Loads.{InTurn}
use Rattle.archive.proofs.First.{none-some}
use Rattle.archive.proofs.States.{first-place, state-good}
use Rattle.archive.proofs.Denials.{states-good}
use Rattle.archive.proofs.load.load.Goals as goal

-- one state more
one_more : (b : List ℕ) (i : ℕ) (ss : List StabilizerState) (s : StabilizerState) → InTurn b i ss
    → Holds b (place_after b (i + length ss)) s → InTurn b i (ss ++ s ∷ [])
one_more b i [] s t h = (subst (λ m. Holds b (place_after b m) s) (add-zero i) h, tt)
one_more b i (r ∷ ss) s t h =
    let e : i + suc (length ss) ≡ i + 1 + length ss = omega arith in
    (t.0, one_more b (i + 1) ss s t.1 (subst (λ m. Holds b (place_after b m) s) e h))

pub loop-i-init : goal.loop-i-init
loop-i-init c =
    let h = c.in_ok-count.ensures in
    let none = c.new-states.ensures.items in
    record {
      place = sym (first-place c.args.archive.now);
      near = omega arith;
      inside = omega (arith, h.some);
      count = c.new-states.ensures.len;
      long = ap length none;
      turn = subst (InTurn c.args.archive.now 0) (sym none) tt;
    }

pub returns-in_err-end : goal.returns-in_err-end
returns-in_err-end c =
    let h = c.in_ok-count.ensures in
    let good = states-good c.args.archive.now c.loop-i.i 1 h.some (omega (arith, h.count, h.few)) h.verdict (omega (arith, h.count)) in
    absurd (none-some _ (sym good ∙ c.in_err-end.ensures.verdict))

pub build-requires : goal.build-requires
build-requires c =
    let h = c.in_ok-count.ensures in
    record {
      near = omega (arith, c.loop-i.invariant.near, h.few);
      sound = ap (state_fault c.args.archive.now) c.loop-i.invariant.place ∙ state-good _ _ c.in_ok-end.ensures.verdict;
    }

pub loop-i-preserved : goal.loop-i-preserved
loop-i-preserved c =
    let b = c.args.archive.now in
    let i = c.loop-i.i in
    let u = c.in_ok-end.ensures in
    let p = c.in_ok-push.ensures in
    let ss = vec_items c.loop-i.states in
    let here : c.loop-i.at ≡ place_after b (0 + length ss) = c.loop-i.invariant.place
    ∙ ap (place_after b) (sym (zero-add (length ss) ∙ c.loop-i.invariant.long)) in record {
      place = u.place;
      near = u.near;
      inside = u.inside;
      count = p.len ∙ ap (λ m. m + 1) c.loop-i.invariant.count;
      long = ap length p.items ∙ length-append ss (c.build.result ∷ []) ∙ ap (λ m. m + 1) c.loop-i.invariant.long;
      turn = subst (InTurn b 0) (sym p.items)
          (one_more b 0 ss c.build.result c.loop-i.invariant.turn (subst (λ q. Holds b q c.build.result) here c.build.ensures));
    }
