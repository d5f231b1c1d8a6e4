use Rattle.std.proofs.Common.{◌≡◌, ℕ, suc, ◌+◌, ◌-◌, ◌<◌, ◌≤◌, refl, ap, ◌∙◌, add-one, arith, below_more}
use Rattle.archive.specs.Held.{place_of_coupling, linear_place, pairs_before}
use Rattle.archive.specs.Layout.{bits_before_fill, pairs}
use Rattle.archive.specs.StateFields.{linear_from, coupling_from, bits_of}
use Rattle.archive.proofs.Frames.{keep-before, both, reframe}
use Rattle.archive.proofs.Pairs.{pairs-split, pairs-rise}
use Rattle.archive.proofs.put.StateFields.put_couplings.Goals as goal

-- a coupling of an earlier row ends before those of row a begin
earlier : (n k i j a : ℕ) → i < j → j < k → i < a → place_of_coupling 0 n k i j + 1 ≤ place_of_coupling 0 n k a (suc a)
earlier n k i j a h l m = let r = pairs-rise k (suc i) a m in let z : suc a - suc a ≡ 0 = omega arith in omega arith

-- the couplings begin after the linear coefficients, and end where the fill begins
begins : (n k a : ℕ) → linear_place 0 n k k ≤ place_of_coupling 0 n k a (suc a)
begins n k a = let z : suc a - suc a ≡ 0 = omega arith in omega arith

ends : (n k : ℕ) → place_of_coupling 0 n k k (suc k) ≡ bits_before_fill n k
ends n k = let z : suc k - suc k ≡ 0 = omega arith in let y : k - k ≡ 0 = omega arith in let s = pairs-split k k (omega arith)
    ∙ refl in rest y s z where
      rest : k - k ≡ 0 → pairs_before k k + pairs (k - k) ≡ pairs k → suc k - suc k ≡ 0
          → place_of_coupling 0 n k k (suc k) ≡ bits_before_fill n k
      rest y s z = let t = ap pairs y in omega arith

pub loop-a-preserved : goal.loop-a-preserved
loop-a-preserved c =
    let f = c.args.self.now in
    let n = f.shape.n in
    let k = f.shape.k in
    let a = c.loop-a.a in
    let d = c.put_couplings_of.new.buffer in
    let framed = c.put_couplings_of.ensures.framed in
    let from = coupling_from f a (suc a) in
    let to = coupling_from f (suc a) (suc (suc a)) in
    let rise : from ≤ to = let z : suc a - suc a ≡ 0 = omega arith in omega arith in
    record {
      there = below_more _ _
          (λ i h j l m. keep-before c.loop-a.buffer d from to (coupling_from f i j) 1 framed (earlier n k i j a l m h)
          ∙ c.loop-a.invariant.there i h j l m)
          c.put_couplings_of.ensures.there;
      framed = rw add-one (both c.args.buffer.now c.loop-a.buffer d (linear_from f k) from to (begins n k a) rise
          c.loop-a.invariant.framed framed);
    }

pub returns-clause-framed : goal.returns-clause-framed
returns-clause-framed c =
    let f = c.args.self.now in
    let k = f.shape.k in
    let full : c.loop-a.a ≡ k = omega arith in
    reframe c.args.buffer.now c.loop-a.buffer _ _ (linear_from f k) (bits_of f) refl
    (ap (λ a. coupling_from f a (suc a)) full ∙ ends f.shape.n k) c.loop-a.invariant.framed
