use Rattle.std.proofs.Common.{◌≡◌, ℕ, suc, ◌+◌, ◌-◌, ◌*◌, ◌/◌, ◌<◌, ◌≤◌, List, length, get_or, take, drop, sym, ap, ◌∙◌, subst, ap₂, mul-one, arith, rules, length-drop}
use Rattle.std.proofs.Math.Seq.{take-length}
use Rattle.std.proofs.lemmas.List.{get_or-drop}
use Rattle.quadratic.specs.Fields.{coupling_between}
use Rattle.quadratic.specs.Quadratic.{link}
use Rattle.quadratic.specs.declared.phased.PhasedSpace.{PhasedSpace}
use Rattle.archive.specs.Bits.{bits_from}
use Rattle.archive.specs.Held.{place_of_coupling}
use Rattle.archive.proofs.Coefficients.{link-low}
use Rattle.archive.proofs.Pairs.{pairs-split}
use Rattle.archive.proofs.put.StateFields.put_couplings_of.Goals as goal

-- the place of the coupling with row c, and the place after the last
shifted : (n k a c first : ℕ) → first ≡ place_of_coupling 0 n k a (suc a) → a < c → first + (c - (a + 1)) * 1 ≡ place_of_coupling 0 n k a c
shifted n k a c first e l = let z : suc a - suc a ≡ 0 = omega arith in let m = mul-one (c - (a + 1)) in omega arith

last : (n k a first : ℕ) → first ≡ place_of_coupling 0 n k a (suc a)
    → first + (k - (a + 1)) * 1 ≡ place_of_coupling 0 n k (suc a) (suc (suc a))
last n k a first e =
    let z : suc a - suc a ≡ 0 = omega arith in
    let y : suc (suc a) - suc (suc a) ≡ 0 = omega arith in
    let m = mul-one (k - (a + 1)) in omega arith

-- the pivots from place i on
module _ (xs : List ℕ) (i : ℕ) where
  abbrev tail : List ℕ
  tail = take (length xs - i) (drop i xs)

  same : tail ≡ drop i xs
  same = subst (λ m. take m (drop i xs) ≡ drop i xs) (length-drop i xs) (take-length (drop i xs))

  tail-length : length tail ≡ length xs - i
  tail-length = ap length same ∙ length-drop i xs

  tail-at : (c : ℕ) → i ≤ c → get_or tail (c - i) 0 ≡ get_or xs c 0
  tail-at c h =
      let e : i + (c - i) ≡ c = omega arith in
      ap (λ ys. get_or ys (c - i) 0) same ∙ get_or-drop i xs (c - i) 0 ∙ ap (λ t. get_or xs t 0) e

quartered : (s : PhasedSpace) (p q x : ℕ) → x ≡ coupling_between s p q / 4 → (x ≡ link s.form.coupling p q) × (x < 2)
quartered s p q x e = (omega arith, omega (arith, link-low s.form p q))

pub put_each-requires-clause-room : goal.put_each-requires-clause-room
put_each-requires-clause-room c =
    let f = c.args.self.now in
    let k = f.shape.k in
    let a = c.args.a in
    let xs = c.as_slice-pivots.result.now in
    let count : length xs ≡ k = ap length c.as_slice-pivots.ensures.value ∙ sym f.rank in
    let e = last f.shape.n k a _ c.coupling.ensures.place in
    let y : suc (suc a) - suc (suc a) ≡ 0 = omega arith in
    let s = pairs-split k (suc a) (omega arith) in
    rw (tail-length xs (a + 1), count) (omega arith)

pub put_each-requires-clause-fits : goal.put_each-requires-clause-fits
put_each-requires-clause-fits c = λ j v l e.
    let s = c.body-body.result.now in
    let xs = c.as_slice-pivots.result.now in
    let p = get_or xs c.args.a 0 in
    let q = get_or (tail xs (c.args.a + 1)) j 0 in
    let h : v ≡ coupling_between s p q / 4 = search rules in
    (quartered s p q v h).1

pub returns-clause-there : goal.returns-clause-there
returns-clause-there c = λ j h l.
    let f = c.args.self.now in
    let xs = c.as_slice-pivots.result.now in
    let a = c.args.a in
    let i = j - (a + 1) in
    let s = c.body-body.result.now in
    let d = c.put_each.new.buffer in
    let p = get_or xs a 0 in
    let q = get_or (tail xs (a + 1)) i 0 in
    let count : length xs ≡ f.shape.k = ap length c.as_slice-pivots.ensures.value ∙ sym f.rank in
    let w = c.put_each.ensures.there i (omega (arith, tail-length xs (a + 1))) in
    let b : bits_from d (c.coupling.result + i * 1) 1 ≡ coupling_between s p q / 4 = search rules in
    ap (λ t. bits_from d t 1) (sym (shifted f.shape.n f.shape.k a j _ c.coupling.ensures.place h))
    ∙ (quartered s p q _ b).0 ∙ ap (link s.form.coupling p) (tail-at xs (a + 1) j (omega arith))
    ∙ ap₂ (λ t ys. link t.form.coupling (get_or ys a 0) (get_or ys j 0)) c.body-body.ensures c.as_slice-pivots.ensures.value
