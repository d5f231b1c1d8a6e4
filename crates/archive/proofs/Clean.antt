-- Fields that keep their rules have no fault.
use Rattle.std.proofs.Common.{◌≡◌, ℕ, zero, suc, ◌+◌, ◌*◌, ◌≤◌, true, ◌&&◌, leb, List, [], length, None, sym, refl, ap, ◌∙◌, suc-mul, add-mul, one-mul, arith}
use Rattle.std.proofs.lemmas.Bool.{le-leb, and_from, cond-true}
use Rattle.archive.specs.declared.fault.Field.{Field}
use Rattle.archive.specs.Bits.{bits_from}
use Rattle.archive.specs.Layout.{qubits, dimension, weight, phase, header, row, rows, shift, free}
use Rattle.archive.specs.Layout.{fill, copies, size_at, rank_at, row_at}
use Rattle.archive.specs.Layout.{pairs, bits_before_fill, first_fault, state_fault}
use Rattle.archive.specs.Held.{Sound}
use Rattle.archive.proofs.Sound.{rows-there}
use Rattle.archive.proofs.Steps.{fine, fault-none}
use Rattle.archive.proofs.Whole.{after-coupling}

in-range : (low high v : ℕ) → low ≤ v → v ≤ high → (leb low v && leb v high) ≡ true
in-range low high v l h = and_from _ _ (le-leb low v l) (le-leb v high h)

copies-none : (b : List ℕ) (x : Field) (w m q : ℕ) → q + m * w ≤ 8 * length b → first_fault b q (copies m (free x w)) ≡ None
copies-none b x w zero q h = fault-none b q
copies-none b x w (suc m) q h =
    let s = suc-mul m w in
    fine b q (free x w) _ _ refl (omega arith) refl ∙ copies-none b x w m (q + w) (omega arith)

module _ (b : List ℕ) (p n k : ℕ) (en : n ≡ size_at b p) (ek : k ≡ rank_at b p) (good : Sound b p n k) where
  header-none : first_fault b p (header n) ≡ None
  header-none =
      let long = good.long in
      let at : p + 6 + 6 ≡ p + 12 = omega arith in
      fine b p qubits _ n en (omega arith) (cond-true _ _ _ (in-range 1 48 n good.some good.few))
      ∙ fine b (p + 6) (dimension n) _ k ek (omega arith) (cond-true _ _ _ (in-range 0 n k (omega arith) good.fewer))
      ∙ fine b (p + 6 + 6) weight _ (bits_from b (p + 12) 13) (ap (λ q. bits_from b q 13) (sym at)) (omega arith)
      (cond-true _ _ _ (in-range 0 4096 _ (omega arith) good.light))
      ∙ fine b (p + 6 + 6 + 13) phase _ _ refl (omega arith) refl ∙ fault-none b _

  rows_none : (m a q : ℕ) → q ≡ p + 28 + a * n → a + m ≡ k → first_fault b q (rows b p n a m) ≡ None
  rows_none zero a q e h = fault-none b q
  rows_none (suc m) a q e h =
      let s = add-mul a 1 n in
      let o = one-mul n in
      fine b q (row b p n a) _ (row_at b p n a) (ap (λ t. bits_from b t n) (sym e)) (rw e (rows-there b p n k good a (omega arith)).0)
      (cond-true _ _ _ (good.rows a (omega arith)))
      ∙ rows_none m (a + 1) (q + n) (omega arith) (omega arith)

  pub clean : state_fault b p ≡ None
  clean =
      let long = good.long in
      let at = p + bits_before_fill n k in
      after-coupling b p n k en ek header-none (rows_none k 0 (p + 28) (omega arith) (omega arith))
      (fine b (p + 28 + k * n) (shift b p n k) [] _ refl (omega arith) (cond-true _ _ _ good.shift) ∙ fault-none b _)
      (copies-none b _ 2 k (p + 28 + k * n + n) (omega arith)) (copies-none b _ 1 (pairs k) (p + 28 + k * n + n + k * 2) (omega arith))
      ∙ fine b at (fill at) [] 0 (sym good.fill) long refl ∙ fault-none b _
