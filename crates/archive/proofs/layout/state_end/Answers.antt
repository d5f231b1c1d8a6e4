use Rattle.std.proofs.Common.{◌≡◌, ℕ, ◌+◌, ◌*◌, List, [], ◌∷◌, ◌++◌, length, None, Option, sym, refl, ap, ◌∙◌, ap₂, subst, add-zero, arith}
use Rattle.std.proofs.lemmas.Result.{err_from_is_err_and}
use Rattle.archive.specs.declared.cursor.Cursor.{Cursor}
use Rattle.archive.specs.declared.fault.StateFault.{StateFault}
use Rattle.archive.specs.Cursors.{Moved, fault_at}
use Rattle.archive.specs.Layout.{header, rows, shift, linear, coupling, fill, copies, layout, size_at, rank_at}
use Rattle.archive.specs.Layout.{pairs, bits_before_fill, padded, state_fault, parts_at}
use Rattle.archive.proofs.Cursors.{Group, Left, past, halts}
use Rattle.archive.proofs.Steps.{stops, after-rows, after-copies}
use Rattle.archive.proofs.Whole.{few, end_is}
use Rattle.archive.proofs.layout.state_end.Goals as goal

-- what follows the header of a state of n qubits and dimension k with m couplings
abbrev body : ℕ → ℕ → ℕ → List Group
body n k m = (λ b p. rows b p n 0 k) ∷ (λ b p. shift b p n k ∷ []) ∷ (λ b p. copies k linear) ∷ (λ b p. copies m coupling)
    ∷ (λ b p. fill (p + bits_before_fill n k) ∷ []) ∷ []

-- the header is read, and the numbers in it are the reader's
module _ {c : Cursor} {n k : ℕ} (at : c.at ≡ c.start) (en : n ≡ size_at c.bytes.now c.start) (ek : k ≡ rank_at c.bytes.now c.start) where
  unread : Left (state_fault c.bytes.now c.start) c c 0 ((λ b p. header n) ∷ body n k (pairs k))
  unfolding state_fault parts_at
  unread = record {
    fault = ap (λ q. fault_at (record c { at = q }) (parts_at c.bytes.now c.start)) (sym at)
        ∙ ap₂ (λ m j. fault_at c (layout c.bytes.now c.start m j)) (sym en) (sym ek);
    moved = record { bytes = refl; start = refl; place = sym (add-zero c.at) };
  }

  headed : {c' : Cursor} → fault_at c (header (size_at c.bytes.now c.start)) ≡ None → Moved c c' 28
      → Left (state_fault c.bytes.now c.start) c c' 28 (body n k (pairs k))
  headed fine m = past unread (ap (λ m. fault_at c (header m)) en ∙ fine) m (omega arith)

-- the couplings are left, by the reader's number of them
counted : {o : Option StateFault} {s c : Cursor} {w m j : ℕ} {fill : Group} → j ≡ m
    → Left o s c w ((λ b p. copies m coupling) ∷ fill ∷ []) → Left o s c w ((λ b p. copies j coupling) ∷ fill ∷ [])
counted e left = rw e left

-- the place where the fill begins
at-fill : {o : Option StateFault} {s c : Cursor} {w : ℕ} (n k : ℕ) → s.at ≡ s.start
    → Left o s c w ((λ b p. fill (p + bits_before_fill n k) ∷ []) ∷ []) → w ≡ bits_before_fill n k
    → (c.at ≡ s.start + bits_before_fill n k) × (o ≡ fault_at c (fill c.at ∷ []))
at-fill {o} {s} {c} {w} n k at left e =
    let q : c.at ≡ s.start + bits_before_fill n k = omega (arith, left.moved.place, at, e) in
    (q, left.fault ∙ ap (λ t. fault_at c (fill t ∷ [])) (ap (λ p. p + bits_before_fill n k) left.moved.start ∙ sym q))

pub returns-in_err-shape-clause-verdict : goal.returns-in_err-shape-clause-verdict
unfolding state_fault parts_at
returns-in_err-shape-clause-verdict c =
    let e = err_from_is_err_and c.from_residual.result c.from_residual.ensures.1 in
    rw (e.1, e.2) (stops c.args.bytes.now _ (header _) _ _ c.in_err-shape.ensures.verdict)

pub returns-in_err-leads-clause-verdict : goal.returns-in_err-leads-clause-verdict
returns-in_err-leads-clause-verdict c =
    let h = c.in_ok-shape.ensures in
    let one = headed refl h.size h.rank h.verdict h.moved in
    let e = err_from_is_err_and c.from_residual-in_err-leads.result c.from_residual-in_err-leads.ensures.1 in
    rw (e.1, e.2) (halts one c.in_err-leads.ensures.verdict)

pub returns-in_err-shift-clause-verdict : goal.returns-in_err-shift-clause-verdict
returns-in_err-shift-clause-verdict c =
    let h = c.in_ok-shape.ensures in
    let r = c.in_ok-leads.ensures in
    let one = headed refl h.size h.rank h.verdict h.moved in
    let two = past one r.verdict r.moved (after-rows _ _ _ 0 _ _) in
    let e = err_from_is_err_and c.from_residual-in_err-shift.result c.from_residual-in_err-shift.ensures.1 in
    rw (e.1, e.2) (halts two c.in_err-shift.ensures.verdict)

pub returns-in_err-skip_all-clause-verdict : goal.returns-in_err-skip_all-clause-verdict
returns-in_err-skip_all-clause-verdict c =
    let h = c.in_ok-shape.ensures in
    let r = c.in_ok-leads.ensures in
    let s = c.in_ok-shift.ensures in
    let one = headed refl h.size h.rank h.verdict h.moved in
    let two = past one r.verdict r.moved (after-rows _ _ _ 0 _ _) in
    let three = past two s.verdict s.moved refl in
    let e = err_from_is_err_and c.from_residual-in_err-skip_all.result c.from_residual-in_err-skip_all.ensures.1 in
    rw (e.1, e.2) (halts three c.in_err-skip_all.ensures.verdict)

pub returns-in_err-skip_all-2-clause-verdict : goal.returns-in_err-skip_all-2-clause-verdict
returns-in_err-skip_all-2-clause-verdict c =
    let h = c.in_ok-shape.ensures in
    let r = c.in_ok-leads.ensures in
    let s = c.in_ok-shift.ensures in
    let l = c.in_ok-skip_all.ensures in
    let one = headed refl h.size h.rank h.verdict h.moved in
    let two = past one r.verdict r.moved (after-rows _ _ _ 0 _ _) in
    let three = past two s.verdict s.moved refl in
    let four = counted c.pairs.ensures.count (past three l.verdict l.moved (after-copies linear _ _)) in
    let e = err_from_is_err_and c.from_residual-in_err-skip_all-2.result c.from_residual-in_err-skip_all-2.ensures.1 in
    rw (e.1, e.2) (halts four c.in_err-skip_all-2.ensures.verdict)

pub returns-in_err-number_in-clause-verdict : goal.returns-in_err-number_in-clause-verdict
returns-in_err-number_in-clause-verdict c =
    let h = c.in_ok-shape.ensures in
    let r = c.in_ok-leads.ensures in
    let s = c.in_ok-shift.ensures in
    let l = c.in_ok-skip_all.ensures in
    let z = c.in_ok-skip_all-2.ensures in
    let j = c.pairs.ensures.count in
    let one = headed refl h.size h.rank h.verdict h.moved in
    let two = past one r.verdict r.moved (after-rows _ _ _ 0 _ _) in
    let three = past two s.verdict s.moved refl in
    let four = counted j (past three l.verdict l.moved (after-copies linear _ _)) in
    let five = past four z.verdict z.moved (after-copies coupling _ _) in
    let (_, fault) = at-fill c.in_ok-shape.shape.n c.in_ok-shape.shape.k refl five (omega (arith, j)) in
    let e = err_from_is_err_and c.from_residual-in_err-number_in.result c.from_residual-in_err-number_in.ensures.1 in
    rw (e.1, e.2) (fault ∙ c.in_err-number_in.ensures.verdict)

pub returns : goal.returns
returns c =
    let b = c.args.bytes.now in
    let p = c.args.start in
    let h = c.in_ok-shape.ensures in
    let r = c.in_ok-leads.ensures in
    let s = c.in_ok-shift.ensures in
    let l = c.in_ok-skip_all.ensures in
    let z = c.in_ok-skip_all-2.ensures in
    let f = c.in_ok-number_in.ensures in
    let j = c.pairs.ensures.count in
    let shape = c.in_ok-shape.shape in
    let n = shape.n in
    let k = shape.k in
    let one = headed refl h.size h.rank h.verdict h.moved in
    let two = past one r.verdict r.moved (after-rows _ _ _ 0 _ _) in
    let three = past two s.verdict s.moved refl in
    let four = counted j (past three l.verdict l.moved (after-copies linear _ _)) in
    let five = past four z.verdict z.moved (after-copies coupling _ _) in
    let (place, fault) = at-fill n k refl five (omega (arith, j)) in
    let few-bits = few k n shape.fewer shape.few in
    record {
      verdict = fault ∙ f.verdict;
      end = f.moved.place ∙ ap padded place ∙ sym (end_is b p n k h.size h.rank);
      near = omega (arith, f.moved.place, place);
      inside = omega (arith, f.there, f.moved.place, ap length five.moved.bytes);
    }
