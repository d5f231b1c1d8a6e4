use Rattle.std.proofs.Common.{◌≡◌, ℕ, ◌+◌, ◌-◌, ◌*◌, ◌^◌, ◌<◌, ◌≤◌, Bool, true, false, cond, List, length, Some, None, sym, refl, ap, ◌∙◌, subst, add-mul, one-mul, arith}
use Rattle.std.proofs.lemmas.Nat.{mul-le, one_shl}
use Rattle.std.proofs.lemmas.Result.{err_from_is_err_and}
use Rattle.archive.specs.declared.fault.StateFault.TheVariants.{Bits}
use Rattle.archive.specs.Bits.{bits_from}
use Rattle.archive.specs.Cursors.{Moved}
use Rattle.archive.specs.Layout.{lead, row, rows, off_leads, first_fault}
use Rattle.archive.proofs.Cursors.{then}
use Rattle.archive.proofs.Steps.{cut, fault-none}
use Rattle.archive.proofs.Rows.{Good, next_row, row-broken, row_more}
use Rattle.archive.proofs.cursor.Cursor.pivots.Goals as goal

-- what the answer of `pivot_of` says of a test
refused : (t : Bool) (x : ℕ) → None ≡ cond t (Some x) None → t ≡ false
refused true x e = let z : ◌≡◌ {A = ℕ} 0 1 = cc in absurd (omega arith)
refused false x e = refl

granted : (t : Bool) (x y : ℕ) → Some y ≡ cond t (Some x) None → (t ≡ true) × (y ≡ x)
granted true x y e = (refl, (cc))
granted false x y e = let z : ◌≡◌ {A = ℕ} 0 1 = cc in absurd (omega arith)

-- a field in the same bytes
there : (b d : List ℕ) (q : ℕ) → d ≡ b → q ≤ 8 * length d → q ≤ 8 * length b
there b d q e h = omega (arith, ap length e)

next : (a n : ℕ) → a * n + n ≡ (a + 1) * n
next a n = let m = add-mul a 1 n in let o = one-mul n in omega arith

near : (a n p : ℕ) → a ≤ 48 → n ≤ 48 → p ≤ 2 ^ 31 → p + 28 + a * n ≤ 2 ^ 32
near a n p h g f = omega (arith, mul-le a n 48 48 h g)

pub returns-in_err-row-clause-verdict : goal.returns-in_err-row-clause-verdict
returns-in_err-row-clause-verdict c =
    let s = c.args.self.now in
    let b = s.bytes.now in
    let w = c.loop.invariant in
    let h = c.in_err-row.ensures in
    let p = err_from_is_err_and c.from_residual.result c.from_residual.ensures.1 in
    rw (p.1, p.2) (ap (λ q. first_fault b q (rows b s.start c.args.shape.n 0 c.args.shape.k)) c.requires.place
    ∙ next_row _ _ _ _ _ _ _ _ _ c.loop-test.true w.rows
    ∙ cut b _ (row _ _ _ _) _ (omega (arith, h.short, ap length w.moved.bytes)) ∙ ap (λ f. Some (Bits f)) (sym h.fault))

pub returns-in_default-clause-verdict : goal.returns-in_default-clause-verdict
returns-in_default-clause-verdict c =
    let s = c.args.self.now in
    let b = s.bytes.now in
    let w = c.loop.invariant in
    let h = c.in_ok-row.ensures in
    let value = h.value ∙ ap (λ d. bits_from d c.loop.self.at c.args.shape.n) w.moved.bytes in
    ap (λ q. first_fault b q (rows b s.start c.args.shape.n 0 c.args.shape.k)) c.requires.place
    ∙ row-broken _ _ _ _ _ _ _ _ _ c.loop-test.true w.rows _ value (there b _ _ w.moved.bytes h.there)
    (refused (Good c.loop.above c.loop.seen c.in_ok-row.row) _ c.in_default.ensures)

pub loop-preserved : goal.loop-preserved
loop-preserved c =
    let b = c.args.self.now.bytes.now in
    let w = c.loop.invariant in
    let h = c.in_ok-row.ensures in
    let v = c.in_ok-row.row in
    let value = h.value ∙ ap (λ d. bits_from d c.loop.self.at c.args.shape.n) w.moved.bytes in
    let g = granted (Good c.loop.above c.loop.seen v) (lead v) c.in-Some.pivot c.in-Some.ensures in
    let low : lead v < 64 = omega arith in
    record {
      moved = subst (Moved c.args.self.now c.number.new.self) (next c.loop.counter c.args.shape.n) (then w.moved h.moved);
      rows = rw (h.moved.place, g.1, one_shl (lead v) 64 low) (row_more _ _ _ _ _ _ _ _ _ c.loop-test.true w.rows v value
          (there b _ _ w.moved.bytes h.there) g.0);
    }

pub returns : goal.returns
returns c =
    let s = c.args.self.now in
    let b = s.bytes.now in
    let w = c.loop.invariant in
    let full : c.loop.counter ≡ c.args.shape.k = omega arith in
    let none : c.args.shape.k - c.loop.counter ≡ 0 = omega arith in
    record {
      verdict = ap (λ q. first_fault b q (rows b s.start c.args.shape.n 0 c.args.shape.k)) c.requires.place ∙ w.rows.verdict
          ∙ ap (λ m. first_fault b c.loop.self.at (rows b s.start c.args.shape.n c.loop.counter m)) none ∙ fault-none b _;
      moved = subst (λ a. Moved s c.loop.self (a * c.args.shape.n)) full w.moved;
      mask = λ v. ap (off_leads b s.start c.args.shape.n v) (sym full) ∙ w.rows.off v;
    }
