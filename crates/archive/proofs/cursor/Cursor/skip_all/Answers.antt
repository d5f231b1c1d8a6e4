use Rattle.std.proofs.Common.{◌≡◌, ℕ, suc, ◌+◌, ◌-◌, ◌*◌, ◌<◌, ◌∷◌, Some, sym, refl, ap, ◌∙◌, subst, add-mul, one-mul, arith}
use Rattle.std.proofs.lemmas.Result.{err_from_is_err_and}
use Rattle.archive.specs.declared.fault.StateFault.TheVariants.{Bits}
use Rattle.archive.specs.Cursors.{Moved, fault_at}
use Rattle.archive.specs.Layout.{Part, free, copies}
use Rattle.archive.proofs.Cursors.{then, moved-fault}
use Rattle.archive.proofs.Steps.{cut, fine, fault-none}
use Rattle.archive.proofs.cursor.Cursor.skip_all.Goals as goal

copies-more : (i m : ℕ) (x : Part) → i < m → copies (m - i) x ≡ x ∷ copies (m - (i + 1)) x
copies-more i m x h = let e : m - i ≡ suc (m - (i + 1)) = omega arith in rw e refl

next : (i w : ℕ) → i * w + w ≡ (i + 1) * w
next i w = let m = add-mul i 1 w in let o = one-mul w in omega arith

pub returns-in_err-skip-clause-verdict : goal.returns-in_err-skip-clause-verdict
returns-in_err-skip-clause-verdict c =
    let x = free c.args.field c.args.width in
    let h = c.in_err-skip.ensures in
    let p = err_from_is_err_and c.from_residual.result c.from_residual.ensures.1 in
    rw (p.1, p.2) (c.loop.invariant.verdict ∙ ap (fault_at c.loop.self) (copies-more c.loop.counter c.args.count x c.loop-test.true)
    ∙ cut _ _ x _ h.short ∙ ap (λ f. Some (Bits f)) (sym h.fault))

pub loop-preserved : goal.loop-preserved
loop-preserved c =
    let x = free c.args.field c.args.width in
    let w = c.loop.invariant in
    let h = c.in_ok-skip.ensures in
    record {
      moved = subst (Moved c.args.self.now c.skip.new.self) (next c.loop.counter c.args.width) (then w.moved h.moved);
      verdict = w.verdict ∙ ap (fault_at c.loop.self) (copies-more c.loop.counter c.args.count x c.loop-test.true)
          ∙ fine _ _ x _ _ refl h.there refl ∙ moved-fault _ _ h.moved refl;
    }

pub returns : goal.returns
returns c =
    let full : c.loop.counter ≡ c.args.count = omega arith in
    let none : c.args.count - c.loop.counter ≡ 0 = omega arith in
    let w = c.loop.invariant in
    record {
      verdict = w.verdict ∙ ap (λ m. fault_at c.loop.self (copies m (free c.args.field c.args.width))) none ∙ fault-none _ _;
      moved = subst (λ i. Moved c.args.self.now c.loop.self (i * c.args.width)) full w.moved;
    }
