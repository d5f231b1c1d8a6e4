use Rattle.std.proofs.Common.{◌≡◌, ℕ, ◌^◌, ◌<◌, ap, arith, lit<, rules}
use Rattle.cyclotomic.specs.Modular.{Below, low}
use Rattle.cyclotomic.proofs.Residues.{low-apart}
use Rattle.cyclotomic.proofs.quads.Cyclotomic64Ring.equal.Goals as goal

-- words of 64 bits that stand for one residue are equal
apart : (a b : ℕ) → a < 2 ^ 64 → b < 2 ^ 64 → ◌≡◌ {A = Below (2 ^ 64)} (low (lit< tt) a) (low (lit< tt) b) → a ≡ b
apart = low-apart (lit< tt)

pub returns-clause-complete : goal.returns-clause-complete
returns-clause-complete c = λ e.
    let x = c.args.self in
    let y = c.args.other in
    let e0 : x.a0.0 ≡ y.a0.0 = apart _ _ (omega arith) (omega arith) (ap (λ z. z.re.re) e) in
    let e1 : x.a1.0 ≡ y.a1.0 = apart _ _ (omega arith) (omega arith) (ap (λ z. z.im.re) e) in
    let e2 : x.a2.0 ≡ y.a2.0 = apart _ _ (omega arith) (omega arith) (ap (λ z. z.re.im) e) in
    let e3 : x.a3.0 ≡ y.a3.0 = apart _ _ (omega arith) (omega arith) (ap (λ z. z.im.im) e) in
    search rules
