use Rattle.std.proofs.Common.{◌≡◌, ℕ, ◌*◌, ◌%◌, ◌^◌, ◌<◌, ap, arith}
use Rattle.std.proofs.lemmas.Nat.{one_shl, pow_below}
use Rattle.quadratic.specs.Value.{value_at}
use Rattle.quadratic.proofs.Clear.{mask_below, square-clear, inside-clear, own-clear, value-off}
use Rattle.quadratic.proofs.Clear.{value-free}
use Rattle.quadratic.proofs.form.QuadraticForm.clear.Goals as goal

pub invariant_of-self : goal.invariant_of-self
invariant_of-self c =
    let f = c.args.self.now in
    let a = c.args.a in
    let t = c.xor_rows.new.table in
    let x = c.xor_rows.ensures in
    let h : ℕ = (1 * 2 ^ a) % 2 ^ 64 in
    let e : h ≡ 2 ^ a = one_shl a 64 (omega arith) in
    let low : h < 2 ^ 48 = rw e (pow_below a 48 c.requires) in record {
      phased = f.phased;
      odds = mask_below f.odd h a e 48 f.odds;
      negs = mask_below f.neg h a e 48 f.negs;
      inside = inside-clear f.coupling t h a e x f.square 48 low f.inside;
      square = square-clear f.coupling t h a e x f.square;
      own = own-clear f.coupling t h a e x f.square f.odd f.own;
    }

pub returns : goal.returns
unfolding value_at
returns c =
    let f = c.args.self.now in
    let a = c.args.a in
    let t = c.xor_rows.new.table in
    let x = c.xor_rows.ensures in
    let h : ℕ = (1 * 2 ^ a) % 2 ^ 64 in
    let e : h ≡ 2 ^ a = one_shl a 64 (omega arith) in
    let low : h < 2 ^ 48 = rw e (pow_below a 48 c.requires) in
    record {
      off = λ p z. ap (λ v. v % 8) (value-off f.coupling t h a e x f.square 48 f.phase f.odd f.neg p z);
      free = λ p. value-free f.coupling t h a e x f.square 48 f.phase f.odd f.neg p low f.inside f.own c.requires;
    }
