use Rattle.std.proofs.Common.{◌≡◌, ℕ, ◌*◌, ◌/◌, ◌<◌, ◌≤◌, length, get_or, take, sym, ap, ◌∙◌, subst, ap₂, arith, rules}
use lib.Count.{ones}
use Rattle.archive.specs.Layout.{bits_before_fill, padded}
use Rattle.archive.specs.Writes.{Falling, RunOf}
use Rattle.archive.proofs.Alike.{telling}
use Rattle.archive.proofs.Laws.{bytes_take}
use Rattle.archive.proofs.Numbered.{laid_out}
use Rattle.archive.proofs.Written.{encoded, bytes_past}
use Rattle.archive.proofs.codec.write.Goals as goal

eighth : (m q : ℕ) → 8 * m ≡ q → m ≡ q / 8
eighth m q e = omega arith

pub returns : goal.returns
returns c =
    let s = c.args.state.now in
    let f = c.of-fields.result in
    let es = c.of-fields.ensures.same in
    let b = c.put.new.buffer in
    let n = f.shape.n in
    let k = f.shape.k in
    let xs = f.pivots.items in
    let m = c.div_ceil-length.result in
    let en : n ≡ s.qubits = f.size ∙ ap (λ t. t.qubits) es in
    let ek : k ≡ ones s.body.space.pivots = f.rank ∙ c.of-fields.ensures.pivots.places in
    let fall : Falling s.body.space.pivots k xs = subst (λ i. Falling s.body.space.pivots i xs) (sym ek) c.of-fields.ensures.pivots in
    let bits = c.bit_count.ensures in
    let div = c.div_ceil-length.ensures in
    let size : 8 * m ≡ padded (bits_before_fill n k) = omega (arith, bits.count, div) in
    let old : (i : ℕ) → get_or c.args.buffer.now i 0 < 256 = λ i. search rules in
    let new : (i : ℕ) → get_or b i 0 < 256 = λ i. omega (arith, c.type_inv.buffer i) in
    let room : m ≤ length b = omega (arith, c.if-buffer-length.false) in
    let put = encoded s b m n k f.state.now.loss xs f.state.now.body en (ap (λ t. t.loss) es) (ap (λ t. t.body) es) ek fall size room
    c.put.ensures.header c.put.ensures.rows c.put.ensures.form c.put.ensures.fill in
    let run : RunOf s (take m b) = record { sound = put.0; holds = put.1; bytes = bytes_take b m new } in
    record {
      length = eighth m _ (size ∙ ap₂ (λ x y. padded (bits_before_fill x y)) en ek);
      room = c.if-buffer-length.false;
      least = omega (arith, bits.least, div, s.some, en);
      most = omega (arith, bits.most, div);
      bytes = run;
      layout = laid_out s (take m b) put.0 put.1;
      telling = telling s (take m b) run;
      past = bytes_past c.args.buffer.now b m _ old new size c.put.ensures.framed;
    }
