use Rattle.std.proofs.Common.{◌≡◌, ◌+◌, ◌*◌, length, get_or, sym, ap, ◌∙◌, ap₂, arith, rules}
use Rattle.quadratic.specs.Echelon.{row}
use Rattle.archive.specs.Bits.{bits_from}
use Rattle.archive.specs.StateFields.{linear_from}
use Rattle.archive.proofs.Frames.{keep-before, field-within, reframe}
use Rattle.archive.proofs.Written.{row_below}
use Rattle.archive.proofs.put.StateFields.put_rows.Goals as goal

pub put_each-requires-clause-fits : goal.put_each-requires-clause-fits
put_each-requires-clause-fits c = λ j v l e.
    let f = c.args.self.now in
    let s = f.state.now in
    let xs = c.deref.result.now in
    let count : length xs ≡ f.shape.k = ap length c.deref.ensures.0 ∙ sym f.rank in
    let h : v ≡ row c.body-body.result.now.space.rows (get_or xs j 0) = search rules in
    let same = h ∙ ap₂ (λ t ys. row t.space.rows (get_or ys j 0)) c.body-body.ensures c.deref.ensures.0 in
    let low = row_below s.body.space (get_or f.pivots.items j 0) (f.on j (omega arith)) s.qubits s.inside in
    rw (same, f.size) low

pub returns-clause-put : goal.returns-clause-put
returns-clause-put c =
    let f = c.args.self.now in
    let n = f.shape.n in
    let k = f.shape.k in
    let xs = c.deref.result.now in
    let b = c.put_each.new.buffer in
    let d = c.put_bits.new.bytes in
    let count : length xs ≡ k = ap length c.deref.ensures.0 ∙ sym f.rank in
    let first : c.row.result ≡ 28 = omega (arith, c.row.ensures.place) in
    let end = c.shift.ensures.place in
    let framed = reframe b d _ _ (28 + k * n) (linear_from f 0) end (omega arith) c.put_bits.ensures.framed in
    record {
      rows = λ a l.
          let h = c.put_each.ensures.there a (omega arith) in
          let there : bits_from b (c.row.result + a * n) n ≡ row c.body-body.result.now.space.rows (get_or xs a 0) = search rules in
          keep-before b d (28 + k * n) (linear_from f 0) (28 + a * n) n framed (field-within 28 a k n l)
          ∙ ap (λ i. bits_from b (i + a * n) n) (sym first) ∙ there
          ∙ ap₂ (λ t ys. row t.space.rows (get_or ys a 0)) c.body-body.ensures c.deref.ensures.0;
      shift = ap (λ i. bits_from d i n) (sym end) ∙ c.put_bits.ensures.there ∙ c.shift-2.ensures
          ∙ ap (λ t. t.space.shift) c.body-body.ensures;
    }
