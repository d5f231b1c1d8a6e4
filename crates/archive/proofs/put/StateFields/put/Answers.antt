use Rattle.std.proofs.Common.{◌≡◌, ◌≤◌, subst, arith}
use Rattle.archive.specs.Bits.{bits_from, Framed}
use Rattle.archive.specs.Held.{linear_place}
use Rattle.archive.specs.Layout.{bits_before_fill, padded, padding}
use Rattle.archive.proofs.Frames.{both}
use Rattle.archive.proofs.Kept.{header-kept, rows-kept, linear-kept, form-kept}
use Rattle.archive.proofs.put.StateFields.put.Goals as goal

pub returns : goal.returns
returns c =
    let f = c.args.self.now in
    let n = f.shape.n in
    let k = f.shape.k in
    let leads = f.pivots.items in
    let t = f.state.now.body in
    let b₀ = c.args.buffer.now in
    let b₁ = c.put_header.new.buffer in
    let b₂ = c.put_rows.new.buffer in
    let b₃ = c.put_linear.new.buffer in
    let b₄ = c.put_couplings.new.buffer in
    let f₂ = c.put_rows.ensures.framed in
    let f₃ = c.put_linear.ensures.framed in
    let f₄ = c.put_couplings.ensures.framed in
    let head = c.put_header.ensures.put in
    let i₂ : 28 ≤ linear_place 0 n k 0 = omega arith in
    let i₃ : linear_place 0 n k 0 ≤ linear_place 0 n k k = omega arith in
    let i₄ : linear_place 0 n k k ≤ bits_before_fill n k = omega arith in
    let e = c.bit_count-end.ensures.count in
    let b₅ = c.put_bits.new.bytes in
    let f₅ : Framed b₄ b₅ (bits_before_fill n k) (padded (bits_before_fill n k)) = subst (λ q. Framed b₄ b₅ q (padded q)) e
    c.put_bits.ensures.framed in
    record {
      header = header-kept b₄ b₅ _ f₅.0 n k (omega arith) _ _ (header-kept b₃ b₄ _ f₄.0 n k (omega arith) _ _
          (header-kept b₂ b₃ _ f₃.0 n k (omega arith) _ _ (header-kept b₁ b₂ 28 f₂.0 n k (omega arith) _ _ head)));
      rows = rows-kept b₄ b₅ _ f₅.0 n k leads t (omega arith)
          (rows-kept b₃ b₄ _ f₄.0 n k leads t (omega arith)
          (rows-kept b₂ b₃ _ f₃.0 n k leads t (omega arith) c.put_rows.ensures.put));
      form = form-kept b₄ b₅ _ f₅.0 n k leads t (omega arith) (record {
        linear = linear-kept b₃ b₄ _ f₄.0 n k leads t (omega arith) c.put_linear.ensures.there;
        coupling = c.put_couplings.ensures.there;
      });
      fill = subst (λ q. bits_from b₅ q (padding q) ≡ 0) e c.put_bits.ensures.there;
      framed = both b₀ b₄ b₅ 0 (bits_before_fill n k) (padded (bits_before_fill n k)) (omega arith) (omega arith)
          (both b₀ b₃ b₄ 0 (linear_place 0 n k k) (bits_before_fill n k) (omega arith) i₄
          (both b₀ b₂ b₃ 0 (linear_place 0 n k 0) (linear_place 0 n k k) (omega arith) i₃
          (both b₀ b₁ b₂ 0 28 (linear_place 0 n k 0) (omega arith) i₂ c.put_header.ensures.framed f₂) f₃) f₄) f₅;
    }
