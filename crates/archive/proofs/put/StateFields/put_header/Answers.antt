use Rattle.std.proofs.Common.{◌∙◌, ap, arith}
use Rattle.archive.proofs.Frames.{keep-before}
use Rattle.archive.proofs.put.StateFields.put_header.Goals as goal

pub returns-clause-put : goal.returns-clause-put
returns-clause-put c =
    let b₁ = c.put_bits.new.bytes in
    let b₂ = c.put_bits-2.new.bytes in
    let b₃ = c.put_bits-3.new.bytes in
    let b₄ = c.put_bits-4.new.bytes in
    let f₂ = c.put_bits-2.ensures.framed in
    let f₃ = c.put_bits-3.ensures.framed in
    let f₄ = c.put_bits-4.ensures.framed in
    record {
      size = keep-before b₃ b₄ 25 28 0 6 f₄ (omega arith) ∙ keep-before b₂ b₃ 12 25 0 6 f₃ (omega arith)
          ∙ keep-before b₁ b₂ 6 12 0 6 f₂ (omega arith) ∙ c.put_bits.ensures.there;
      rank = keep-before b₃ b₄ 25 28 6 6 f₄ (omega arith) ∙ keep-before b₂ b₃ 12 25 6 6 f₃ (omega arith) ∙ c.put_bits-2.ensures.there;
      weight = keep-before b₃ b₄ 25 28 12 13 f₄ (omega arith) ∙ c.put_bits-3.ensures.there ∙ c.loss.ensures;
      phased = c.put_bits-4.ensures.there ∙ c.phase.ensures ∙ ap (λ t. t.form.phase) c.body.ensures;
    }
