use Rattle.std.proofs.Common.{◌≡◌, ◌+◌, pos, negsuc, sym, refl, ap, ◌∙◌, inl, inr, lit<}
use Rattle.cyclotomic.specs.Adjoin.{omegas}
use Rattle.cyclotomic.specs.Exact.{mirrored}
use Rattle.cyclotomic.specs.ModularLaws.{seventeen_laws, quad_laws}
use Rattle.cyclotomic.specs.Scalars.{triple_of, nought}
use Rattle.cyclotomic.proofs.Ints.{omega-laws}
use Rattle.stabilizer.specs.declared.state.StabilizerState.{StabilizerState}
use Rattle.archive.specs.Writes.{RunOf}
use Rattle.worked.specs.Worked.{level, turned, words_of}
use Rattle.worked.proofs.Forms.{total-point, total-one, total-two, sum-known}
use Rattle.worked.proofs.Onto.{opened-depth}
use Rattle.worked.proofs.Texts.{opened-x, opened-y, opened-z, level-y}
use Rattle.worked.proofs.Shared.{level-phases, level-depth, turned-phases, turned-depth, total-phases}
use Rattle.worked.proofs.Shared.{plus-terms, minus-terms, shared-phases, overlap-known}
use Rattle.worked.proofs.worked_examples.Goals as goal

pub returns : goal.returns
unfolding omegas
returns c =
    let is : triple_of c.term-overlap.result ≡ (1, negsuc 2, 1) = c.term-overlap.ensures in
    let bar : triple_of c.conjugate.result ≡ (1, negsuc 2, 7) = c.conjugate.ensures.triple ∙ ap mirrored is in
    let shared = λ (t s : StabilizerState) (a : RunOf t level) (b : RunOf s turned). shared-phases t s 0 2 (level-phases t a)
    (turned-phases s b) in
    record {
      one_string = λ x r f h. sum-known x r (1, pos 0, 5) h (inr (refl, lit< tt)) (λ o. (0, refl)) (sym (total-point omegas x 5 f));
      quarter_turn = λ x r f h. sum-known x r (1, pos 1, 1) h (inr (refl, lit< tt)) (λ o. (1, refl)) (sym (total-one omegas x 0 2 f));
      half_turn = λ x r f h. sum-known x r nought h (inl refl) (λ o. (0, refl)) (sym (total-one omegas x 0 4 f));
      coupled = λ x r f h. sum-known x r (1, pos 2, 0) h (inr (refl, lit< tt)) (λ o. (2, refl)) (sym (total-two omegas x 0 0 0 f));
      coupled_turns = λ x r f h. sum-known x r (1, pos 3, 1) h (inr (refl, lit< tt)) (λ o. (3, refl)) (sym (total-two omegas x 0 2 2 f));
      opposite_turns = λ x r f h. sum-known x r nought h (inl refl) (λ o. (0, refl)) (sym (total-two omegas x 0 2 6 f));
      answer = is;
      conjugate = bar;
      overlap = λ t s x a b h. overlap-known t s 0 2 (level-phases t a) (turned-phases s b) 1 (lit< tt) plus-terms (level-depth t a)
          (turned-depth s b) x h ∙ sym is;
      swapped = λ t s x a b h. overlap-known t s 2 0 (turned-phases t a) (level-phases s b) 7 (lit< tt) minus-terms (turned-depth t a)
          (level-depth s b) x h ∙ sym bar;
      sum = λ t s x a b h r i. sum-known x r (1, pos 1, 1) i (inr (refl, lit< tt)) (λ o. (1, refl))
          (sym (total-phases omega-laws.comm x 0 2 (shared t s a b x h)));
      residue = λ t s x a b h. ap (λ z. z.0) (total-phases seventeen_laws.comm x 0 2 (shared t s a b x h));
      words = λ t s x a b h. ap words_of (total-phases quad_laws.comm x 0 2 (shared t s a b x h));
      onto_x = λ s h. opened-x s h 4144 (ap (◌+◌ 4144) (opened-depth s h));
      onto_y = λ s h. opened-y s h 4144 (ap (◌+◌ 4144) (opened-depth s h));
      onto_minus_z = λ s h. opened-z s h 4144 (ap (◌+◌ 4144) (opened-depth s h));
      level_onto_y = λ s r. level-y s r 4142 (ap (◌+◌ 4142) (level-depth s r));
    }
