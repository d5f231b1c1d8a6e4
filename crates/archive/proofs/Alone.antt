-- A state alone in a run of bytes.
use Rattle.std.proofs.Common.{◌≡◌, ℕ, ◌+◌, ◌*◌, ◌%◌, ◌<◌, List, [], ◌∷◌, ◌++◌, length, Some, None, Option, sym, refl, ap, ◌∙◌, arith}
use Rattle.std.proofs.lemmas.Bool.{le-leb, lt-leb, leb-true, cond-true, cond-false}
use Rattle.archive.specs.declared.fault.Field.TheVariants.{Rest}
use Rattle.archive.specs.declared.fault.Rule.TheVariants.{NothingLeft}
use Rattle.archive.specs.declared.fault.StateFault.{StateFault}
use Rattle.archive.specs.declared.fault.StateFault.TheVariants.{Broken}
use Rattle.archive.specs.Layout.{Part, after, rows, tail, linear, coupling, fill, copies}
use Rattle.archive.specs.Layout.{rest, parts_at, first_fault, state_fault, end_of_state, alone_verdicts, alone_fault}
use Rattle.archive.specs.Layout.{size_at, rank_at, pairs, bits_before_fill}
use Rattle.archive.proofs.First.{none-some}
use Rattle.archive.proofs.Sound.{kept, there, unbroken}
use Rattle.archive.proofs.Steps.{passes, stops, broken, fine, fault-none, after-rows, after-copies}

after-joined : (p : ℕ) (xs ys : List Part) → after p (xs ++ ys) ≡ after (after p xs) ys
after-joined p [] ys = refl
after-joined p (x ∷ xs) ys = after-joined (p + x.width) xs ys

-- the fields of a state end where the state ends
ends : (b : List ℕ) (p : ℕ) → after p (parts_at b p) ≡ end_of_state b p
unfolding parts_at end_of_state
ends b p =
    let n = size_at b p in
    let k = rank_at b p in
    let q = p + 6 + 6 + 13 + 3 + k * n + n in
    let last = fill (p + bits_before_fill n k) ∷ [] in
    let sum : q + k * 2 + pairs k * 1 ≡ p + bits_before_fill n k = omega arith in
    after-joined (p + 6 + 6 + 13 + 3) (rows b p n 0 k) (tail b p n k)
    ∙ ap (λ t. after t (tail b p n k)) (after-rows b p n 0 k (p + 6 + 6 + 13 + 3))
    ∙ after-joined q (copies k linear) (copies (pairs k) coupling ++ last)
    ∙ ap (λ t. after t (copies (pairs k) coupling ++ last)) (after-copies linear k q)
    ∙ after-joined (q + k * 2) (copies (pairs k) coupling) last
    ∙ ap (λ t. after t last) (after-copies coupling (pairs k) (q + k * 2) ∙ sum)

module _ (b : List ℕ) where
  whole : alone_fault b ≡ first_fault b 0 (parts_at b 0 ++ rest b (end_of_state b 0) ∷ [])
  unfolding alone_fault alone_verdicts first_fault
  whole = refl

  pub alone-bad : (f : StateFault) → state_fault b 0 ≡ Some f → alone_fault b ≡ Some f
  unfolding state_fault
  alone-bad f e = whole ∙ stops b 0 (parts_at b 0) _ f e

  module _ (e : state_fault b 0 ≡ None) (q : ℕ) (at : q ≡ end_of_state b 0) where
    at_rest : alone_fault b ≡ first_fault b q (rest b q ∷ [])
    unfolding state_fault
    at_rest = whole ∙ passes b 0 (parts_at b 0) _ e (end_of_state b 0) (ends b 0) ∙ ap (λ t. first_fault b t (rest b t ∷ [])) (sym at)

    pub alone-more : q < 8 * length b → alone_fault b ≡ Some (Broken NothingLeft Rest q)
    alone-more h = at_rest ∙ broken b q (rest b q) [] _ refl (omega arith) NothingLeft (cond-false _ _ _ (lt-leb _ _ h))

    pub alone-good : q ≡ 8 * length b → alone_fault b ≡ None
    alone-good h = at_rest ∙ fine b q (rest b q) [] _ refl (omega arith) (cond-true _ _ _ (le-leb (8 * length b) q (omega arith)))
        ∙ fault-none b _

pub end_whole : (b : List ℕ) (p : ℕ) → end_of_state b p % 8 ≡ 0
unfolding end_of_state
end_whole b p = omega arith

-- bytes without a fault end where the state ends
pub alone-end : (b : List ℕ) → alone_fault b ≡ None → (state_fault b 0 ≡ None) × (8 * length b ≡ end_of_state b 0)
alone-end b e = go (state_fault b 0) refl where
  go : (o : Option StateFault) → state_fault b 0 ≡ o → (state_fault b 0 ≡ None) × (8 * length b ≡ end_of_state b 0)
  go (Some f) i = absurd (none-some f (sym e ∙ alone-bad b f i))
  go None i =
      let q = end_of_state b 0 in
      let r = sym (at_rest b i q refl) ∙ e in
      let h = there b q (rest b q) [] r in
      let l = leb-true (8 * length b) q (kept _ _ (unbroken b q (rest b q) [] r)) in
      (i, omega arith)
