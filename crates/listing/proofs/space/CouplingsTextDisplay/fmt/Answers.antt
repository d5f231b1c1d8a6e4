use Rattle.std.proofs.Common.{◌≡◌, ℕ, zero, suc, ◌+◌, ◌-◌, ◌≤◌, false, true, ◌||◌, ◌++◌, nat_lt, refl, sym, ap, ◌∙◌, subst, arith, rules, add-one, append-nil}
use Rattle.std.proofs.Output.{has_written_append, has_written_of_eq}
use Rattle.std.proofs.lemmas.Bool.Decides.{nat_tests}
use Rattle.quadratic.specs.declared.phased.PhasedSpace.{PhasedSpace}
use Rattle.listing.specs.Fields.{couplings_of, coupling_text, coupling_texts, dimension_of, following}
use Rattle.listing.proofs.Commas.{following-append, joined-some, some, some-append, some-upTo}
use Rattle.listing.proofs.space.CouplingsTextDisplay.fmt.Goals as goal

-- there is a coupling of the first rows if there are two rows
some-couplings : (s : PhasedSpace) (n : ℕ) → 2 ≤ dimension_of s → some (coupling_texts s n) ≡ nat_lt 0 n
some-couplings s zero h = refl
some-couplings s (suc n) h =
    let first : (nat_lt 0 n || nat_lt 0 (dimension_of s - suc n)) ≡ nat_lt 0 (suc n) = grind (arith, nat_tests) in
    some-append (coupling_texts s n) (couplings_of s (suc n) (dimension_of s - suc n))
    ∙ (ap (λ b. b || some (couplings_of s (suc n) (dimension_of s - suc n))) (some-couplings s n h)
    ∙ (ap (λ b. nat_lt 0 n || b) (some-upTo (λ b. coupling_text s (suc n) (suc n + b)) (dimension_of s - suc n)) ∙ first))

-- the row a more, behind n rows
more : (s : PhasedSpace) (n a : ℕ) → 2 ≤ dimension_of s → n + 1 ≡ a
    → following false (coupling_texts s n) ++ following (nat_lt 1 a) (couplings_of s a (dimension_of s - a))
    ≡ following false (coupling_texts s a)
more s n a h e =
    subst (λ a. following false (coupling_texts s n) ++ following (nat_lt 1 a) (couplings_of s a (dimension_of s - a))
    ≡ following false (coupling_texts s a)) e (rw add-one (
    let same : nat_lt 1 (suc n) ≡ nat_lt 0 n = grind (arith, nat_tests) in
    ap (λ b. following false (coupling_texts s n) ++ following b (couplings_of s (suc n) (dimension_of s - suc n)))
    (same ∙ sym (some-couplings s n h))
    ∙ sym (following-append false (coupling_texts s n) (couplings_of s (suc n) (dimension_of s - suc n)))
    ))

-- the last row has no row after it
last : (s : PhasedSpace) (n : ℕ) → n + 1 ≡ dimension_of s → coupling_texts s n ≡ coupling_texts s (dimension_of s)
last s n e =
    let none : dimension_of s - suc n ≡ 0 = omega arith in
    let whole : suc n ≡ dimension_of s = omega arith in
    sym (append-nil (coupling_texts s n)) ∙ ap (λ m. coupling_texts s n ++ couplings_of s (suc n) m) (sym none)
    ∙ ap (coupling_texts s) whole

pub loop-a-preserved : goal.loop-a-preserved
loop-a-preserved g c = λ plain.
    let s = c.args.self.now.0.now in
    let a = c.loop-a.a-counter in
    let so_far = c.loop-a.invariant plain in
    let at : a + 1 - 1 ≡ a = omega arith in
    rw at (has_written_of_eq _ _ _ _ _ (more s (a - 1) a (omega arith) (omega arith))
    (has_written_append _ _ _ _ _ _ so_far
    ((rw c.dimension-dimension.ensures at c.in_ok-write_items.ensures)
    (λ b. coupling_text s a (a + b)) (λ b x low high p. search rules) so_far.plain refl)))

pub returns-clause-writes : goal.returns-clause-writes
returns-clause-writes g c = λ plain ok.
    let s = c.args.self.now.0.now in
    let a = c.loop-a.a-counter in
    let end : a - 1 + 1 ≡ dimension_of s = omega arith in
    let two : 2 ≤ dimension_of s = omega arith in
    let some : nat_lt 0 (dimension_of s) ≡ true = grind (arith, nat_tests) in
    has_written_of_eq _ _ _ _ _
    (ap (following false) (last s (a - 1) end)
    ∙ joined-some (coupling_texts s (dimension_of s)) (some-couplings s (dimension_of s) two ∙ some))
    (c.loop-a.invariant plain)
