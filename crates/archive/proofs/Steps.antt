-- One field more, cut short, at fault or fine; and fields after fields.
use Rattle.std.proofs.Common.{◌≡◌, ℕ, zero, suc, ◌+◌, ◌*◌, ◌<◌, ◌≤◌, ltb, List, [], ◌∷◌, ◌++◌, length, Some, None, Option, sym, refl, ap, ◌∙◌, add-zero, suc-mul, zero-mul, arith}
use Rattle.std.proofs.lemmas.Bool.{lt-ltb, le-ltb, cond-true, cond-false}
use Rattle.archive.specs.declared.fault.Rule.{Rule}
use Rattle.archive.specs.declared.fault.StateFault.{StateFault}
use Rattle.archive.specs.declared.fault.StateFault.TheVariants.{Bits, Broken}
use Rattle.archive.specs.Bits.{bits_from}
use Rattle.archive.specs.First.{first, or_else}
use Rattle.archive.specs.Layout.{Part, wrong, blamed, verdicts, after, first_fault, rows, copies}

pub fault-none : (b : List ℕ) (p : ℕ) → first_fault b p [] ≡ None
unfolding first_fault first
fault-none b p = refl

module _ (b : List ℕ) (p : ℕ) (x : Part) (xs : List Part) where
  step : (o : Option StateFault) → wrong b p x ≡ o → first_fault b p (x ∷ xs) ≡ or_else o (first_fault b (p + x.width) xs)
  unfolding first_fault first
  step o e = ap (λ t. or_else t (first (verdicts b (p + x.width) xs))) e

  pub cut : 8 * length b < p + x.width → first_fault b p (x ∷ xs) ≡ Some (Bits (record { field = x.name; place = p }))
  cut h = step _ (cond-true (ltb (8 * length b) (p + x.width)) _ _ (lt-ltb _ _ h))

  module _ (v : ℕ) (i : v ≡ bits_from b p x.width) (h : p + x.width ≤ 8 * length b) where
    ruled : (o : Option Rule) → x.breaks v ≡ o → wrong b p x ≡ blamed x.name p o
    ruled o e =
        cond-false (ltb (8 * length b) (p + x.width)) _ _ (le-ltb _ _ h)
        ∙ ap (λ t. blamed x.name p (x.breaks t)) (sym i) ∙ ap (blamed x.name p) e

    pub broken : (r : Rule) → x.breaks v ≡ Some r → first_fault b p (x ∷ xs) ≡ Some (Broken r x.name p)
    broken r e = step _ (ruled (Some r) e)

    pub fine : x.breaks v ≡ None → first_fault b p (x ∷ xs) ≡ first_fault b (p + x.width) xs
    fine e = step _ (ruled None e)

-- the first fault of fields after fields is that of the former, or else of the latter
pub or_assoc : {F : Type 0} (x y z : Option F) → or_else (or_else x y) z ≡ or_else x (or_else y z)
or_assoc None y z = refl
or_assoc (Some f) y z = refl

pub joined : (b : List ℕ) (p : ℕ) (xs ys : List Part)
    → first_fault b p (xs ++ ys) ≡ or_else (first_fault b p xs) (first_fault b (after p xs) ys)
joined b p [] ys = sym (ap (λ o. or_else o (first_fault b p ys)) (fault-none b p))
joined b p (x ∷ xs) ys =
    step b p x (xs ++ ys) _ refl ∙ ap (or_else (wrong b p x)) (joined b (p + x.width) xs ys)
    ∙ sym (or_assoc (wrong b p x) (first_fault b (p + x.width) xs) _)
    ∙ sym (ap (λ o. or_else o (first_fault b (after (p + x.width) xs) ys)) (step b p x xs _ refl))

module _ (b : List ℕ) (p : ℕ) (xs ys : List Part) where
  pub passes : first_fault b p xs ≡ None → (q : ℕ) → after p xs ≡ q → first_fault b p (xs ++ ys) ≡ first_fault b q ys
  passes e q a = joined b p xs ys ∙ ap (λ o. or_else o (first_fault b (after p xs) ys)) e ∙ ap (λ t. first_fault b t ys) a

  pub stops : (f : StateFault) → first_fault b p xs ≡ Some f → first_fault b p (xs ++ ys) ≡ Some f
  stops f e = joined b p xs ys ∙ ap (λ o. or_else o (first_fault b (after p xs) ys)) e

-- where rows and copies end
pub after-rows : (b : List ℕ) (p n a m q : ℕ) → after q (rows b p n a m) ≡ q + m * n
after-rows b p n a zero q = rw zero-mul (sym (add-zero q))
after-rows b p n a (suc m) q = after-rows b p n (a + 1) m (q + n) ∙ (let e = suc-mul m n in omega arith)

pub after-copies : (x : Part) (m q : ℕ) → after q (copies m x) ≡ q + m * x.width
after-copies x zero q = rw zero-mul (sym (add-zero q))
after-copies x (suc m) q = after-copies x m (q + x.width) ∙ (let e = suc-mul m x.width in omega arith)
