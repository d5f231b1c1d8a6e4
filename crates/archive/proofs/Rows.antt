-- The rows of a state, one after another.
use Rattle.std.proofs.Common.{◌≡◌, ℕ, zero, suc, ◌+◌, ◌-◌, ◌*◌, ◌/◌, ◌%◌, ◌^◌, ◌<◌, ◌≤◌, min, max, Bool, true, false, ◌&&◌, eqb, ltb, ◌⊎◌, List, ◌∷◌, length, Some, sym, refl, ap, ◌∙◌, ap₂, inl, inr, suc-mul, add-mul, one-mul, pow-suc, zero-mul, add-one, one-add, arith, pow_pos}
use lib.Bits.{bit_and, bit_or, or_shr, or_mod, and_shr, and_mod, or_add_and, and_le_l}
use lib.Bits.{and_le_r, or_comm, and_step, or_step, and_high}
use Rattle.std.proofs.lemmas.Bool.Decides.{nat_tests}
use Rattle.std.proofs.lemmas.Bool.{cases_eq, cond-true, cond-false}
use Rattle.archive.specs.declared.fault.Field.TheVariants.{Row}
use Rattle.archive.specs.declared.fault.Rule.TheVariants.{EchelonForm}
use Rattle.archive.specs.declared.fault.StateFault.TheVariants.{Broken}
use Rattle.archive.specs.Bits.{bits_from}
use Rattle.archive.specs.Layout.{row_at, lead, descends, apart, off_leads, row, rows, unless, first_fault}
use Rattle.archive.proofs.Steps.{broken, fine}

two : (x : ℕ) → (x % 2 ≡ 0) ⊎ (x % 2 ≡ 1)
two x = elim (cases_eq (x % 2) 0) [ inl e ↦ inl e | inr e ↦ inr (omega arith) ]

-- a position is clear in both of two numbers exactly if it is clear in their union
or-clear : (x y t : ℕ) → (eqb (y / 2 ^ t % 2) 0 && eqb (x / 2 ^ t % 2) 0) ≡ eqb (bit_or x y / 2 ^ t % 2) 0
or-clear x y t =
    let e : bit_or x y / 2 ^ t % 2 ≡ bit_or (x / 2 ^ t % 2) (y / 2 ^ t % 2) = ap (λ z. z % 2) (or_shr x y t)
    ∙ or_mod (x / 2 ^ t) (y / 2 ^ t) 1 in
    elim (two (x / 2 ^ t)) [
      | inl p ↦ elim (two (y / 2 ^ t)) [ inl q ↦ rw (e, p, q) refl | inr q ↦ rw (e, p, q) refl ]
      | inr p ↦ elim (two (y / 2 ^ t)) [ inl q ↦ rw (e, p, q) refl | inr q ↦ rw (e, p, q) refl ]
    ]

-- the part of a union in v is the union of the parts
digits : (d e f : ℕ) → min (d % 2) (bit_or (e % 2) (f % 2)) ≡ max (bit_and (d % 2) (e % 2)) (bit_and (d % 2) (f % 2))
digits d e f =
    elim (two d) [
      | inl p ↦ elim (two e) [
        | inl q ↦ elim (two f) [ inl r ↦ rw (p, q, r) refl | inr r ↦ rw (p, q, r) refl ]
        | inr q ↦ elim (two f) [ inl r ↦ rw (p, q, r) refl | inr r ↦ rw (p, q, r) refl ]
      ]
      | inr p ↦ elim (two e) [
        | inl q ↦ elim (two f) [ inl r ↦ rw (p, q, r) refl | inr r ↦ rw (p, q, r) refl ]
        | inr q ↦ elim (two f) [ inl r ↦ rw (p, q, r) refl | inr r ↦ rw (p, q, r) refl ]
      ]
    ]

and-or : (n v x y : ℕ) → v < 2 ^ n → bit_and v (bit_or x y) ≡ bit_or (bit_and v x) (bit_and v y)
and-or zero v x y h = let z : v ≡ 0 = omega arith in rw z refl
and-or (suc n) v x y h =
    let s = pow-suc 2 n in
    let i = and-or n (v / 2) (x / 2) (y / 2) (omega arith) in
    and_step v (bit_or x y)
    ∙ ap₂ (λ t u. bit_and (v / 2) t * 2 + min (v % 2) u) (or_shr x y 1) (or_mod x y 1)
    ∙ ap₂ (λ t u. t * 2 + u) i (digits v x y)
    ∙ sym (or_step (bit_and v x) (bit_and v y)
    ∙ ap₂ (λ t u. bit_or t u * 2 + max (bit_and v x % 2) (bit_and v y % 2)) (and_shr v x 1) (and_shr v y 1)
    ∙ ap₂ (λ t u. bit_or (bit_and (v / 2) (x / 2)) (bit_and (v / 2) (y / 2)) * 2 + max t u) (and_mod v x 1) (and_mod v y 1))

or-none : (x y : ℕ) → (eqb x 0 && eqb y 0) ≡ eqb (bit_or x y) 0
or-none x y =
    let s = or_add_and x y in
    let l = and_le_l x y in
    let r = and_le_r x y in
    grind (arith, nat_tests)

-- the bit at the position t, in its place
and_pow : (v t : ℕ) → bit_and v (2 ^ t) ≡ v / 2 ^ t % 2 * 2 ^ t
and_pow v t =
    let e : 2 ^ t ≡ 2 ^ (1 + t) - 2 ^ t = let s = pow-suc 2 t in let o = one-add t in rw (one-add t) (omega arith) in
    ap (bit_and v) e ∙ and_high v 1 t

pow-none : (d t : ℕ) → eqb (d * 2 ^ t) 0 ≡ eqb d 0
pow-none zero t = rw zero-mul refl
pow-none (suc d) t = let h = pow_pos t in let m = suc-mul d (2 ^ t) in grind (arith, nat_tests)

-- one pivot more
off-more : (v leads t : ℕ) → (eqb (v / 2 ^ t % 2) 0 && eqb (bit_and v leads) 0) ≡ eqb (bit_and v (bit_or leads (2 ^ t))) 0
off-more v leads t =
    sym (ap (λ z. eqb z 0) (and-or v v leads (2 ^ t) (below-pow v) ∙ or_comm (bit_and v leads) (bit_and v (2 ^ t)))
    ∙ sym (or-none (bit_and v (2 ^ t)) (bit_and v leads))
    ∙ ap (λ z. z && eqb (bit_and v leads) 0) (ap (λ z. eqb z 0) (and_pow v t) ∙ pow-none (v / 2 ^ t % 2) t))
  where
    below-pow : (x : ℕ) → x < 2 ^ x
    below-pow zero = pow_pos 0
    below-pow (suc x) = let h = below-pow x in let e = pow-suc 2 x in omega arith

-- the reader stands at the place q, before row a of k, and has found no fault
pub record Sofar (b : List ℕ) (p n k a q above seen leads : ℕ) : Type 0 where
  pub stands : q ≡ p + 28 + a * n
  pub verdict : first_fault b (p + 28) (rows b p n 0 k) ≡ first_fault b q (rows b p n a (k - a))
  pub order : (v : ℕ) → descends b p n v a ≡ ltb (lead v) above
  pub clear : (t : ℕ) → apart b p n t a ≡ eqb (seen / 2 ^ t % 2) 0
  pub off : (v : ℕ) → off_leads b p n v a ≡ eqb (bit_and v leads) 0

abbrev pub Good : ℕ → ℕ → ℕ → Bool
Good above seen v = ltb 0 v && (ltb (lead v) above && eqb (seen / 2 ^ lead v % 2) 0)

-- one row: its rule in the reader's terms
module _ (b : List ℕ) (p n k a q above seen leads : ℕ) (l : a < k) (w : Sofar b p n k a q above seen leads) where
  pub next_row : first_fault b (p + 28) (rows b p n 0 k) ≡ first_fault b q (row b p n a ∷ rows b p n (a + 1) (k - (a + 1)))
  next_row = let e : k - a ≡ suc (k - (a + 1)) = omega arith in w.verdict ∙ ap (λ m. first_fault b q (rows b p n a m)) e

  module _ (v : ℕ) (e : v ≡ bits_from b q n) (h : q + n ≤ 8 * length b) where
    rule : (row b p n a).breaks v ≡ unless (Good above seen v) EchelonForm
    rule = rw (w.order v, w.clear (lead v)) refl

    pub row-broken : Good above seen v ≡ false → first_fault b (p + 28) (rows b p n 0 k) ≡ Some (Broken EchelonForm Row q)
    row-broken z = next_row ∙ broken b q (row b p n a) _ v e h EchelonForm (rule ∙ cond-false _ _ _ z)

    is_row : v ≡ row_at b p n a
    is_row = e ∙ ap (λ t. bits_from b t n) w.stands

    pub row_more : Good above seen v ≡ true → Sofar b p n k (a + 1) (q + n) (lead v) (bit_or seen v) (bit_or leads (2 ^ lead v))
    row_more z =
        let m = add-mul a 1 n in
        let o = one-mul n in
        record {
          stands = omega (arith, w.stands);
          verdict = next_row ∙ fine b q (row b p n a) _ v e h (rule ∙ cond-true _ _ _ z);
          order = λ x. rw (add-one a, sym is_row) refl;
          clear = λ t. rw (add-one a, sym is_row, w.clear t) (or-clear seen v t);
          off = λ x. rw (add-one a, sym is_row, w.off x) (off-more x leads (lead v));
        }
