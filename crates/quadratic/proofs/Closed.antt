-- The closed form of a sum in every ring, from its value in Z[ω].
use Rattle.std.proofs.Common.{◌≡◌, inl, inr, ℕ, ◌^◌, pos, sym, ap, ◌∙◌, ap₂, arith}
use lib.Count.{ones}
use Rattle.cyclotomic.specs.Adjoin.{omegas}
use Rattle.cyclotomic.specs.Ring.{Ops, RingLaws}
use Rattle.cyclotomic.specs.Scalars.{Triple, Kind, triple_of, embedded, chosen}
use Rattle.cyclotomic.specs.declared.scalar.Scalar.{Scalar}
use Rattle.cyclotomic.proofs.Exact.{scalar-kind}
use Rattle.cyclotomic.proofs.Extend.{transfer, transfer-nil}
use Rattle.cyclotomic.proofs.Scalars.{exact-not-nil}
use Rattle.quadratic.proofs.Cases.{by_space}
use Rattle.quadratic.specs.Numbering.{spread}
use Rattle.quadratic.specs.Sums.{Bounded, Vanishing, sum_over, total}
use Rattle.quadratic.specs.Value.{value_at}
use Rattle.quadratic.specs.declared.intersection.Intersection.{Intersection}
use Rattle.quadratic.specs.declared.phased.PhasedSpace.{PhasedSpace}

-- the power of a sum that is not 0 is a number
power_of : (i : Intersection) (x : Scalar) → Bounded i x → (triple_of x).0 ≡ 1 → (p : ℕ) × ((triple_of x).1 ≡ pos p)
power_of i x =
    by_space (λ i. Bounded i x → (triple_of x).0 ≡ 1 → (p : ℕ) × ((triple_of x).1 ≡ pos p))
    (λ b one. let z : ◌≡◌ {A = ℕ} 0 1 = sym (ap (λ t. t.0) b) ∙ one in absurd (omega arith))
    (λ s b one. let p = b one in (p.0, p.1)) i

-- an exponential sum is 0 exactly where the sum over all strings is
pub vanishing : (i : Intersection) (x : Scalar) → Bounded i x → embedded omegas (triple_of x) ≡ total omegas i → Vanishing i x
vanishing i x b e = record {
  vanishes = λ z. sym e ∙ ap (λ a. chosen omegas a (triple_of x).1 (triple_of x).2) z;
  only = λ n. go (scalar-kind x) n;
}
  where
    go : Kind (triple_of x) → total omegas i ≡ omegas.nil → (triple_of x).0 ≡ 0
    go (inl z) n = ap (λ t. t.0) z
    go (inr h) n =
        let k = power_of i x b h.0 in
        let m = (triple_of x).2 in
        absurd (exact-not-nil k.0 m (sym (ap₂ (λ a z. chosen omegas a z m) h.0 k.1) ∙ e ∙ n))

module _ {R : Type 0} {o : Ops R} (laws : RingLaws o) where
  -- the value at the string numbered by c
  value : PhasedSpace → ℕ → ℕ
  value s c = value_at s.form (spread 48 s.space.pivots c)

  space-closed : (s : PhasedSpace) (x : Triple) → Kind x → (x.0 ≡ 1 → (k : ℕ) × (x.1 ≡ pos k))
      → embedded omegas x ≡ sum_over omegas s → embedded o x ≡ sum_over o s
  unfolding value
  space-closed s x (inl z) h e =
      ap (embedded o) z
      ∙ sym (transfer-nil laws (value s) (2 ^ ones s.space.pivots) (sym e ∙ ap (embedded omegas) z))
  space-closed s x (inr one) h e =
      let k = h one.0 in
      ap₂ (λ a z. chosen o a z x.2) one.0 k.1
      ∙ sym (transfer laws (value s) (2 ^ ones s.space.pivots) k.0 x.2
      (sym e ∙ ap₂ (λ a z. chosen omegas a z x.2) one.0 k.1))

  pub closed : (i : Intersection) (x : Scalar) → Bounded i x → embedded omegas (triple_of x) ≡ total omegas i
      → embedded o (triple_of x) ≡ total o i
  closed i x =
      by_space (λ i. Bounded i x → embedded omegas (triple_of x) ≡ total omegas i → embedded o (triple_of x) ≡ total o i)
      (λ b e. ap (embedded o) b)
      (λ s b e. space-closed s (triple_of x) (scalar-kind x) (λ one. let p = b one in (p.0, p.1)) e) i
