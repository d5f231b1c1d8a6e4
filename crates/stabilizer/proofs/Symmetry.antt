-- Exchanging two states conjugates their overlap.
use Rattle.std.proofs.Common.{◌≡◌, ℕ, ◌+◌, ◌-◌, ◌%◌, ◌^◌, sym, ap, ◌∙◌, inl, inr, arith}
use Rattle.cyclotomic.specs.Adjoin.{Omega, omegas, ints, conj}
use Rattle.cyclotomic.specs.Exact.{mirrored}
use Rattle.cyclotomic.specs.Scalars.{Triple, Kind}
use Rattle.cyclotomic.proofs.Conj.{conj-hom, conj-conj}
use Rattle.cyclotomic.proofs.Exact.{scaled-bar}
use Rattle.cyclotomic.proofs.Extend.{sum-to-to}
use Rattle.cyclotomic.proofs.Ints.{int_laws, omega-laws}
use Rattle.cyclotomic.proofs.Sums
use Rattle.stabilizer.specs.Overlaps.{IsOverlap}
use Rattle.stabilizer.specs.Vectors.{entry, inner}
use Rattle.stabilizer.specs.declared.state.StabilizerState.{StabilizerState}

inner-swapped : (n : ℕ) (u v : ℕ → Omega) → conj ints (inner n u v) ≡ inner n v u
unfolding omegas
inner-swapped n u v =
    sum-to-to omega-laws.comm omega-laws.comm (conj ints) (conj-hom int_laws) (λ y. omegas.times (conj ints (u y)) (v y)) (2 ^ n)
    ∙ Sums.sum_same omega-laws.comm _ _ (2 ^ n) (λ y l. (conj-hom int_laws).times_to (conj ints (u y)) (v y)
    ∙ ap (λ z. omegas.times z (conj ints (v y))) (conj-conj int_laws (u y)) ∙ omega-laws.comm.times_comm (u y) (conj ints (v y)))

mirrored-kind : (x : Triple) → Kind x → Kind (mirrored x)
mirrored-kind x (inl z) = inl (ap mirrored z)
mirrored-kind x (inr h) = inr (h.0, omega arith)

whole : (x : Triple) → Kind x → (x.2 + (8 - x.2) % 8) % 8 ≡ 0
whole x (inl z) = let m = ap (λ y. y.2) z in omega (arith, m)
whole x (inr h) = let l = h.1 in omega (arith, l)

-- the overlap of s and t is the conjugate of that of t and s
pub is-swapped : (t s : StabilizerState) (x : Triple) → t.qubits ≡ s.qubits → IsOverlap t s x → IsOverlap s t (mirrored x)
is-swapped t s x q is = record {
  kind = mirrored-kind x is.kind;
  range = is.range;
  exact = sym (scaled-bar 8288 x.0 x.1 x.2 ((8 - x.2) % 8) (whole x is.kind)) ∙ ap (conj ints) is.exact
      ∙ inner-swapped t.qubits (entry t) (entry s) ∙ ap (λ n. inner n (entry s) (entry t)) q;
}
