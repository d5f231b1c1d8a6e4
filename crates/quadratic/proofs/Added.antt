-- A fresh running sum that is handed one intersection again and again.
use Rattle.std.proofs.Common.{◌≡◌, ℕ, suc, ◌+◌, ◌<◌, ◌≤◌, refl, ap, sym, ◌∙◌, pow_mono, ◌-◌, ◌^◌, arith}
use lib.Count.{ones-le}
use Rattle.cyclotomic.specs.Refusals.{number_of}
use Rattle.cyclotomic.specs.Ring.{Ops, RingLaws}
use Rattle.cyclotomic.specs.Scalars.{triple_of, embedded}
use Rattle.cyclotomic.specs.Sum.{sum_to}
use Rattle.cyclotomic.specs.declared.scalar.Scalar.{Scalar}
use Rattle.cyclotomic.specs.declared.refusal.Refusal.{Refusal}
use Rattle.cyclotomic.specs.declared.refusal.Refusal.TheVariants.{Qubits, Kind, Operands, TextLength, Letter, Buffer, StringNumber, Index, Impossible, Exhausted, Sizes, Finished, NegativePower}
use Rattle.quadratic.specs.Meets.{strings_in}
use Rattle.quadratic.specs.Running.{add_number, added_count, term_in}
use Rattle.quadratic.specs.Sums.{total, IsSum}
use Rattle.quadratic.specs.declared.intersection.Intersection.{Intersection}
use Rattle.quadratic.proofs.Cases.{by_space}
use Rattle.quadratic.proofs.Closed.{closed}

-- the sum holds the strings that were added so far, which are as many as the calls
pub record Counted {R : Type 0} (o : Ops R) (x : Intersection) (value : R) (count calls : ℕ) : Type 0 where
  pub calls_made : count ≡ calls
  pub within : count ≤ strings_in x
  pub sum : value ≡ sum_to o (term_in o x) count

-- every number of a refusal is one
pub positive : (e : Refusal) → 0 < number_of e
positive Qubits = omega arith
positive Kind = omega arith
positive Operands = omega arith
positive TextLength = omega arith
positive Letter = omega arith
positive Buffer = omega arith
positive StringNumber = omega arith
positive Index = omega arith
positive Impossible = omega arith
positive Exhausted = omega arith
positive Sizes = omega arith
positive Finished = omega arith
positive NegativePower = omega arith

-- where a string is refused, there is none left
pub full : (count : ℕ) (x : Intersection) (e : Refusal) → number_of e ≡ add_number count x → strings_in x ≤ count
full count x e h = let l = positive e in grind (arith, l, h)

-- where one is granted, there was room
pub room : (count : ℕ) (x : Intersection) → 0 ≡ add_number count x → count < strings_in x
room count x e = grind (arith, e)

-- one string more
pub another : {R : Type 0} (o : Ops R) (x : Intersection) (value value' : R) (count count' calls : ℕ) → Counted o x value count calls
    → count' ≡ count + 1 → value' ≡ o.plus value (term_in o x count) → count < strings_in x → Counted o x value' count' (calls + 1)
another o x value value' count count' calls c one sum l =
    let more : count' ≡ suc count = omega (arith, one) in
    record {
      calls_made = one ∙ ap (λ n. n + 1) c.calls_made;
      within = omega (arith, one, l);
      sum = sum ∙ ap (λ s. o.plus s (term_in o x count)) c.sum ∙ ap (sum_to o (term_in o x)) (sym more);
    }

-- every string's power of w together is the sum over all strings
pub all-added : {R : Type 0} (o : Ops R) (x : Intersection) → sum_to o (term_in o x) (strings_in x) ≡ total o x
all-added o = by_space (λ x. sum_to o (term_in o x) (strings_in x) ≡ total o x) refl (λ s. refl)

-- once as many strings are added as there are, the value is the exponential sum in the ring
pub closes : {R : Type 0} {o : Ops R} (laws : RingLaws o) (x : Intersection) (e : Scalar) (value : R) (count calls : ℕ)
    → Counted o x value count calls → IsSum x e → strings_in x ≤ count → value ≡ embedded o (triple_of e)
closes {o} laws x e value count calls c h l =
    let f : count ≡ strings_in x = omega (arith, l, c.within) in
    c.sum ∙ ap (sum_to o (term_in o x)) f ∙ all-added o x ∙ sym (closed laws x e h.bounds h.exact)

-- no intersection has more strings than there are calls in 64 bits
pub few : (x : Intersection) → strings_in x ≤ 2 ^ 64 - 1
few =
    by_space (λ x. strings_in x ≤ 2 ^ 64 - 1) (omega arith)
    (λ s. let l = pow_mono (ones-le 48 s.space.pivots s.space.within) in omega (arith, l))

pub counted-all : (times : ℕ) (x : Intersection) → strings_in x ≤ times → added_count times x ≡ strings_in x
counted-all times x l = grind (arith, l)
