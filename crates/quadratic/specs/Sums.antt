-- Sums of powers of w over the strings of a space, and what is left of one while variables are summed out.
use Rattle.std.specs.Prelude.{◌≡◌, ℕ, zero, suc, ◌+◌, ◌*◌, ◌%◌, ◌^◌, ◌<◌, ◌≤◌, cond, pos, Some, None, Option, MatchOption, ◌==◌, bit_xor, count_ones}
use Rattle.std.specs.Option.{option_map_or}
use Rattle.cyclotomic.specs.Adjoin.{omegas}
use Rattle.cyclotomic.specs.Ring.{Ops, wpow, rpow, exact}
use Rattle.cyclotomic.specs.Scalars.{triple_of, nought, embedded}
use Rattle.cyclotomic.specs.Sum.{sum_to}
use Rattle.cyclotomic.specs.declared.scalar.Scalar.{Scalar}
use Rattle.quadratic.specs.Bits.{bit}
use Rattle.quadratic.specs.Numbering.{spread}
use Rattle.quadratic.specs.Value.{value_at}
use Rattle.quadratic.specs.declared.form.QuadraticForm.{QuadraticForm}
use Rattle.quadratic.specs.declared.phased.PhasedSpace.{PhasedSpace}
use Rattle.quadratic.specs.declared.intersection.Intersection.{Intersection}

-- w to the power of the form's value at the string numbered by c
abbrev pub term_at : {R : Type 0} → Ops R → PhasedSpace → ℕ → R
term_at o s c = wpow o (value_at s.form (spread 48 s.space.pivots c))

-- w to the power of a phase, and nil where there is none
abbrev pub term_of : {R : Type 0} → Ops R → Option ℕ → R
term_of o (Some m) = wpow o m
term_of o None = o.nil

-- the sum over the strings of a space, in a ring
abbrev pub sum_over : {R : Type 0} → Ops R → PhasedSpace → R
sum_over o s = sum_to o (term_at o s) (2 ^ count_ones s.space.pivots)

-- the sum over all strings, in a ring
abbrev pub total : {R : Type 0} → Ops R → Intersection → R
total o x = option_map_or (sum_over o) x.space o.nil

-- zero, or 2^(p/2) ω^m with d ≤ p ≤ 2 d
abbrev pub Between : ℕ → Scalar → Type 0
Between d x = (triple_of x).0 ≡ 1 → (p : ℕ) × ((triple_of x).1 ≡ pos p) × (d ≤ p) × (p ≤ 2 * d)

abbrev pub Bounded : Intersection → Scalar → Type 0
Bounded i x = MatchOption i.space (triple_of x ≡ nought) (λ s. Between (count_ones s.space.pivots) x)

-- x is 0 exactly where the sum over all strings is
pub record Vanishing (i : Intersection) (x : Scalar) : Type 0 where
  pub vanishes : (triple_of x).0 ≡ 0 → total omegas i ≡ omegas.nil
  pub only : total omegas i ≡ omegas.nil → (triple_of x).0 ≡ 0

-- x is the exponential sum
pub record IsSum (i : Intersection) (x : Scalar) : Type 0 where
  pub bounds : Bounded i x
  pub exact : embedded omegas (triple_of x) ≡ total omegas i

-- the sum of f over c and what comes of it by turning over bits of the mask below n
unfoldable pub over : {R : Type 0} → Ops R → (ℕ → R) → ℕ → ℕ → ℕ → R
over o f mask zero c = f c
over o f mask (suc n) c = cond (bit mask n == 1) (o.plus (over o f mask n c) (over o f mask n (bit_xor c (2 ^ n)))) (over o f mask n c)

-- w to the power of a form's value
abbrev pub form_power : {R : Type 0} → Ops R → QuadraticForm → ℕ → R
form_power o f c = wpow o (value_at f c)

-- the root of 2 to a power times the sum over the live variables
abbrev pub left_of : {R : Type 0} → Ops R → QuadraticForm → ℕ → ℕ → R
left_of o f live power = o.times (rpow o power) (over o (form_power o f) live 48 0)

-- the sum stays as it was while `gone` variables go and the power rises by `more`
pub record Reduced (f f' : QuadraticForm) (live live' power power' gone more : ℕ) : Type 0 where
  pub same : left_of omegas f' live' power' ≡ left_of omegas f live power
  pub count : count_ones live' + gone ≡ count_ones live
  pub powers : power' ≡ power + more

-- one step: some variables went
pub record Stepped (f f' : QuadraticForm) (live live' power power' : ℕ) : Type 0 where
  pub same : left_of omegas f' live' power' ≡ left_of omegas f live power
  pub fewer : count_ones live' < count_ones live
  pub least : power + count_ones live ≤ power' + count_ones live'
  pub most : power' + 2 * count_ones live' ≤ power + 2 * count_ones live

-- what is left of the sum is 0
abbrev pub Cancelled : QuadraticForm → ℕ → ℕ → Type 0
Cancelled f live power = left_of omegas f live power ≡ omegas.nil

-- all steps: the sum is 2^(power/2) ω^phase
pub record Ended (f f' : QuadraticForm) (live power power' : ℕ) : Type 0 where
  pub same : exact omegas power' (f'.phase % 8) ≡ left_of omegas f live power
  pub least : power + count_ones live ≤ power'
  pub most : power' ≤ power + 2 * count_ones live
