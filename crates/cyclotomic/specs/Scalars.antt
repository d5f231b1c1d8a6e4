-- Scalars as triples (ε, p, m), and the number that one stands for in a ring.
use Rattle.std.specs.Prelude.{◌≡◌, ℕ, zero, suc, ◌%◌, ◌<◌, ◌⊎◌, ℤ, pos, negsuc, ◌<ℤ◌, Option, Some, None}
use Rattle.cyclotomic.specs.Ring.{Ops, exact}
use Rattle.cyclotomic.specs.declared.scalar.Scalar.{Scalar}
use Rattle.cyclotomic.specs.declared.scalar.Term.{Term}

-- (ε, p, m) stands for ε · 2^(p/2) · ω^m
abbrev pub Triple : Type 0
Triple = ℕ × ℤ × ℕ

abbrev pub nought : Triple
nought = (0, pos 0, 0)

abbrev pub triple_of_term : Option Term → Triple
triple_of_term None = nought
triple_of_term (Some t) = (1, t.power, t.turn)

abbrev pub triple_of : Scalar → Triple
triple_of x = triple_of_term x.term

abbrev pub unit : ℤ → ℕ → Triple
unit p m = (1, p, m % 8)

-- the triples that there are
abbrev pub Kind : Triple → Type 0
Kind x = (x ≡ nought) ⊎ ((x.0 ≡ 1) × (x.2 < 8))

-- whether a triple has a negative power
abbrev pub Negative : Triple → Type 0
Negative x = x.1 <ℤ pos 0

-- r^p w^m, for a power p that is not negative
abbrev pub powered : {R : Type 0} → Ops R → ℤ → ℕ → R
powered o (pos p) m = exact o p m
powered o (negsuc p) m = o.nil

abbrev pub chosen : {R : Type 0} → Ops R → ℕ → ℤ → ℕ → R
chosen o zero p m = o.nil
chosen o (suc e) p m = powered o p m

-- the value of a triple in a ring
abbrev pub embedded : {R : Type 0} → Ops R → Triple → R
embedded o x = chosen o x.0 x.1 x.2
