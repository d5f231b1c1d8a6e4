-- Sums over the numbers below n.
use Rattle.std.specs.Prelude.{ℕ, zero, suc, Bool, true, false}
use Rattle.cyclotomic.specs.Ring.{Ops}

abbrev pub sum_to : {R : Type 0} → Ops R → (ℕ → R) → ℕ → R
sum_to o f zero = o.nil
sum_to o f (suc n) = o.plus (sum_to o f n) (f n)

-- x if b holds, and else nil
abbrev pub only : {R : Type 0} → Ops R → Bool → R → R
only o true x = x
only o false x = o.nil
