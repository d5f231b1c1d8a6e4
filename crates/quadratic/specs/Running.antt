-- What adding a string to a running sum does.
use Rattle.std.specs.Prelude.{ℕ, cond, nat_le, nat_lt}
use Rattle.std.specs.Option.{option_map_or}
use Rattle.cyclotomic.specs.Ring.{Ops}
use Rattle.quadratic.specs.Meets.{strings_in}
use Rattle.quadratic.specs.Sums.{term_at}
use Rattle.quadratic.specs.declared.intersection.Intersection.{Intersection}

-- refused with 24 once every string has been added, and at once where there is none
abbrev pub add_number : ℕ → Intersection → ℕ
add_number count x = cond (nat_lt count (strings_in x)) 0 24

-- how many strings so many calls add
abbrev pub added_count : ℕ → Intersection → ℕ
added_count times x = cond (nat_le times (strings_in x)) times (strings_in x)

-- the last answer to so many calls: 24 where there were more than strings
abbrev pub last_number : ℕ → Intersection → ℕ
last_number times x = cond (nat_le times (strings_in x)) 0 24

-- w to the power of the form's value at the string numbered by c
abbrev pub term_in : {R : Type 0} → Ops R → Intersection → ℕ → R
term_in o x c = option_map_or (λ s. term_at o s c) x.space o.nil
