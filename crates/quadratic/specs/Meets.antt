-- The fields of an intersection, none where it is empty.
use Rattle.std.specs.Prelude.{ℕ, ◌^◌, Option, option_and_then, count_ones}
use Rattle.std.specs.Option.{option_map, option_map_or}
use Rattle.quadratic.specs.Fields.{row_of, linear_of, coupling_of}
use Rattle.quadratic.specs.declared.intersection.Intersection.{Intersection}

abbrev pub dimension_in : Intersection → Option ℕ
dimension_in x = option_map (λ s. count_ones s.space.pivots) x.space

abbrev pub phase_in : Intersection → Option ℕ
phase_in x = option_map (λ s. s.form.phase) x.space

abbrev pub shift_inside : Intersection → Option ℕ
shift_inside x = option_map (λ s. s.space.shift) x.space

abbrev pub row_in : Intersection → ℕ → Option ℕ
row_in x a = option_and_then (λ s. row_of s a) x.space

abbrev pub linear_in : Intersection → ℕ → Option ℕ
linear_in x a = option_and_then (λ s. linear_of s a) x.space

abbrev pub coupling_in : Intersection → ℕ → ℕ → Option ℕ
coupling_in x a b = option_and_then (λ s. coupling_of s a b) x.space

-- how many strings there are
abbrev pub strings_in : Intersection → ℕ
strings_in x = option_map_or (λ s. 2 ^ count_ones s.space.pivots) x.space 0
