-- The layout of a state's bits from a place on: which fields, how wide, and the rule of each.
use Rattle.std.specs.Prelude.{ℕ, zero, suc, ◌+◌, ◌-◌, ◌*◌, ◌/◌, ◌%◌, ◌^◌, Bool, true, cond, ◌&&◌, List, [], ◌∷◌, ◌++◌, length, Some, None, Option, ◌==◌, nat_le, nat_lt}
use Rattle.std.specs.Int.Count.{count_leading_zeros}
use Rattle.archive.specs.declared.fault.Field.{Field}
use Rattle.archive.specs.declared.fault.Field.TheVariants.{Qubits, Dimension, Weight, Phase, Row, Shift, Linear, Coupling, Fill, Rest}
use Rattle.archive.specs.declared.fault.Rule.{Rule}
use Rattle.archive.specs.declared.fault.Rule.TheVariants.{QubitRange, DimensionRange, WeightRange, EchelonForm, ZeroFill, NothingLeft}
use Rattle.archive.specs.declared.fault.StateFault.{StateFault}
use Rattle.archive.specs.declared.fault.StateFault.TheVariants.{Bits, Broken}
use Rattle.archive.specs.Bits.{bits_from}
use Rattle.archive.specs.First.{first}

-- a field: its name, its width, and the rule that a value of it breaks, if any
pub record Part : Type 0 where
  pub name : Field
  pub width : ℕ
  pub breaks : ℕ → Option Rule

-- a rule holds, or is broken
abbrev pub unless : Bool → Rule → Option Rule
unless t r = cond t None (Some r)

-- a field of any value, and one of the values from a lowest to a highest
abbrev pub free : Field → ℕ → Part
free x w = record { name = x; width = w; breaks = λ v. None }

abbrev pub ranged : Field → ℕ → ℕ → ℕ → Rule → Part
ranged x w low high r = record { name = x; width = w; breaks = λ v. unless (nat_le low v && nat_le v high) r }

abbrev pub blamed : Field → ℕ → Option Rule → Option StateFault
blamed x p None = None
blamed x p (Some r) = Some (Broken r x p)

-- what is wrong with a field at the place p: the bytes end inside it, or it breaks its rule
abbrev pub wrong : List ℕ → ℕ → Part → Option StateFault
wrong b p x = cond (nat_lt (8 * length b) (p + x.width)) (Some (Bits (record { field = x.name; place = p })))
    (blamed x.name p (x.breaks (bits_from b p x.width)))

-- the verdicts on fields that stand one after another from the place p on, and the place where these end
abbrev pub verdicts : List ℕ → ℕ → List Part → List (Option StateFault)
verdicts b p [] = []
verdicts b p (x ∷ xs) = wrong b p x ∷ verdicts b (p + x.width) xs

abbrev pub after : ℕ → List Part → ℕ
after p [] = p
after p (x ∷ xs) = after (p + x.width) xs

unfoldable pub first_fault : List ℕ → ℕ → List Part → Option StateFault
first_fault b p xs = first (verdicts b p xs)

-- row a, from 0, of a state of n qubits at the place p; and the position of the highest bit of a number
abbrev pub row_at : List ℕ → ℕ → ℕ → ℕ → ℕ
row_at b p n a = bits_from b (p + 28 + a * n) n

abbrev pub lead : ℕ → ℕ
lead v = 63 - count_leading_zeros 64 v

-- the lead of v is below that of the row before row a
abbrev pub descends : List ℕ → ℕ → ℕ → ℕ → ℕ → Bool
descends b p n v zero = true
descends b p n v (suc a) = nat_lt (lead v) (lead (row_at b p n a))

-- the rows before row a have a 0 at the position t
abbrev pub apart : List ℕ → ℕ → ℕ → ℕ → ℕ → Bool
apart b p n t zero = true
apart b p n t (suc a) = row_at b p n a / 2 ^ t % 2 == 0 && apart b p n t a

-- v may stand as row a: it is not 0, its lead is below the last, and no earlier row has a 1 there
abbrev pub in_order : List ℕ → ℕ → ℕ → ℕ → ℕ → Bool
in_order b p n v a = nat_lt 0 v && (descends b p n v a && apart b p n (lead v) a)

-- v has a 0 at the lead of each row before row a
abbrev pub off_leads : List ℕ → ℕ → ℕ → ℕ → ℕ → Bool
off_leads b p n v zero = true
off_leads b p n v (suc a) = v / 2 ^ lead (row_at b p n a) % 2 == 0 && off_leads b p n v a

-- the fields
abbrev pub qubits : Part
qubits = ranged Qubits 6 1 48 QubitRange

abbrev pub dimension : ℕ → Part
dimension n = ranged Dimension 6 0 n DimensionRange

abbrev pub weight : Part
weight = ranged Weight 13 0 4096 WeightRange

abbrev pub phase : Part
phase = free Phase 3

abbrev pub row : List ℕ → ℕ → ℕ → ℕ → Part
row b p n a = record { name = Row; width = n; breaks = λ v. unless (in_order b p n v a) EchelonForm }

abbrev pub shift : List ℕ → ℕ → ℕ → ℕ → Part
shift b p n k = record { name = Shift; width = n; breaks = λ v. unless (off_leads b p n v k) EchelonForm }

abbrev pub linear : Part
linear = free Linear 2

abbrev pub coupling : Part
coupling = free Coupling 1

-- from the place q to the end of the byte
abbrev pub padding : ℕ → ℕ
padding q = (8 - q % 8) % 8

abbrev pub fill : ℕ → Part
fill q = ranged Fill (padding q) 0 0 ZeroFill

-- the end of the bytes
abbrev pub rest : List ℕ → ℕ → Part
rest b q = record { name = Rest; width = 0; breaks = λ v. unless (nat_le (8 * length b) q) NothingLeft }

abbrev pub rows : List ℕ → ℕ → ℕ → ℕ → ℕ → List Part
rows b p n a zero = []
rows b p n a (suc m) = row b p n a ∷ rows b p n (a + 1) m

abbrev pub copies : ℕ → Part → List Part
copies zero x = []
copies (suc m) x = x ∷ copies m x

abbrev pub pairs : ℕ → ℕ
pairs k = k * (k - 1) / 2

-- the bits of a state before the fill, and all of them from the place p on
abbrev pub bits_before_fill : ℕ → ℕ → ℕ
bits_before_fill n k = 28 + k * n + n + k * 2 + pairs k

abbrev pub padded : ℕ → ℕ
padded q = q + padding q

-- the fields of a state of n qubits and dimension k at the place p: the header, the rows, the shift and the form
abbrev pub tail : List ℕ → ℕ → ℕ → ℕ → List Part
tail b p n k = shift b p n k ∷ copies k linear ++ (copies (pairs k) coupling ++ fill (p + bits_before_fill n k) ∷ [])

abbrev pub header : ℕ → List Part
header n = qubits ∷ dimension n ∷ weight ∷ phase ∷ []

abbrev pub layout : List ℕ → ℕ → ℕ → ℕ → List Part
layout b p n k = header n ++ (rows b p n 0 k ++ tail b p n k)

-- the sizes are those that the bytes themselves give
abbrev pub size_at : List ℕ → ℕ → ℕ
size_at b p = bits_from b p 6

abbrev pub rank_at : List ℕ → ℕ → ℕ
rank_at b p = bits_from b (p + 6) 6

-- the fields of the state at the place p, its first fault, and the place where it ends
unfoldable pub parts_at : List ℕ → ℕ → List Part
parts_at b p = layout b p (size_at b p) (rank_at b p)

unfoldable pub state_fault : List ℕ → ℕ → Option StateFault
state_fault b p = first_fault b p (parts_at b p)

unfoldable pub end_of_state : List ℕ → ℕ → ℕ
end_of_state b p = padded (p + bits_before_fill (size_at b p) (rank_at b p))

-- the verdicts on bytes that should hold one state and nothing else, and the first fault
unfoldable pub alone_verdicts : List ℕ → List (Option StateFault)
alone_verdicts b = verdicts b 0 (parts_at b 0 ++ rest b (end_of_state b 0) ∷ [])

unfoldable pub alone_fault : List ℕ → Option StateFault
alone_fault b = first (alone_verdicts b)
