-- The fields of a state as text.
use Rattle.std.specs.Prelude.{◌≡◌, Bool, true, false, ℕ, zero, suc, ◌+◌, ◌-◌, ◌≤◌, List, [], ◌∷◌, ◌++◌, pos, neg_ℤ, codes, count_ones, decimal, Some, Option}
use Rattle.std.specs.Fmt.{signed_decimal}
use Rattle.std.specs.Option.{unwrap_or}
use Rattle.quadratic.specs.Bits.{bit}
use Rattle.quadratic.specs.Fields.{row_of, linear_of, coupling_of}
use Rattle.quadratic.specs.declared.phased.PhasedSpace.{PhasedSpace}
use Rattle.stabilizer.specs.declared.state.StabilizerState.{StabilizerState}
use Rattle.listing.specs.Written.{ended}

-- the lowest n bits of a string, the highest first
abbrev pub bits_text : ℕ → ℕ → List ℕ
bits_text zero y = []
bits_text (suc n) y = (48 + bit y n) ∷ bits_text n y

-- f 1, .., f n
abbrev pub up_to : {A : Type 0} → (ℕ → A) → ℕ → List A
up_to f zero = []
up_to f (suc n) = up_to f n ++ f (suc n) ∷ []

-- what can be had as item 1 to n is shown as these texts
abbrev pub Shows : {D : Type 0} → ℕ → (D → Option (List ℕ)) → (ℕ → D → Type 0) → (ℕ → List ℕ) → Type 0
Shows {D} n output had text = (a : ℕ) (x : D) → 1 ≤ a → a ≤ n → had a x → output x ≡ Some (text a)

-- a text behind a comma, or alone
abbrev pub behind : Bool → List ℕ → List ℕ
behind true text = 44 ∷ text
behind false text = text

-- texts in turn, each behind a comma, the first only if others are before it
abbrev pub following : Bool → List (List ℕ) → List ℕ
following others [] = []
following others (x ∷ xs) = behind others x ++ following true xs

-- texts joined by commas; `-` stands for none
abbrev pub joined : List (List ℕ) → List ℕ
joined [] = codes "-"
joined (x ∷ xs) = following false (x ∷ xs)

abbrev pub dimension_of : PhasedSpace → ℕ
dimension_of s = count_ones s.space.pivots

-- row a, of n bits; its linear coefficient; its coupling with row b
abbrev pub row_text : ℕ → PhasedSpace → ℕ → List ℕ
row_text n s a = bits_text n (unwrap_or (row_of s a) 0)

abbrev pub linear_text : PhasedSpace → ℕ → List ℕ
linear_text s a = decimal (unwrap_or (linear_of s a) 0)

abbrev pub coupling_text : PhasedSpace → ℕ → ℕ → List ℕ
coupling_text s a b = decimal (unwrap_or (coupling_of s a b) 0)

-- the couplings of row a with the first n rows after it
abbrev pub couplings_of : PhasedSpace → ℕ → ℕ → List (List ℕ)
couplings_of s a n = up_to (λ b. coupling_text s a (a + b)) n

-- the couplings of the first n rows, each with all rows after it
abbrev pub coupling_texts : PhasedSpace → ℕ → List (List ℕ)
coupling_texts s zero = []
coupling_texts s (suc n) = coupling_texts s n ++ couplings_of s (suc n) (dimension_of s - suc n)

-- phase, rows, shift, linear coefficients, couplings
abbrev pub space_text : ℕ → PhasedSpace → List ℕ
space_text n s =
    decimal s.form.phase
    ++ (codes " "
    ++ (joined (up_to (row_text n s) (dimension_of s))
    ++ (codes " "
    ++ (bits_text n s.space.shift
    ++ (codes " " ++ (joined (up_to (linear_text s) (dimension_of s)) ++ (codes " " ++ joined (coupling_texts s (dimension_of s)))))))))

-- qubits, dimension, weight, and the space
abbrev pub fields_text : StabilizerState → List ℕ
fields_text s =
    decimal s.qubits
    ++ (codes " "
    ++ (decimal (dimension_of s.body)
    ++ (codes " " ++ (signed_decimal (neg_ℤ (pos s.loss)) ++ (codes " " ++ space_text s.qubits s.body)))))

-- the line of the state with the number i
abbrev pub state_line : ℕ → StabilizerState → List ℕ
state_line i s = ended (decimal i ++ (codes ": " ++ fields_text s))

-- a line for each state, numbered from i on
abbrev pub state_lines : ℕ → List StabilizerState → List ℕ
state_lines i [] = []
state_lines i (s ∷ ss) = state_line i s ++ state_lines (i + 1) ss
