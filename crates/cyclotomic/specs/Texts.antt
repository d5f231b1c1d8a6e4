-- How scalars, refusals and values of the rings are printed.
use Rattle.std.specs.Prelude.{ℕ, ◌/◌, ◌%◌, List, ◌++◌, codes, decimal}
use Rattle.std.specs.Fmt.{signed_decimal}
use Rattle.cyclotomic.specs.Columns.{glyphs, hex_at, word_at}
use Rattle.cyclotomic.specs.Refusals.{number_of}
use Rattle.cyclotomic.specs.Scalars.{Triple}
use Rattle.cyclotomic.specs.declared.refusal.Refusal.{Refusal}

-- ε p m
abbrev pub triple_text : Triple → List ℕ
triple_text x = decimal x.0 ++ (codes " " ++ (signed_decimal x.1 ++ (codes " " ++ decimal x.2)))

-- refused, and the number of the refusal
abbrev pub refusal_text : Refusal → List ℕ
refusal_text e = codes "refused " ++ decimal (number_of e)

-- two digits of a residue
abbrev pub residue_text : ℕ → List ℕ
residue_text r = glyphs (hex_at 2 r) 0 2

-- sixteen digits of each of four words
abbrev pub words_text : ℕ → ℕ → ℕ → ℕ → List ℕ
words_text a b c d = glyphs (λ i. hex_at 16 (word_at a b c d (i / 16)) (i % 16)) 0 64
