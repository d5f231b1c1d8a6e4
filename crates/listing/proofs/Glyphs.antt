-- The digits that a list of digits begins with.
use Rattle.std.proofs.Common.{◌≡◌, ℕ, zero, suc, ◌+◌, ◌<◌, ◌≤◌, List, length, get_or, take, sym, refl, ap, ◌∙◌, subst, add-zero, zero-add, arith, length-take-le, get_or-take}
use Rattle.std.proofs.lemmas.List.{ext_get_or}
use Rattle.std.specs.Fmt.{HasWritten}
use Rattle.std.specs.declared.fmt.Formatter.{Formatter}
use Rattle.cyclotomic.specs.Columns.{glyph_of, glyphs}

length-glyphs : (f : ℕ → ℕ) (at n : ℕ) → length (glyphs f at n) ≡ n
length-glyphs f at zero = refl
length-glyphs f at (suc n) = ap suc (length-glyphs f (at + 1) n)

glyphs-at : (f : ℕ → ℕ) (at n k : ℕ) → k < n → get_or (glyphs f at n) k 0 ≡ glyph_of (f (at + k))
glyphs-at f at zero k h = absurd (omega arith)
glyphs-at f at (suc n) zero h = ap (λ (z : ℕ). glyph_of (f z)) (sym (add-zero at))
glyphs-at f at (suc n) (suc k) h = glyphs-at f (at + 1) n k (omega arith) ∙ ap (λ (z : ℕ). glyph_of (f z)) (omega arith)

-- a list that has the digits of f at its places begins with them
pub glyphs-front : (f : ℕ → ℕ) (xs : List ℕ) (n m : ℕ) → length xs ≡ m → n ≤ m → ((k : ℕ) → k < m → get_or xs k 0 ≡ glyph_of (f k))
    → take n xs ≡ glyphs f 0 n
glyphs-front f xs n m e h each =
    let size : length (take n xs) ≡ n = length-take-le n xs (omega (arith, e)) in
    ext_get_or 0 (take n xs) (glyphs f 0 n) (size ∙ sym (length-glyphs f 0 n))
    (λ k lt.
    let below : k < n = omega (arith, size) in
    get_or-take n xs k 0 below ∙ (each k (omega arith) ∙ (ap (λ (z : ℕ). glyph_of (f z)) (sym (zero-add k)) ∙ sym (glyphs-at f 0 n k below))))

-- the same bytes were written
pub same-put : {W : Type 0} {took : W → List ℕ → W → Type 0} {f g : Formatter W} {bs cs : List ℕ} → bs ≡ cs
    → HasWritten took f bs g → HasWritten took f cs g
same-put {W} {took} {f} {g} e p = subst (λ (xs : List ℕ). HasWritten took f xs g) e p
