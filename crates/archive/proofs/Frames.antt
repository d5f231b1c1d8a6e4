-- Bits that a part of the writing leaves as they are.
use Rattle.std.proofs.Common.{◌≡◌, ℕ, ◌+◌, ◌*◌, ◌<◌, ◌≤◌, List, sym, ◌∙◌, subst, mul-le-mul_right, add-mul, one-mul, arith, below_more}
use Rattle.std.proofs.lemmas.Nat.{mul-le}
use Rattle.archive.specs.Bits.{bit_at, bits_from, Framed}
use Rattle.archive.proofs.Laws.{bits-same}

-- the bits below a place are the same
abbrev pub Agree : List ℕ → List ℕ → ℕ → Type 0
Agree b b' to = (q : ℕ) → q < to → bit_at b' q ≡ bit_at b q

pub keep : (b b' : List ℕ) (to q w : ℕ) → Agree b b' to → q + w ≤ to → bits_from b' q w ≡ bits_from b q w
keep b b' to q w f h = bits-same b' b q w (λ j l. f (q + j) (omega arith))

-- a field before what is written
pub keep-before : (b b' : List ℕ) (from to q w : ℕ) → Framed b b' from to → q + w ≤ from → bits_from b' q w ≡ bits_from b q w
keep-before b b' from to q w f h = keep b b' from q w f.0 h

-- the same places, named otherwise
pub reframe : (b b' : List ℕ) (p q p' q' : ℕ) → p ≡ p' → q ≡ q' → Framed b b' p q → Framed b b' p' q'
reframe b b' p q p' q' e h f = (λ x l. f.0 x (omega arith), λ x l. f.1 x (omega arith))

-- one part of the writing after another
pub both : (b₀ b₁ b₂ : List ℕ) (p q r : ℕ) → p ≤ q → q ≤ r → Framed b₀ b₁ p q → Framed b₁ b₂ q r → Framed b₀ b₂ p r
both b₀ b₁ b₂ p q r h g f e = (λ x l. e.0 x (omega arith) ∙ f.0 x l, λ x l. e.1 x l ∙ f.1 x (omega arith))

-- the place after j fields of one width
pub next_place : (p j w : ℕ) → p + (j + 1) * w ≡ p + j * w + w
next_place p j w = let m = add-mul j 1 w in let o = one-mul w in omega arith

pub field-within : (p i j w : ℕ) → i < j → p + i * w + w ≤ p + j * w
field-within p i j w h =
    let e = next_place p i w in
    let l : (i + 1) * w ≤ j * w = mul-le-mul_right w (omega arith) in omega arith

-- one field of one width more, of which P says what stands there
pub put_more : (P : ℕ → ℕ → Type 0) (b d : List ℕ) (p w j v : ℕ) → Framed b d (p + j * w) (p + j * w + w)
    → bits_from d (p + j * w) w ≡ v → P j v
    → ((i : ℕ) → i < j → P i (bits_from b (p + i * w) w)) → (i : ℕ) → i < j + 1 → P i (bits_from d (p + i * w) w)
put_more P b d p w j v framed there here old =
    below_more _ _
    (λ i l. subst (P i) (sym (keep-before b d _ _ (p + i * w) w framed (field-within p i j w l))) (old i l))
    (subst (P j) (sym there) here)

pub framed_more : (b₀ b d : List ℕ) (p w j : ℕ) → Framed b₀ b p (p + j * w) → Framed b d (p + j * w) (p + j * w + w)
    → Framed b₀ d p (p + (j + 1) * w)
framed_more b₀ b d p w j old framed = rw (next_place p j w) (both b₀ b d p _ _ (omega arith) (omega arith) old framed)

-- a field of k ≤ 48 lies before the end, near the front
pub inside : (p j k w : ℕ) → j < k → k ≤ 48 → w ≤ 64 → (p + j * w + w ≤ p + k * w) × (j * w ≤ 3072)
inside p j k w l h e = (field-within p j k w l, mul-le j w 48 64 (omega arith) e)
