-- Which variables a form sees.
use Rattle.std.proofs.Common.{◌≡◌, ℕ, ◌+◌, ◌*◌, ◌%◌, ◌^◌, ◌<◌, Some, None, Option, sym, refl, ap, ◌∙◌, ap₂, zero-mul, mul-one, arith}
use lib.Bits.{bit_and, bit_xor, and_self, and_comm, xor_zero_r}
use lib.Pow.{pow-lt}
use Rattle.quadratic.specs.Bits.{bit, dot}
use Rattle.quadratic.specs.Strings.{Appended}
use Rattle.quadratic.specs.declared.affine.AffineSpace.{AffineSpace}
use Rattle.quadratic.proofs.Bitlaws.{digit, bit-lt, bit-and}
use Rattle.quadratic.proofs.Dots.{and_assoc, and_xor, dot-comm, dot-pow}
use Rattle.quadratic.proofs.Laws.{and_pow}

-- values that depend on the bits of a mask alone
abbrev pub Seen : (ℕ → ℕ) → ℕ → Type 0
Seen v mask = (c : ℕ) → v c ≡ v (bit_and c mask)

-- what a mask shows, a wider one shows
pub wider : (v : ℕ → ℕ) (P P' : ℕ) → bit_and P' P ≡ P → Seen v P → Seen v P'
wider v P P' e h c = h c ∙ ap v (ap (bit_and c) (sym e) ∙ sym (and_assoc c P' P)) ∙ sym (h (bit_and c P'))

-- something is added that depends on the mask alone
pub seen-plus : (v v' k : ℕ → ℕ) (P : ℕ) → Seen v P → Seen k P → ((c : ℕ) → v' c ≡ (v c + k c) % 8) → Seen v' P
seen-plus v v' k P h hk law c = law c ∙ ap₂ (λ x y. (x + y) % 8) (h c) (hk c) ∙ sym (law (bit_and c P))

pub bit-seen : (P p : ℕ) → bit P p ≡ 1 → Seen (λ c. bit c p) P
bit-seen P p on c = sym (bit-and c P p ∙ ap (λ b. bit c p * b) on ∙ mul-one (bit c p))

-- one pivot more
pub one-wider : (P P' p : ℕ) → bit P p ≡ 0 → P' ≡ bit_xor P (2 ^ p) → bit_and P' P ≡ P
one-wider P P' p off e =
    and_comm P' P ∙ ap (bit_and P) e ∙ and_xor P P (2 ^ p)
    ∙ ap₂ bit_xor (and_self P) (and_comm P (2 ^ p) ∙ and_pow p P ∙ ap (λ b. b * 2 ^ p) off ∙ zero-mul (2 ^ p)) ∙ xor_zero_r P

pub appended-wider : (r : Option ℕ) (s s' : AffineSpace) (x : ℕ) → Appended r s s' x → bit_and s'.pivots s.pivots ≡ s.pivots
appended-wider (Some p) s s' x a =
    let P = s.pivots in
    let off : bit P p ≡ 0 = digit (λ b. bit P p ≡ b → b ≡ 0) (λ z. refl) (λ o. let g = a.0.below p o in absurd (omega arith))
    (bit P p) (bit-lt P p) refl in
    one-wider P s'.pivots p off a.1
appended-wider None s s' x a = ap (λ t. bit_and t.pivots s.pivots) a.0 ∙ and_self s.pivots

-- the mask of one variable
pub one-dot : (m p c : ℕ) → m ≡ 2 ^ p → dot m c ≡ bit c p
one-dot m p c e = ap (λ x. dot x c) e ∙ dot-comm (2 ^ p) c ∙ dot-pow c p

pub one_below : (m p : ℕ) → m ≡ 2 ^ p → p < 48 → m < 2 ^ 48
one_below m p e l = rw e (pow-lt l)
