-- The matrices of gates and Paulis: each moves the strings by an involution, and its inverse undoes the powers of ω.
use Rattle.std.proofs.Common.{◌≡◌, ℕ, suc, ◌+◌, ◌-◌, ◌*◌, ◌/◌, ◌%◌, ◌^◌, ◌<◌, ◌≤◌, true, not, eqb, leb, ◌≢◌, List, [], ◌∷◌, length, sym, refl, ap, ◌∙◌, subst, add-zero, mod-eq_of_lt, one-mul, pow-suc, mul-zero, zero-mul, one-add, arith, pow_pos}
use lib.Bits.{bit_xor, xor_lt, xor_zero_r}
use lib.Pow.{pow-lt, field, high, low, mod-mod-pow}
use Rattle.std.proofs.lemmas.Bool.{and_parts, leb-true, eqb-false, not-true}
use Rattle.quadratic.specs.Bits.{bit}
use Rattle.quadratic.proofs.Bitlaws.{digit, bit-lt, bit-xor, bit-pow-other}
use Rattle.quadratic.proofs.Linear.{back, linear-pick, bit-linear}
use Rattle.stabilizer.specs.Gates.{Monomial, is_qubit, alone, apart, takes, gate_matrix}
use Rattle.stabilizer.specs.Paulis.{Letter, I, X as PX, Y as PY, Z as PZ, Pauli, flip, turn, flips, turns, pauli_matrix}
use Rattle.stabilizer.specs.declared.gate.Gate.{Gate}
use Rattle.stabilizer.specs.declared.gate.Gate.TheVariants.{X, Z, S, SDagger, CNot, CZ}

-- the move of M is an involution of the strings, N has the same, and the powers of ω cancel
pub record Opposite (n : ℕ) (M N : Monomial) : Type 0 where
  pub inside : (y : ℕ) → y < 2 ^ n → M.move y < 2 ^ n
  pub back : (y : ℕ) → M.move (M.move y) ≡ y
  pub together : (y : ℕ) → N.move y ≡ M.move y
  pub undone : (y : ℕ) → (N.turn y + M.turn (M.move y)) % 8 ≡ 0

abbrev flipped : (ℕ → ℕ) → (ℕ → ℕ) → Monomial
flipped mask t = record { turn = t; move = λ y. bit_xor y (mask y) }

-- matrices that flip the bits of a mask, where flipping leaves the mask as it is
flip-opposite : (n : ℕ) (mask t t' : ℕ → ℕ) → ((y : ℕ) → mask y < 2 ^ n) → ((y : ℕ) → mask (bit_xor y (mask y)) ≡ mask y)
    → ((y : ℕ) → (t' y + t (bit_xor y (mask y))) % 8 ≡ 0) → Opposite n (flipped mask t) (flipped mask t')
flip-opposite n mask t t' small steady undone = record {
  inside = λ y h. xor_lt n y (mask y) h (small y);
  back = λ y. ap (bit_xor (bit_xor y (mask y))) (steady y) ∙ back y (mask y);
  together = λ y. refl;
  undone = undone;
}

-- matrices that move nothing
still-opposite : (n : ℕ) (t t' : ℕ → ℕ) → ((y : ℕ) → (t' y + t y) % 8 ≡ 0) → Opposite n (flipped (λ y. 0) t) (flipped (λ y. 0) t')
still-opposite n t t' h = flip-opposite n (λ y. 0) t t' (λ y. pow_pos n) (λ y. refl) (λ y. rw xor_zero_r (h y))

-- ---- gates

-- S and S† are the inverses of each other, and every other gate is its own
abbrev pub inverseGate : Gate → Gate
inverseGate X = X
inverseGate Z = Z
inverseGate S = SDagger
inverseGate SDagger = S
inverseGate CNot = CNot
inverseGate CZ = CZ

pub takes-inverse : (g : Gate) (n j l : ℕ) → takes (inverseGate g) n j l ≡ takes g n j l
takes-inverse X n j l = refl
takes-inverse Z n j l = refl
takes-inverse S n j l = refl
takes-inverse SDagger n j l = refl
takes-inverse CNot n j l = refl
takes-inverse CZ n j l = refl

qubit-bounds : (n j : ℕ) → is_qubit n j ≡ true → (1 ≤ j) × (j ≤ n)
qubit-bounds n j h = let (a, b) = and_parts (leb 1 j) (leb j n) h in (leb-true 1 j a, leb-true j n b)

first-qubit : (n j l : ℕ) → alone n j l ≡ true → 2 ^ (n - j) < 2 ^ n
first-qubit n j l h = let (a, b) = qubit-bounds n j (and_parts (is_qubit n j) (eqb l 0) h).0 in pow-lt (omega arith)

second-qubit : (n j l : ℕ) → apart n j l ≡ true → (2 ^ (n - l) < 2 ^ n) × (n - j ≢ n - l)
second-qubit n j l h =
    let (p, q) = and_parts (is_qubit n j) _ h in
    let (r, d) = and_parts (is_qubit n l) (not (eqb j l)) q in
    let (a, b) = qubit-bounds n j p in
    let (c, e) = qubit-bounds n l r in
    let ne = eqb-false j l (not-true (eqb j l) d) in
    (pow-lt (omega arith), λ s. ne (omega arith))

-- flipping one bit leaves another
bit-other : (y a i k : ℕ) → a < 2 → i ≢ k → bit (bit_xor y (a * 2 ^ k)) i ≡ bit y i
bit-other y a i k h ne =
    bit-xor y (a * 2 ^ k) i
    ∙ ap (λ b. (bit y i + b) % 2) (linear-pick (λ x. bit x i) (bit-linear i) a (2 ^ k) h ∙ ap (◌*◌ a) (bit-pow-other k i ne) ∙ mul-zero a)
    ∙ ap (λ x. x % 2) (add-zero (bit y i)) ∙ mod-eq_of_lt (bit-lt y i)

pick-lt : (a m n : ℕ) → a < 2 → m < 2 ^ n → a * m < 2 ^ n
pick-lt a m n h l = digit (λ a. a * m < 2 ^ n) (rw zero-mul (pow_pos n)) (rw one-mul l) a h

pub gate-opposite : (n : ℕ) (g : Gate) (j l : ℕ) → takes g n j l ≡ true
    → Opposite n (gate_matrix n g j l) (gate_matrix n (inverseGate g) j l)
gate-opposite n X j l h = flip-opposite n _ _ _ (λ y. first-qubit n j l h) (λ y. refl) (λ y. refl)
gate-opposite n Z j l h = still-opposite n _ _ (λ y. omega arith)
gate-opposite n S j l h = still-opposite n _ _ (λ y. omega arith)
gate-opposite n SDagger j l h = still-opposite n _ _ (λ y. omega arith)
gate-opposite n CNot j l h =
    let (small, ne) = second-qubit n j l h in
    flip-opposite n _ _ _ (λ y. pick-lt (bit y (n - j)) (2 ^ (n - l)) n (bit-lt y (n - j)) small)
    (λ y. ap (λ b. b * 2 ^ (n - l)) (bit-other y (bit y (n - j)) (n - j) (n - l) (bit-lt y (n - j)) ne)) (λ y. refl)
gate-opposite n CZ j l h = still-opposite n _ _ (λ y. omega arith)

-- ---- Paulis: at each letter the powers at a bit and at the bit that it becomes add up to a multiple of 8

turn-back : (l : Letter) (b : ℕ) → b < 2 → (turn l ((b + flip l) % 2) + turn l b) % 8 ≡ 0
turn-back I b h = refl
turn-back PX b h = refl
turn-back PY b h = digit (λ b. (turn PY ((b + 1) % 2) + turn PY b) % 8 ≡ 0) refl refl b h
turn-back PZ b h = digit (λ b. (turn PZ ((b + 0) % 2) + turn PZ b) % 8 ≡ 0) refl refl b h

flip-lt : (l : Letter) → flip l < 2
flip-lt I = omega arith
flip-lt PX = omega arith
flip-lt PY = omega arith
flip-lt PZ = omega arith

flips-lt : (ls : List Letter) → flips ls < 2 ^ length ls
flips-lt [] = pow_pos 0
flips-lt (l ∷ ls) =
    let below = flips-lt ls in
    let double = pow-suc 2 (length ls) in
    digit (λ b. b * 2 ^ length ls + flips ls < 2 ^ suc (length ls)) (omega arith) (omega arith) (flip l) (flip-lt l)

-- bit k as the highest of k + 1 bits
top : (f k : ℕ) → bit f k ≡ f % 2 ^ (1 + k) / 2 ^ k
unfolding bit
top f k = sym (field f 1 k)

-- whatever else is flipped above the letters
turns-back : (ls : List Letter) (y f : ℕ) → f % 2 ^ length ls ≡ flips ls → (turns ls (bit_xor y f) + turns ls y) % 8 ≡ 0
turns-back [] y f h = refl
turns-back (l ∷ ls) y f h =
    let k = length ls in
    let here : f % 2 ^ (1 + k) ≡ flip l * 2 ^ k + flips ls = ap (λ m. f % 2 ^ m) (one-add k) ∙ h in
    let low-is : f % 2 ^ k ≡ flips ls = sym (mod-mod-pow f 1 k) ∙ ap (λ x. x % 2 ^ k) here ∙ low (flip l) k (flips-lt ls) in
    let high_is : bit f k ≡ flip l = top f k ∙ ap (λ x. x / 2 ^ k) here ∙ high (flip l) k (flips-lt ls) in
    let e : bit (bit_xor y f) k ≡ (bit y k + flip l) % 2 = bit-xor y f k ∙ ap (λ x. (bit y k + x) % 2) high_is in
    ap (λ b. (turn l b + turns ls (bit_xor y f) + (turn l (bit y k) + turns ls y)) % 8) e
    ∙ omega (arith, turn-back l (bit y k) (bit-lt y k), turns-back ls y f low-is)

pub pauli-opposite : (n : ℕ) (P : Pauli) → length P.letters ≡ n → Opposite n (pauli_matrix P) (pauli_matrix P)
pauli-opposite n P h =
    let ls = P.letters in
    let f = flips ls in
    flip-opposite n (λ y. f) _ _ (λ y. subst (λ m. f < 2 ^ m) h (flips-lt ls)) (λ y. refl)
    (λ y. rw back (omega (arith, turns-back ls y f (mod-eq_of_lt (flips-lt ls)))))
