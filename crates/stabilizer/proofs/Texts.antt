-- How Pauli texts are read: their lengths, and what one letter more does to the masks.
use Rattle.std.proofs.Common.{◌≡◌, ℕ, suc, ◌+◌, ◌*◌, ◌/◌, ◌%◌, ◌^◌, ◌<◌, ◌≤◌, Bool, true, false, cond, eqb, List, [], ◌∷◌, ◌++◌, length, Some, None, Ok, Err, Option, sym, refl, ap, ◌∙◌, subst, ap₂, lt_of_le_of_lt, mod-lt, mod-eq_of_lt, one-mul, pow-suc, zero-mul, arith, pow_pos}
use lib.Bits.{bit_and, and_block, and_mod, and_le_l, and_lt, and_comm, and_mask, and_zero_l}
use lib.Count.{ones, ones_cat}
use lib.Pow.{split}
use Rattle.std.proofs.lemmas.Bool.{eqb-true}
use Rattle.std.proofs.lemmas.List.{append_assoc}
use Rattle.cyclotomic.specs.declared.refusal.Refusal.{Refusal}
use Rattle.quadratic.specs.Bits.{bit, dot}
use Rattle.quadratic.proofs.Bitlaws.{digit}
use Rattle.stabilizer.specs.Masks.{sign, WithLetter, Added, MasksOf, MaskedLetters, SignedMasks, Masked}
use Rattle.stabilizer.specs.Paulis.{Letter, I, X, Y, Z, Pauli, flip, turn, turns, letter_of, letters_of, sign_of, joined, signed, pauli_of}
use Rattle.stabilizer.specs.Paulis.{read_number, text_number}
use Rattle.stabilizer.specs.declared.pauli.PauliMasks.{PauliMasks}

-- ---- lengths

-- there is a letter for every byte
letters-length : (text : List ℕ) (ls : List Letter) → letters_of text ≡ Some ls → length ls ≡ length text
letters-length [] ls e = let z : [] ≡ ls = cc in ap length (sym z)
letters-length (b ∷ text) ls e = go (letter_of b) (letters_of text) (letters-length text) e
  where
    go : (o : Option Letter) (p : Option (List Letter)) → ((ks : List Letter) → p ≡ Some ks → length ks ≡ length text)
        → joined o p ≡ Some ls
        → length ls ≡ suc (length text)
    go (Some a) (Some ks) h e = let z : a ∷ ks ≡ ls = cc in ap length (sym z) ∙ ap suc (h ks refl)
    go (Some a) None h e = let z : ◌≡◌ {A = ℕ} 0 1 = cc in absurd (omega arith)
    go None p h e = let z : ◌≡◌ {A = ℕ} 0 1 = cc in absurd (omega arith)

-- a Pauli has a letter for every byte of its text but the first
pub pauli-length : (text : List ℕ) (P : Pauli) → pauli_of text ≡ Some P → length text ≡ length P.letters + 1
pauli-length [] P e = let z : ◌≡◌ {A = ℕ} 0 1 = cc in absurd (omega arith)
pauli-length (b ∷ text) P e = go (sign_of b) (letters_of text) (letters-length text) e
  where
    letters-of : Option Pauli → List Letter
    letters-of (Some Q) = Q.letters
    letters-of None = []

    go : (o : Option ℕ) (p : Option (List Letter)) → ((ks : List Letter) → p ≡ Some ks → length ks ≡ length text) → signed o p ≡ Some P
        → suc (length text) ≡ length P.letters + 1
    go (Some a) (Some ks) h e = let z : ks ≡ P.letters = ap letters-of e in let w = ap length z in let u = h ks refl in omega arith
    go (Some a) None h e = let z : ◌≡◌ {A = ℕ} 0 1 = cc in absurd (omega arith)
    go None p h e = let z : ◌≡◌ {A = ℕ} 0 1 = cc in absurd (omega arith)

-- a text that is not refused has n + 1 bytes
pub text-length : (n : ℕ) (text : List ℕ) → text_number n text ≡ 0 → length text ≡ n + 1
text-length n text e = go (eqb (length text) (n + 1)) refl e
  where
    go : (b : Bool) → eqb (length text) (n + 1) ≡ b → cond b (read_number (pauli_of text)) 11 ≡ 0 → length text ≡ n + 1
    go true h e = eqb-true _ _ h
    go false h e = absurd (omega arith)

-- a byte that is no letter spoils every text that ends with it and what follows
letters-none : (front back : List ℕ) → letters_of back ≡ None → letters_of (front ++ back) ≡ None
letters-none [] back e = e
letters-none (b ∷ front) back e = ap (joined (letter_of b)) (letters-none front back e) ∙ go (letter_of b)
  where
    go : (o : Option Letter) → joined o None ≡ None
    go (Some l) = refl
    go None = refl

-- ---- masks

turn_is : (l : Letter) (b : ℕ) → turn l b ≡ 2 * (flip l * sign l) + 4 * (sign l * b)
turn_is I b = omega arith
turn_is X b = omega arith
turn_is Y b = omega arith
turn_is Z b = omega arith

flip-lt : (l : Letter) → flip l < 2
flip-lt I = omega arith
flip-lt X = omega arith
flip-lt Y = omega arith
flip-lt Z = omega arith

sign-lt : (l : Letter) → sign l < 2
sign-lt I = omega arith
sign-lt X = omega arith
sign-lt Y = omega arith
sign-lt Z = omega arith

ones_and : (m a : ℕ) → a < 2 → ones (bit_and a m) ≡ a * (m % 2)
unfolding ones
ones_and m = digit (λ a. ones (bit_and a m) ≡ a * (m % 2)) (sym (zero-mul (m % 2)))
    (ap ones (and_comm 1 m ∙ and_mask m 1) ∙ digit (λ b. ones b ≡ b) refl refl (m % 2) (omega arith) ∙ sym (one-mul (m % 2)))

-- the parity with one more bit on top of a mask
dot-more : (k a r x : ℕ) → a < 2 → r < 2 ^ k → dot (a * 2 ^ k + r) x ≡ (a * bit x k + dot r x) % 2
unfolding dot bit
dot-more k a r x ha hr =
    let below : x % 2 ^ k < 2 ^ k = mod-lt x (pow_pos k) in
    let lower : bit_and r (x % 2 ^ k) ≡ bit_and r x = ap (λ s. bit_and s (x % 2 ^ k)) (sym (mod-eq_of_lt hr)) ∙ sym (and_mod r x k)
    ∙ mod-eq_of_lt (lt_of_le_of_lt (and_le_l r x) hr) in
    ap (λ n. n % 2)
    (ap (λ s. ones (bit_and (a * 2 ^ k + r) s)) (sym (split x k)) ∙ ap ones (and_block k a (x / 2 ^ k) r (x % 2 ^ k) hr below)
    ∙ ones_cat k (bit_and a (x / 2 ^ k)) (bit_and r (x % 2 ^ k)) (and_lt k r (x % 2 ^ k) hr below)
    ∙ ap₂ ◌+◌ (ones_and (x / 2 ^ k) a ha) (ap ones lower))
    ∙ inside (a * (x / 2 ^ k % 2)) (ones (bit_and r x))
  where
    inside : (a b : ℕ) → (a + b) % 2 ≡ (a + b % 2) % 2
    inside a b = omega arith

-- the powers of ω of one letter and of the others, put together
turn_more : (t y s t' y' d e : ℕ) → t ≡ 2 * y + 4 * s → t' % 8 ≡ (2 * y' + 4 * d) % 8 → e ≡ (s + d) % 2
    → (t + t') % 8 ≡ (2 * (y' + y) + 4 * e) % 8
turn_more t y s t' y' d e p q r =
    add t (2 * y + 4 * s) t' (2 * y' + 4 * d) (ap (λ n. n % 8) p) q
    ∙ ap (λ n. n % 8) (omega arith)
    ∙ add (2 * (y' + y)) (2 * (y' + y)) (4 * (s + d)) (4 * e) refl (sym (ap (λ n. 4 * n % 8) r ∙ four (s + d)))
  where
    four : (x : ℕ) → 4 * (x % 2) % 8 ≡ 4 * x % 8
    four x = omega arith

    add : (a b c d : ℕ) → a % 8 ≡ b % 8 → c % 8 ≡ d % 8 → (a + c) % 8 ≡ (b + d) % 8
    add a b c d p q = omega arith

bit-more : (k b r : ℕ) → b < 2 → r < 2 ^ k → b * 2 ^ k + r < 2 ^ suc k
bit-more k b r h l = let double = pow-suc 2 k in digit (λ b. b * 2 ^ k + r < 2 ^ suc k) (omega arith) (omega arith) b h

masks-more : (l : Letter) (ls : List Letter) (m m' : PauliMasks) (place : ℕ) → place ≡ length ls → MasksOf ls m → WithLetter m' l m place
    → MasksOf (l ∷ ls) m'
masks-more l ls m m' place e h w =
    let k = length ls in
    let fl : m'.flips ≡ flip l * 2 ^ k + m.flips = w.flips ∙ ap (λ p. flip l * 2 ^ p + m.flips) e in
    let si : m'.signs ≡ sign l * 2 ^ k + m.signs = w.signs ∙ ap (λ p. sign l * 2 ^ p + m.signs) e in
    record {
      flips = fl ∙ ap (λ f. flip l * 2 ^ k + f) h.flips;
      turns = λ x. turn_more (turn l (bit x k)) (flip l * sign l) (sign l * bit x k) (turns ls x) m.quarters (dot m.signs x)
          (dot m'.signs x) (turn_is l (bit x k)) (h.turns x)
          (ap (λ s. dot s x) si ∙ dot-more k (sign l) m.signs x (sign-lt l) h.small)
          ∙ ap (λ q. (2 * q + 4 * dot m'.signs x) % 8) (sym w.quarters);
      low = rw fl (bit-more k (flip l) m.flips (flip-lt l) h.low);
      small = rw si (bit-more k (sign l) m.signs (sign-lt l) h.small);
      few = let q = w.quarters in let f = h.few in let y = y-lt l in omega arith;
    }
  where
    y-lt : (l : Letter) → flip l * sign l ≤ 1
    y-lt I = omega arith
    y-lt X = omega arith
    y-lt Y = omega arith
    y-lt Z = omega arith

-- one byte more in front of a text
pub letter-more : (b : ℕ) (text : List ℕ) (m m' : PauliMasks) (place : ℕ) → place ≡ length text → MaskedLetters (Ok m) (letters_of text)
    → Added (Ok m') (letter_of b) m place → MaskedLetters (Ok m') (letters_of (b ∷ text))
letter-more b text m m' place e h w = go (letter_of b) (letters_of text) (letters-length text) h w
  where
    go : (o : Option Letter) (p : Option (List Letter)) → ((ks : List Letter) → p ≡ Some ks → length ks ≡ length text)
        → MaskedLetters (Ok m) p → Added (Ok m') o m place → MaskedLetters (Ok m') (joined o p)
    go (Some l) (Some ls) n h w = masks-more l ls m m' place (e ∙ sym (n ls refl)) h w
    go (Some l) None n h w = h
    go None p n h w = absurd w

-- no letter, and a byte that is none
pub masks-none : (text : List ℕ) → text ≡ [] → MaskedLetters (Ok (record { flips = 0; signs = 0; quarters = 0 })) (letters_of text)
unfolding dot ones
masks-none text e = rw e (record {
  flips = refl;
  turns = λ x. ap (λ k. 4 * (ones k % 2) % 8) (sym (and_zero_l x));
  low = pow_pos 0;
  small = pow_pos 0;
  few = omega arith;
})

pub letter-bad : (front back : List ℕ) (b : ℕ) (e : Refusal) (m : PauliMasks) (place : ℕ) → Added (Err e) (letter_of b) m place
    → MaskedLetters (Err e) (letters_of (front ++ (b ∷ back)))
letter-bad front back b e m place h = go (letter_of b) refl h
  where
    go : (o : Option Letter) → letter_of b ≡ o → Added (Err e) o m place → MaskedLetters (Err e) (letters_of (front ++ (b ∷ back)))
    go (Some l) q h = absurd h
    go None q h = rw (letters-none front (b ∷ back) (ap (λ o. joined o (letters_of back)) q)) h

-- the masks are those of the last letters, so many; the rest comes before them
pub record ReadBehind (letters rest : List ℕ) (count : ℕ) (m : PauliMasks) : Type 0 where
  pub behind : List ℕ
  pub whole : letters ≡ rest ++ behind
  pub counted : length behind ≡ count
  pub masks : MaskedLetters (Ok m) (letters_of behind)

-- the last letter of the rest goes to those behind it
pub behind-more : (letters rest front behind : List ℕ) (b : ℕ) → letters ≡ rest ++ behind → rest ≡ front ++ (b ∷ [])
    → letters ≡ front ++ (b ∷ behind)
behind-more letters rest front behind b w e = w ∙ ap (λ r. r ++ behind) e ∙ append_assoc front (b ∷ []) behind

-- the letters behind masks
pub masked : (m : PauliMasks) (text : List ℕ) → MaskedLetters (Ok m) (letters_of text)
    → (ls : List Letter) × MasksOf ls m × (length ls ≡ length text)
masked m text h = go (letters_of text) (letters-length text) h
  where
    go : (p : Option (List Letter)) → ((ks : List Letter) → p ≡ Some ks → length ks ≡ length text) → MaskedLetters (Ok m) p
        → (ls : List Letter) × MasksOf ls m × (length ls ≡ length text)
    go (Some ls) n h = (ls, h, n ls refl)
    go None n h = absurd h

pub below-place : (m : PauliMasks) (text : List ℕ) → MaskedLetters (Ok m) (letters_of text)
    → (m.flips < 2 ^ length text) × (m.signs < 2 ^ length text) × (m.quarters ≤ length text)
below-place m text h =
    let (ls, k, n) = masked m text h in
    (subst (λ i. m.flips < 2 ^ i) n k.low, subst (λ i. m.signs < 2 ^ i) n k.small, subst (λ i. m.quarters ≤ i) n k.few)

-- ---- the Pauli behind a text that is not refused

pub known : (n : ℕ) (text : List ℕ) (m : PauliMasks) → 0 ≡ text_number n text → Masked (Ok m) (pauli_of text)
    → (P : Pauli) × (pauli_of text ≡ Some P) × SignedMasks P m × (m.flips < 2 ^ n)
known n text m e h = go (pauli_of text) (pauli-length text) h
  where
    go : (o : Option Pauli) → ((P : Pauli) → o ≡ Some P → length text ≡ length P.letters + 1) → Masked (Ok m) o
        → (P : Pauli) × (o ≡ Some P) × SignedMasks P m × (m.flips < 2 ^ n)
    go (Some P) l h =
        let k : length P.letters ≡ n = let a = l P refl in let b = text-length n text (sym e) in omega arith in
        (P, refl, h, subst (λ i. m.flips < 2 ^ i) k h.low)
    go None l h = absurd h
