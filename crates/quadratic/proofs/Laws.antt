-- Combinations and membership in a space in reduced echelon form.
use Rattle.std.proofs.Common.{◌≡◌, ℕ, zero, suc, ◌*◌, ◌%◌, ◌^◌, ◌<◌, Bool, true, false, not, eqb, sym, refl, ap, ◌∙◌, ap₂, lt_of_le_of_lt, mod-lt, one-mul, mul-zero, zero-mul, mul-one, arith, pow_pos}
use native.Mathlib.Decide.{ℕ_discrete, dec_lt}
use lib.Bits.{bit_and, bit_xor, xor_assoc, xor_comm, xor_self, xor_zero_l, xor_zero_r, and_comm, and_self, and_le_r}
use lib.Count.{ones}
use Rattle.quadratic.specs.Bits.{span, bit, dot, Lowest}
use Rattle.quadratic.proofs.Bitlaws.{digit, bit-lt, bit-and, bit-zero, bit-pow, bit-pow-other, bit-low}
use Rattle.quadratic.proofs.Dots.{by_bits, and_assoc, dot-pow}
use Rattle.quadratic.proofs.Lowest.{set_below}
use Rattle.quadratic.specs.Bits.{flag}
use Rattle.std.specs.Bool.{beq}
use Rattle.quadratic.specs.Echelon.{row, combination, reduced}
use Rattle.quadratic.specs.Strings.{Member}
use Rattle.quadratic.specs.declared.affine.AffineSpace.{AffineSpace}
use Rattle.quadratic.proofs.Linear.{Linear, linear-zero, linear-pick, linear-span, span-linear, span-xor, bit-linear, dot-linear}
use Rattle.quadratic.proofs.Linear.{and-linear, sum-linear, move}

pub flag-lt : (b : Bool) → flag b < 2
flag-lt true = omega arith
flag-lt false = omega arith

-- the test of a bit, as a bit
pub tested : (x b : ℕ) → x ≡ b → x < 2 → flag (eqb x 1) ≡ b
tested x b e l = digit (λ x. flag (eqb x 1) ≡ x) refl refl x l ∙ e

-- two bits that differ, as a bit: one of them tested, or one of them a truth value
pub differ : (d : ℕ) (b : Bool) → d < 2 → flag (not (beq (eqb d 1) b)) ≡ bit_xor d (flag b)
differ d true l = digit (λ d. flag (not (beq (eqb d 1) true)) ≡ bit_xor d 1) refl refl d l
differ d false l = digit (λ d. flag (not (beq (eqb d 1) false)) ≡ bit_xor d 0) refl refl d l

pub differ_from : (b : Bool) (d : ℕ) → d < 2 → flag (not (beq b (eqb d 1))) ≡ bit_xor (flag b) d
differ_from true d l = digit (λ d. flag (not (beq true (eqb d 1))) ≡ bit_xor 1 d) refl refl d l
differ_from false d l = digit (λ d. flag (not (beq false (eqb d 1))) ≡ bit_xor 0 d) refl refl d l

-- ---- masks

pub dot-none : (x : ℕ) → dot x 0 ≡ 0
dot-none x = linear-zero (dot x) (dot-linear x)

pub dot-and : (x y z : ℕ) → dot x (bit_and y z) ≡ dot (bit_and x z) y
unfolding dot
dot-and x y z = ap (λ n. ones n % 2) (ap (bit_and x) (and_comm y z) ∙ sym (and_assoc x z y))

pub and-twice : (x m : ℕ) → bit_and (bit_and x m) m ≡ bit_and x m
and-twice x m = and_assoc x m m ∙ ap (bit_and x) (and_self m)

pub and_pow : (p m : ℕ) → bit_and (2 ^ p) m ≡ bit m p * 2 ^ p
and_pow p m =
    by_bits (bit_and (2 ^ p) m) (bit m p * 2 ^ p)
    (λ k. bit-and (2 ^ p) m k ∙ one k ∙ sym (linear-pick (λ x. bit x k) (bit-linear k) (bit m p) (2 ^ p) (bit-lt m p)))
  where
    one : (k : ℕ) → bit (2 ^ p) k * bit m k ≡ bit m p * bit (2 ^ p) k
    one k =
        elim (ℕ_discrete k p) [
          | yes i ↦ ap (λ j. bit (2 ^ p) j * bit m j) i ∙ ap (λ b. b * bit m p) (bit-pow p) ∙ omega arith
              ∙ ap (λ b. bit m p * b) (sym (bit-pow p)) ∙ ap (λ j. bit m p * bit (2 ^ p) j) (sym i)
          | no ne ↦ ap (λ b. b * bit m k) (bit-pow-other p k ne)
              ∙ simp (zero-mul) (sym (ap (λ b. bit m p * b) (bit-pow-other p k ne) ∙ mul-zero (bit m p)))
        ]

-- what agrees on a mask agrees on a part of it
pub part_same : (x y m m' : ℕ) → bit_and m m' ≡ m' → bit_and x m ≡ bit_and y m → bit_and x m' ≡ bit_and y m'
part_same x y m m' s e =
    ap (bit_and x) (sym s) ∙ sym (and_assoc x m m') ∙ ap (λ z. bit_and z m') e ∙ and_assoc y m m' ∙ ap (bit_and y) s

pub off-bit : (x m p : ℕ) → bit_and x m ≡ 0 → bit m p ≡ 1 → bit x p ≡ 0
off-bit x m p e o = sym (mul-one (bit x p)) ∙ ap (λ b. bit x p * b) (sym o) ∙ sym (bit-and x m p) ∙ ap (λ z. bit z p) e ∙ bit-zero p

-- a mask inside another
pub part_off : (l m p : ℕ) → bit_and l m ≡ l → bit m p ≡ 0 → bit l p ≡ 0
part_off l m p e z = ap (λ x. bit x p) (sym e) ∙ bit-and l m p ∙ ap (λ b. bit l p * b) z ∙ mul-zero (bit l p)

pub part-on : (l m p : ℕ) → bit_and l m ≡ l → bit l p ≡ 1 → bit m p ≡ 1
part-on l m p e on = digit (λ x. bit m p ≡ x → x ≡ 1) (λ z. let y = part_off l m p e z in absurd (omega arith)) (λ o. refl)
    (bit m p) (bit-lt m p) refl

pub part-dot : (l m y : ℕ) → bit_and l m ≡ l → dot l (bit_and y m) ≡ dot l y
part-dot l m y e = dot-and l y m ∙ ap (λ x. dot x y) e

-- ---- one row

span-low : (R : ℕ → ℕ) (c d n : ℕ) → ((k : ℕ) → k < n → bit c k ≡ bit d k) → span R c n ≡ span R d n
span-low R c d zero h = refl
span-low R c d (suc n) h = ap₂ (λ x b. bit_xor x (b * R n)) (span-low R c d n (λ k l. h k (omega arith))) (h n (omega arith))

span_none : (R : ℕ → ℕ) (c n : ℕ) → ((k : ℕ) → k < n → bit c k ≡ 0) → span R c n ≡ 0
span_none R c zero h = refl
span_none R c (suc n) h = ap₂ (λ x b. bit_xor x (b * R n)) (span_none R c n (λ k l. h k (omega arith))) (h n (omega arith))
    ∙ ap (bit_xor 0) (zero-mul (R n))

span-one : (R : ℕ → ℕ) (p n : ℕ) → p < n → span R (2 ^ p) n ≡ R p
span-one R p zero l = absurd (omega arith)
span-one R p (suc n) l =
    elim (dec_lt p n) [
      | yes i ↦ ap₂ (λ x b. bit_xor x (b * R n)) (span-one R p n i) (bit-pow-other p n (omega arith))
          ∙ ap (bit_xor (R p)) (zero-mul (R n)) ∙ xor_zero_r (R p)
      | no i ↦
          let e : n ≡ p = omega arith in
          ap₂ (λ x b. bit_xor x (b * R n)) (span_none R (2 ^ p) n (λ k j. bit-pow-other p k (omega arith))) (ap (bit (2 ^ p)) e ∙ bit-pow p)
          ∙ ap (bit_xor 0) (one-mul (R n)) ∙ xor_zero_l (R n) ∙ ap R e
    ]

-- ---- the facts of an echelon form by name

pub record Facts (P : ℕ) (R : ℕ → ℕ) (h : ℕ) : Type 0 where
  pub within : P < 2 ^ 48
  pub low : (p : ℕ) → R p < 2 ^ suc p
  pub lead : (p : ℕ) → bit_and (R p) P ≡ bit_and (2 ^ p) P
  pub idle : (p : ℕ) → bit P p ≡ 0 → R p ≡ 0
  pub inside : h < 2 ^ 48
  pub clean : bit_and h P ≡ 0

pub facts : (s : AffineSpace) → Facts s.pivots (row s.rows) s.shift
facts s = record { within = s.within; low = s.low; lead = s.lead; idle = s.idle; inside = s.inside; clean = s.clean }

-- ---- combinations

pub comb-linear : (R : ℕ → ℕ) → Linear (combination R)
unfolding combination
comb-linear R = span-xor R 48

pub comb-zero : (R : ℕ → ℕ) → combination R 0 ≡ 0
comb-zero R = linear-zero (combination R) (comb-linear R)

pub comb-low : (R : ℕ → ℕ) (c : ℕ) → combination R c ≡ combination R (c % 2 ^ 48)
unfolding combination
comb-low R c = span-low R c (c % 2 ^ 48) 48 (λ k l. sym (bit-low 48 c k l))

-- the combination of a word, by its lowest bit
pub comb-next : (R : ℕ → ℕ) (x p y s : ℕ) → Lowest x p y → bit_xor s (combination R x) ≡ bit_xor (bit_xor s (R p)) (combination R y)
unfolding combination
comb-next R x p y s low =
    let back : x ≡ bit_xor y (2 ^ p) = sym (ap (λ z. bit_xor z (2 ^ p)) low.rest ∙ xor_assoc x (2 ^ p) (2 ^ p)
    ∙ ap (bit_xor x) (xor_self (2 ^ p)) ∙ xor_zero_r x) in
    ap (λ z. bit_xor s (combination R z)) back
    ∙ ap (bit_xor s) (comb-linear R y (2 ^ p) ∙ ap (bit_xor (combination R y)) (span-one R p 48 low.place)
    ∙ xor_comm (combination R y) (R p))
    ∙ sym (xor_assoc s (R p) (combination R y))

pub comb-is : (L : ℕ → ℕ) → Linear L → (R : ℕ → ℕ) → ((p : ℕ) → R p ≡ L (2 ^ p)) → (c : ℕ) → c < 2 ^ 48 → combination R c ≡ L c
unfolding combination
comb-is L l R e c h = span-linear L l R e c 48 h

comb-map : (L M : ℕ → ℕ) → Linear L → Linear M → (R : ℕ → ℕ) → ((p : ℕ) → L (R p) ≡ M (2 ^ p)) → (c : ℕ)
    → c < 2 ^ 48 → L (combination R c) ≡ M c
unfolding combination
comb-map L M l m R e c h = linear-span L l R c 48 ∙ span-linear M m (λ p. L (R p)) e c 48 h

module _ (P : ℕ) (R : ℕ → ℕ) (h : ℕ) (f : Facts P R h) where
  pub masked : (y : ℕ) → bit_and y P < 2 ^ 48
  masked y = lt_of_le_of_lt (and_le_r y P) f.within

  comb-lead : (c : ℕ) → c < 2 ^ 48 → bit_and (combination R c) P ≡ bit_and c P
  comb-lead = comb-map (λ x. bit_and x P) (λ x. bit_and x P) (and-linear P) (and-linear P) R f.lead

  -- the row at a position is the combination of that position alone, if it is a pivot
  pub comb-pow : (p : ℕ) → combination R (bit_and (2 ^ p) P) ≡ R p
  unfolding combination
  comb-pow p =
      ap (combination R) (and_pow p P) ∙ linear-pick (combination R) (comb-linear R) (bit P p) (2 ^ p) (bit-lt P p)
      ∙ digit (λ b. bit P p ≡ b → b * combination R (2 ^ p) ≡ R p) (λ z. simp zero-mul (sym (f.idle p z)))
      (λ o. simp one-mul (span-one R p 48 (set_below 48 P p f.within o))) (bit P p) (bit-lt P p) refl

  and-pivots : Linear (λ c. combination R (bit_and c P))
  and-pivots x y = ap (combination R) (and-linear P x y) ∙ comb-linear R (bit_and x P) (bit_and y P)

  comb-pivots : (c : ℕ) → c < 2 ^ 48 → combination R c ≡ combination R (bit_and c P)
  comb-pivots = comb-is (λ c. combination R (bit_and c P)) and-pivots R (λ p. sym (comb-pow p))

  -- a row has its own pivot
  pub lead-bit : (p : ℕ) → bit P p ≡ 1 → bit (R p) p ≡ 1
  lead-bit p pivot =
      sym (mul-one (bit (R p) p)) ∙ ap (λ x. bit (R p) p * x) (sym pivot) ∙ sym (bit-and (R p) P p) ∙ ap (λ x. bit x p) (f.lead p)
      ∙ bit-and (2 ^ p) P p ∙ ap₂ (λ x y. x * y) (bit-pow p) pivot

  -- ---- what is left of a string

  pub red-linear : Linear (reduced P R)
  red-linear = sum-linear (λ y. y) (λ c. combination R (bit_and c P)) (λ x y. refl) and-pivots

  pub red-clean : (y : ℕ) → bit_and (reduced P R y) P ≡ 0
  red-clean y =
      and-linear P y (combination R (bit_and y P)) ∙ ap (bit_xor (bit_and y P)) (comb-lead (bit_and y P) (masked y) ∙ and-twice y P)
      ∙ xor_self (bit_and y P)

  pub red-keep : (z : ℕ) → bit_and z P ≡ 0 → reduced P R z ≡ z
  red-keep z e = ap (λ c. bit_xor z (combination R c)) e ∙ ap (bit_xor z) (comb-zero R) ∙ xor_zero_r z

  pub red-comb : (c : ℕ) → c < 2 ^ 48 → reduced P R (combination R c) ≡ 0
  red-comb c l = ap (bit_xor (combination R c)) (ap (combination R) (comb-lead c l) ∙ sym (comb-pivots c l)) ∙ xor_self (combination R c)

  -- ---- membership

  member_of : (y c : ℕ) → c < 2 ^ 48 → y ≡ bit_xor h (combination R c) → reduced P R y ≡ h
  member_of y c l e =
      ap (reduced P R) e ∙ red-linear h (combination R c) ∙ ap₂ bit_xor (red-keep h f.clean) (red-comb c l) ∙ xor_zero_r h

  pub member_is : (y : ℕ) → reduced P R y ≡ h → y ≡ bit_xor h (combination R (bit_and y P))
  member_is y e = move y (combination R (bit_and y P)) h e

  -- each coordinate inside the pivots is taken once
  pub coordinate : (c : ℕ) → bit_and c P ≡ c → bit_and (bit_xor h (combination R c)) P ≡ c
  coordinate c e =
      and-linear P h (combination R c) ∙ ap₂ bit_xor f.clean (comb-lead c (rw (← e) (masked c)) ∙ e) ∙ xor_zero_l c

  -- ---- parities

  module _ (w l : ℕ) (is : (p : ℕ) → bit l p ≡ dot w (R p)) where
    resp-comb : (c : ℕ) → c < 2 ^ 48 → dot w (combination R c) ≡ dot l c
    resp-comb = comb-map (dot w) (dot l) (dot-linear w) (dot-linear l) R (λ p. sym (is p) ∙ sym (dot-pow l p))

    resp-off : (p : ℕ) → bit P p ≡ 0 → bit l p ≡ 0
    resp-off p z = is p ∙ ap (dot w) (f.idle p z) ∙ dot-none w

    pub resp-inside : bit_and l P ≡ l
    resp-inside =
        by_bits (bit_and l P) l (λ p. bit-and l P p
        ∙ digit (λ b. bit P p ≡ b → bit l p * b ≡ bit l p) (λ z. mul-zero (bit l p) ∙ sym (resp-off p z))
        (λ o. mul-one (bit l p)) (bit P p) (bit-lt P p) refl)

    pub resp-reduced : (y : ℕ) → dot w (reduced P R y) ≡ bit_xor (dot w y) (dot l y)
    resp-reduced y =
        dot-linear w y (combination R (bit_and y P)) ∙ ap (bit_xor (dot w y)) (resp-comb (bit_and y P) (masked y)
        ∙ part-dot l P y resp-inside)

    -- the parity of a string of the space, by its coordinates
    pub response : (y : ℕ) → reduced P R y ≡ h → dot w y ≡ bit_xor (dot w h) (dot l y)
    response y e = move (dot w y) (dot l y) (dot w h) (sym (resp-reduced y) ∙ ap (dot w) e)

-- ---- the strings of a space

pub holds : (s : AffineSpace) (y : ℕ) → Member s y → reduced s.pivots (row s.rows) y ≡ s.shift
holds s y m =
    let R = row s.rows in
    member_of s.pivots R s.shift (facts s) y (m.0 % 2 ^ 48) (mod-lt m.0 (pow_pos 48))
    (m.1 ∙ ap (bit_xor s.shift) (comb-low R m.0))

pub member : (s : AffineSpace) (y : ℕ) → reduced s.pivots (row s.rows) y ≡ s.shift → Member s y
member s y e = (bit_and y s.pivots, member_is s.pivots (row s.rows) s.shift (facts s) y e)

-- the shift is one of them
pub shift_in : (s : AffineSpace) → Member s s.shift
shift_in s = (0, sym (ap (bit_xor s.shift) (comb-zero (row s.rows)) ∙ xor_zero_r s.shift))
