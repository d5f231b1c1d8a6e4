-- Strings that agree with a space at more and more positions.
use Rattle.std.proofs.Common.{◌≡◌, count_ones, ℕ, zero, suc, ◌+◌, ◌-◌, ◌%◌, ◌^◌, ◌<◌, ◌≤◌, Some, None, Option, sym, refl, ap, ◌∙◌, subst, lt_of_lt_of_le, lt_of_le_of_lt, mod-eq_of_lt, add-one, add-zero, arith, pow_mono}
use Rattle.std.proofs.lemmas.Nat.Bits.{bit_at_not}
use Rattle.std.specs.Int.{bit_not, w64}
use native.Mathlib.Decide.{ℕ_discrete, dec_lt}
use lib.Bits.{bit_and, xor_lt, and_le_r}
use lib.Count.{ones}
use Rattle.quadratic.specs.Bits.{bit, dot, sum, Lowest}
use Rattle.quadratic.specs.Echelon.{row, combination, reduced}
use Rattle.quadratic.specs.Strings.{Member, Under, Half, Cut, Both, Shared}
use Rattle.quadratic.specs.declared.affine.AffineSpace.{AffineSpace}
use Rattle.quadratic.specs.declared.affine.Outcome.{Outcome}
use Rattle.quadratic.specs.declared.affine.Outcome.TheVariants.{Unchanged, Empty, Restricted}
use Rattle.quadratic.proofs.Bitlaws.{same_bits, bit-low, bit_past, bit-zero, not-both, ones_low}
use Rattle.quadratic.proofs.Lowest.{gone-off, gone-other}
use Rattle.quadratic.proofs.Distinct.{span-lt, pivots-same}
use Rattle.quadratic.proofs.Laws.{facts, holds, member, member_is, red-clean, off-bit}

-- at most one row of s goes for each position below i that is no pivot of t
abbrev pub Fallen : AffineSpace → AffineSpace → AffineSpace → ℕ → Type 0
Fallen s s' t i = count_ones s.pivots + sum (bit t.pivots) i ≤ count_ones s'.pivots + i

-- s' has the strings of s that have below position i what t asks for, and past the last bit no row goes
pub record Agreeing (s s' t : AffineSpace) (i : ℕ) : Type 0 where
  pub old : (y : ℕ) → Member s' y → Member s y
  pub agree : (y j : ℕ) → Member s' y → j < i → bit (reduced t.pivots (row t.rows) y) j ≡ bit t.shift j
  pub kept : (y : ℕ) → Member s y → Member t y → Member s' y
  pub fall : Fallen s s' t i
  pub still : (n : ℕ) → n ≤ i → Under s n → Under t n → Fallen s s' t n

-- what is left of a string of n bits, and the strings of a space of n bits, have n bits
comb-under : (s : AffineSpace) (n y : ℕ) → s.pivots < 2 ^ n → combination (row s.rows) (bit_and y s.pivots) < 2 ^ n
unfolding combination
comb-under s n y l = span-lt (row s.rows) s.low (bit_and y s.pivots) n 48 (lt_of_le_of_lt (and_le_r y s.pivots) l)

reduced-under : (s : AffineSpace) (n y : ℕ) → s.pivots < 2 ^ n → y < 2 ^ n → reduced s.pivots (row s.rows) y < 2 ^ n
reduced-under s n y l h = xor_lt n y (combination (row s.rows) (bit_and y s.pivots)) h (comb-under s n y l)

pub member-under : (s : AffineSpace) (n y : ℕ) → Under s n → Member s y → y < 2 ^ n
member-under s n y u m =
    let e = member_is s.pivots (row s.rows) s.shift (facts s) y (holds s y m) in
    subst (λ x. x < 2 ^ n) (sym e)
    (xor_lt n s.shift (combination (row s.rows) (bit_and y s.pivots)) u.1 (comb-under s n y u.0))

-- the set bits of a mask of n bits
pub ones-under : (n x : ℕ) → x < 2 ^ n → sum (bit x) n ≡ ones x
ones-under n x l = sym (ones_low n x) ∙ ap ones (mod-eq_of_lt l)

-- at the start nothing is asked
agree-none : (s t : AffineSpace) → Agreeing s s t 0
agree-none s t = record {
  old = λ y m. m;
  agree = λ y j m l. absurd (omega arith);
  kept = λ y m n. m;
  fall = omega arith;
  still = λ n l u v. let e : n ≡ 0 = omega arith in subst (Fallen s s t) (sym e) (omega arith);
}

-- a position that is asked for below the next one
below_next : (P : ℕ → Type 0) (i : ℕ) → ((j : ℕ) → j < i → P j) → P i → (j : ℕ) → j < i + 1 → P j
below_next P i h p j l = elim (ℕ_discrete j i) [ yes e ↦ subst P (sym e) p | no ne ↦ h j (omega arith) ]

-- one position more
sum-next : (f : ℕ → ℕ) (i : ℕ) → sum f (i + 1) ≡ sum f i + f i
sum-next f i = ap (sum f) (add-one i)

still-next : (s s' t : AffineSpace) (i : ℕ) → Fallen s s' t (i + 1) → ((n : ℕ) → n ≤ i → Under s n → Under t n → Fallen s s' t n)
    → (n : ℕ) → n ≤ i + 1 → Under s n → Under t n → Fallen s s' t n
still-next s s' t i f h n l u v =
    elim (dec_lt i n) [
      | yes k ↦ let e : n ≡ i + 1 = omega arith in subst (Fallen s s' t) (sym e) f
      | no k ↦ h n (omega arith) u v
    ]

-- the bit that is left of a string of t is the shift's
own : (t : AffineSpace) (y i : ℕ) → Member t y → bit (reduced t.pivots (row t.rows) y) i ≡ bit t.shift i
own t y i m = ap (λ x. bit x i) (holds t y m)

module _ (s s' t : AffineSpace) (i : ℕ) (a : Agreeing s s' t i) where
  -- at a pivot both are 0
  agree-pivot : bit t.pivots i ≡ 1 → Agreeing s s' t (i + 1)
  agree-pivot on = record {
    old = a.old;
    agree = λ y j m l. below_next (λ j. bit (reduced t.pivots (row t.rows) y) j ≡ bit t.shift j) i
        (λ j l. a.agree y j m l) (here y) j l;
    kept = a.kept;
    fall = fall;
    still = still-next s s' t i fall a.still;
  }
    where
      fall : Fallen s s' t (i + 1)
      fall = let f = a.fall in let e = sum-next (bit t.pivots) i in omega (arith, f, e, on)

      here : (y : ℕ) → bit (reduced t.pivots (row t.rows) y) i ≡ bit t.shift i
      here y =
          off-bit (reduced t.pivots (row t.rows) y) t.pivots i (red-clean t.pivots (row t.rows) t.shift (facts t) y) on
          ∙ sym (off-bit t.shift t.pivots i t.clean on)

  -- elsewhere the parity that tells the bit is asked for
  module _ (off : bit t.pivots i ≡ 0) (w : ℕ) (parity-is : (y : ℕ) → dot w y ≡ bit (reduced t.pivots (row t.rows) y) i) where
    -- past the last bit every string has the parity that is asked for
    past : (s'' : AffineSpace) (b n : ℕ) → b ≡ bit t.shift i → Half s' s'' w b → n ≤ i → Under s n → Under t n → s'.pivots ≡ s''.pivots
    past s'' b n eb h l u v = pivots-same s' s'' (λ y m. h.kept y m (asked y m), h.old)
      where
        asked : (y : ℕ) → Member s' y → dot w y ≡ b
        asked y m =
            parity-is y ∙ bit_past n _ i (reduced-under t n y v.0 (member-under s n y u (a.old y m))) l
            ∙ sym (eb ∙ bit_past n t.shift i v.1 l)

    agree-restricted : (s'' : AffineSpace) (b : ℕ) → b ≡ bit t.shift i → Half s' s'' w b → Agreeing s s'' t (i + 1)
    agree-restricted s'' b eb h = record {
      old = λ y m. a.old y (h.old y m);
      agree = λ y j m l. below_next (λ j. bit (reduced t.pivots (row t.rows) y) j ≡ bit t.shift j) i
          (λ j l. a.agree y j (h.old y m) l) (sym (parity-is y) ∙ h.parity y m ∙ eb) j l;
      kept = λ y m n. h.kept y (a.kept y m n) (parity-is y ∙ own t y i n ∙ sym eb);
      fall = fall;
      still = still-next s s'' t i fall (λ n l u v.
          let f = a.still n l u v in let e = ap ones (past s'' b n eb h l u v) in omega (arith, f, e));
    }
      where
        fall : Fallen s s'' t (i + 1)
        fall = let f = a.fall in let k = h.fewer in let e = sum-next (bit t.pivots) i in omega (arith, f, k, e, off)

    agree-cut : (o : Outcome) (s'' : AffineSpace) (b : ℕ) → b ≡ bit t.shift i → (o ≡ Empty → ⊥)
        → Cut o s' s'' w b → Agreeing s s'' t (i + 1)
    agree-cut Unchanged s'' b eb ne h =
        agree-restricted s'' b eb (record {
          old = λ y m. subst (λ x. Member x y) h.0 m;
          parity = λ y m. h.1 y (subst (λ x. Member x y) h.0 m);
          kept = λ y m d. subst (λ x. Member x y) (sym h.0) m;
          fewer = omega (arith, ap (λ x. ones x.pivots) h.0);
        })
    agree-cut Empty s'' b eb ne h = absurd (ne refl)
    agree-cut Restricted s'' b eb ne h = agree-restricted s'' b eb h

    -- no string is left
    agree-empty : (b : ℕ) → b ≡ bit t.shift i → ((y : ℕ) → Member s' y → dot w y ≡ b → ⊥) → (y : ℕ) → Member s y → Member t y → ⊥
    agree-empty b eb h y m n = h y (a.kept y m n) (parity-is y ∙ own t y i n ∙ sym eb)

-- over positions that are pivots
hop : (s s' t : AffineSpace) (i d : ℕ) → ((q : ℕ) → i ≤ q → q < i + d → bit t.pivots q ≡ 1) → Agreeing s s' t i → Agreeing s s' t (i + d)
hop s s' t i zero on a = subst (Agreeing s s' t) (sym (add-zero i)) a
hop s s' t i (suc d) on a =
    let e : i + suc d ≡ (i + d) + 1 = omega arith in
    subst (Agreeing s s' t) (sym e)
    (agree-pivot s s' t (i + d) (hop s s' t i d (λ q l h. on q l (omega arith)) a) (on (i + d) (omega arith) (omega arith)))

hop-to : (s s' t : AffineSpace) (i j : ℕ) → i ≤ j → ((q : ℕ) → i ≤ q → q < j → bit t.pivots q ≡ 1) → Agreeing s s' t i → Agreeing s s' t j
hop-to s s' t i j l on a =
    let e : i + (j - i) ≡ j = omega arith in
    subst (Agreeing s s' t) e (hop s s' t i (j - i) (λ q h k. on q h (omega (arith, e))) a)

-- the positions below `place` are passed, and of the others those are left that are no pivots of t
pub record Reached (s s' t : AffineSpace) (left : ℕ) : Type 0 where
  pub place : ℕ
  pub within : place ≤ 48
  pub agree : Agreeing s s' t place
  pub passed : (q : ℕ) → q < place → bit left q ≡ 0
  pub free : (q : ℕ) → place ≤ q → q < 48 → bit left q + bit t.pivots q ≡ 1

-- the bits that are no pivots
free-bit : (P q : ℕ) → P < 2 ^ 64 → q < 48 → bit (bit_not w64 P % 2 ^ 48) q + bit P q ≡ 1
unfolding bit
free-bit P q l h =
    let e = bit-low 48 (bit_not w64 P) q h in
    let f = bit_at_not w64 P q l (omega arith) in
    omega (arith, e, f)

pub reach-none : (s t : AffineSpace) (left : ℕ) → left ≡ bit_not w64 t.pivots % 2 ^ 48 → Reached s s t left
reach-none s t left e =
    let l : t.pivots < 2 ^ 64 = omega (arith, t.within) in
    record {
      place = 0;
      within = omega arith;
      agree = agree-none s t;
      passed = λ q l. absurd (omega arith);
      free = λ q l h. ap (λ x. bit x q + bit t.pivots q) e ∙ free-bit t.pivots q (omega (arith, t.within)) h;
    }

module _ (s s' t : AffineSpace) (left i left' : ℕ) (r : Reached s s' t left) (low : Lowest left i left') where
  reached-to : r.place ≤ i
  reached-to = elim (dec_lt i r.place) [ yes l ↦ absurd (not-both (bit left i) (r.passed i l) low.on) | no l ↦ omega arith ]

  -- at the next position that is left, all below have been passed
  reach-here : Agreeing s s' t i
  reach-here = hop-to s s' t r.place i reached-to
      (λ q l h. let z = low.least q h in let f = r.free q l (omega (arith, low.place)) in omega arith) r.agree

  reach-off : bit t.pivots i ≡ 0
  reach-off = let f = r.free i reached-to low.place in let o = low.on in omega arith

  reach-next : (s'' : AffineSpace) → Agreeing s s'' t (i + 1) → Reached s s'' t left'
  reach-next s'' a = record {
    place = i + 1;
    within = let l = low.place in omega arith;
    agree = a;
    passed = λ q l. elim (ℕ_discrete q i) [
      | yes e ↦ ap (bit left') e ∙ gone-off left i left' low
      | no ne ↦ gone-other left i left' q low ne ∙ low.least q (omega arith)
    ];
    free = λ q l h.
        let k = reached-to in
        let g = gone-other left i left' q low (λ e. omega arith) in
        let f = r.free q (omega arith) h in
        omega arith;
  }

  -- the strings of s' are asked for the parity that tells the bit: none is left, or those that are left agree at this position too
  module _ (w : ℕ) (parity-is : (y : ℕ) → dot w y ≡ bit (reduced t.pivots (row t.rows) y) i) (b : ℕ) (eb : b ≡ bit t.shift i) where
    pub reach-empty : ((y : ℕ) → Member s' y → dot w y ≡ b → ⊥) → (y : ℕ) → Member s y → Member t y → ⊥
    reach-empty = agree-empty s s' t i reach-here reach-off w parity-is b eb

    pub reach-cut : (o : Outcome) (s'' : AffineSpace) → (o ≡ Empty → ⊥) → Cut o s' s'' w b → Reached s s'' t left'
    reach-cut o s'' ne h = reach-next s'' (agree-cut s s' t i reach-here reach-off w parity-is o s'' b eb ne h)

-- combinations of rows have 48 bits, and so have the strings of a space
pub comb-lt : (s : AffineSpace) (y : ℕ) → combination (row s.rows) (bit_and y s.pivots) < 2 ^ 48
comb-lt s y = comb-under s 48 y s.within

-- what is in both is so either way round
both-swap : (s s' t : AffineSpace) → Both s s' t → Both t s' s
both-swap s s' t b = record {
  first = b.second;
  second = b.first;
  all = λ y m n. b.all y n m;
  wide = λ n u v. let h = b.wide n v u in omega (arith, h);
}

pub shared-swap : (r : Option AffineSpace) (s t : AffineSpace) → Shared r s t → Shared r t s
shared-swap (Some s') s t b = both-swap s s' t b
shared-swap None s t h = λ y m n. h y n m

-- at the end every position has been asked for
agree-all : (s s' t : AffineSpace) (i : ℕ) → 48 ≤ i → Agreeing s s' t i → Both s s' t
agree-all s s' t i l a = record {
  first = a.old;
  second = λ y m.
      member t y (same_bits 48 (reduced t.pivots (row t.rows) y) t.shift
      (reduced-under t 48 y t.within (member-under s' 48 y (s'.within, s'.inside) m))
      t.inside (λ j h. a.agree y j m (omega arith)));
  all = a.kept;
  wide = λ n u v. elim (dec_lt i n) [
    | yes k ↦
        let f = a.fall in
        let e = ones-under i t.pivots (lt_of_lt_of_le t.within (pow_mono l)) in
        omega (arith, f, e)
    | no k ↦ let f = a.still n (omega arith) u v in let e = ones-under n t.pivots v.0 in omega (arith, f, e)
  ];
}

pub reach-all : (s s' t : AffineSpace) (left : ℕ) → left ≡ 0 → Reached s s' t left → Both s s' t
reach-all s s' t left e r =
    agree-all s s' t 48 (omega arith)
    (hop-to s s' t r.place 48 r.within (λ q l h.
    let z = ap (λ x. bit x q) e ∙ bit-zero q in let f = r.free q l h in omega arith) r.agree)
