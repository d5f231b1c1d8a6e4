-- The bits of a written state.
use Rattle.std.proofs.Common.{◌≡◌, ℕ, zero, suc, ◌+◌, ◌*◌, ◌^◌, ◌<◌, ◌≤◌, true, ◌≢◌, List, length, get_or, take, None, sym, refl, ap, ◌∙◌, subst, ap₂, inl, inr, zero-add, mul-one, arith, length-take-le, pow_mono}
use lib.Count.{ones, ones-le}
use Rattle.std.proofs.lemmas.Bool.{cases_eq, cases_lt, lt-ltb, eq-eqb, and_from}
use Rattle.quadratic.specs.Bits.{bit}
use Rattle.quadratic.specs.Echelon.{row}
use Rattle.quadratic.specs.Fields.{coefficient_at, coupling_between}
use Rattle.quadratic.specs.declared.affine.AffineSpace.{AffineSpace}
use Rattle.quadratic.specs.declared.phased.PhasedSpace.{PhasedSpace}
use Rattle.quadratic.proofs.Bitlaws.{bit-and, bit-zero, bit_past, bit-pow, bit-pow-other}
use Rattle.stabilizer.specs.declared.state.StabilizerState.{StabilizerState}
use Rattle.archive.specs.Bits.{bits_from, Framed}
use Rattle.archive.specs.Layout.{row_at, lead, apart, descends, off_leads, bits_before_fill, padded, padding, alone_fault}
use Rattle.archive.specs.Held.{Sound, Spans, Weighs, Holds}
use Rattle.archive.specs.Writes.{Falling, HeaderPut, RowsPut, FormPut}
use Rattle.archive.proofs.Alone.{alone-good}
use Rattle.archive.proofs.Built.{held}
use Rattle.archive.proofs.Clean.{clean}
use Rattle.archive.proofs.Frames.{Agree}
use Rattle.archive.proofs.Kept.{header-kept, rows-kept, form-kept}
use Rattle.archive.proofs.Laws.{bit-take, bits-take, bits-same, byte-bits}
use Rattle.archive.proofs.Leads.{lead-only}
use Rattle.archive.proofs.Whole.{end_is}

-- the rows of a space at its pivots
module _ (s : AffineSpace) (p : ℕ) (on : bit s.pivots p ≡ 1) where
  seen : (q : ℕ) → bit s.pivots q ≡ 1 → bit (row s.rows p) q ≡ bit (2 ^ p) q
  seen q e =
      sym (mul-one (bit (row s.rows p) q)) ∙ ap (λ x. bit (row s.rows p) q * x) (sym e)
      ∙ sym (bit-and (row s.rows p) s.pivots q)
      ∙ ap (λ x. bit x q) (s.lead p) ∙ bit-and (2 ^ p) s.pivots q ∙ ap (λ x. bit (2 ^ p) q * x) e ∙ mul-one (bit (2 ^ p) q)

  pub own-bit : bit (row s.rows p) p ≡ 1
  own-bit = seen p on ∙ bit-pow p

  other-bit : (q : ℕ) → bit s.pivots q ≡ 1 → q ≢ p → bit (row s.rows p) q ≡ 0
  other-bit q e ne = seen q e ∙ bit-pow-other p q ne

  pivot-low : (n : ℕ) → s.pivots < 2 ^ n → p < n
  pivot-low n h = elim (cases_lt p n) [ inl l ↦ l | inr g ↦ absurd (omega (arith, bit_past n s.pivots p h g)) ]

  pub row_below : (n : ℕ) → s.pivots < 2 ^ n → row s.rows p < 2 ^ n
  row_below n h = let m : 2 ^ suc p ≤ 2 ^ n = pow_mono (pivot-low n h) in omega (arith, s.low p)

  row-some : 0 < row s.rows p
  row-some = elim (cases_eq (row s.rows p) 0) [
    | inl z ↦ absurd (omega (arith, own-bit, ap (λ x. bit x p) z, bit-zero p))
    | inr z ↦ omega arith
  ]

  lead-pivot : lead (row s.rows p) ≡ p
  lead-pivot = sym (lead-only (row s.rows p) row-some (row_below 48 s.within) p own-bit (s.low p))

off-shift : (s : AffineSpace) (q : ℕ) → bit s.pivots q ≡ 1 → bit s.shift q ≡ 0
off-shift s q e =
    sym (mul-one (bit s.shift q)) ∙ ap (λ x. bit s.shift q * x) (sym e) ∙ sym (bit-and s.shift s.pivots q)
    ∙ ap (λ x. bit x q) s.clean ∙ bit-zero q

-- tests from what they say
apart_from : (b : List ℕ) (p n t a : ℕ) → ((j : ℕ) → j < a → bit (row_at b p n j) t ≡ 0) → apart b p n t a ≡ true
unfolding bit
apart_from b p n t zero h = refl
apart_from b p n t (suc a) h = and_from _ _ (eq-eqb _ 0 (h a (omega arith))) (apart_from b p n t a (λ j l. h j (omega arith)))

off-from : (b : List ℕ) (p n v a : ℕ) → ((j : ℕ) → j < a → bit v (lead (row_at b p n j)) ≡ 0) → off_leads b p n v a ≡ true
unfolding bit
off-from b p n v zero h = refl
off-from b p n v (suc a) h = and_from _ _ (eq-eqb _ 0 (h a (omega arith))) (off-from b p n v a (λ j l. h j (omega arith)))

-- the same fields, by the parts of the state
module _ (b : List ℕ) (s : StabilizerState) (n k loss : ℕ) (leads : List ℕ) (t : PhasedSpace) (en : n ≡ s.qubits) (el : loss ≡ s.loss)
    (et : t ≡ s.body) where
  header_of : HeaderPut b n k loss t.form.phase → HeaderPut b s.qubits k s.loss s.body.form.phase
  header_of h =
      subst (λ m. HeaderPut b m k s.loss s.body.form.phase) en
      (subst (λ l. HeaderPut b n k l s.body.form.phase) el (subst (λ x. HeaderPut b n k loss x.form.phase) et h))

  rows_of : RowsPut b n k leads t → RowsPut b s.qubits k leads s.body
  rows_of r = subst (λ m. RowsPut b m k leads s.body) en (subst (RowsPut b n k leads) et r)

  form_of : FormPut b n k leads t → FormPut b s.qubits k leads s.body
  form_of f = subst (λ m. FormPut b m k leads s.body) en (subst (FormPut b n k leads) et f)

module _ (b : List ℕ) (s : StabilizerState) (k : ℕ) (leads : List ℕ) (ek : k ≡ ones s.body.space.pivots)
    (fall : Falling s.body.space.pivots k leads)
    (h : HeaderPut b s.qubits k s.loss s.body.form.phase) (r : RowsPut b s.qubits k leads s.body)
    (f : FormPut b s.qubits k leads s.body) where
  abbrev n : ℕ
  n = s.qubits

  abbrev space : AffineSpace
  space = s.body.space

  abbrev at : ℕ → ℕ
  at a = get_or leads a 0

  lead-at : (a : ℕ) → a < k → lead (row_at b 0 n a) ≡ at a
  lead-at a l = ap lead (r.rows a l) ∙ lead-pivot space (at a) (fall.on a l)

  falls : (a : ℕ) → a < k → descends b 0 n (row_at b 0 n a) a ≡ true
  falls zero l = refl
  falls (suc a) l = lt-ltb _ _ (rw (lead-at (suc a) l, lead-at a (omega arith)) (fall.order a (suc a) (omega arith) l))

  apart-there : (a : ℕ) → a < k → apart b 0 n (lead (row_at b 0 n a)) a ≡ true
  apart-there a l = apart_from b 0 n _ a (λ j m.
      let o = fall.order j a m l in
      ap₂ bit (r.rows j (omega arith)) (lead-at a l)
      ∙ other-bit space (at j) (fall.on j (omega arith)) (at a) (fall.on a l) (omega arith))

  pub sound : padded (0 + bits_before_fill n k) ≤ 8 * length b
      → bits_from b (0 + bits_before_fill n k) (padding (0 + bits_before_fill n k)) ≡ 0 → Sound b 0 n k
  sound long zeros = record {
    some = s.some;
    few = s.few;
    fewer = rw ek (ones-le n space.pivots s.inside);
    light = rw h.weight s.light;
    rows = λ a l. and_from _ _ (lt-ltb _ _ (rw (r.rows a l) (row-some space (at a) (fall.on a l))))
        (and_from _ _ (falls a l) (apart-there a l));
    shift = off-from b 0 n _ k (λ j l. ap₂ bit r.shift (lead-at j l) ∙ off-shift space (at j) (fall.on j l));
    long = long;
    fill = zeros;
  }

  pub spans : Spans b 0 n k s.body
  spans = record {
    count = sym ek;
    pivots = λ q o. let g = fall.all q o in (g.0, g.1, g.2 ∙ sym (lead-at g.0 g.1));
    rows = λ a l. ap (row space.rows) (lead-at a l) ∙ sym (r.rows a l);
    shift = sym r.shift;
  }

  pub weighs : Weighs b 0 n k s.body
  weighs = record {
    phase = sym h.phased;
    linear = λ a l. ap (coefficient_at s.body) (lead-at a l) ∙ sym (f.linear a l);
    coupling = λ a c l m. ap₂ (coupling_between s.body) (lead-at a (omega arith)) (lead-at c m)
        ∙ ap (λ t. 4 * t) (sym (f.coupling a c l m));
  }

  pub written : 8 * length b ≡ padded (bits_before_fill n k)
      → bits_from b (bits_before_fill n k) (padding (bits_before_fill n k)) ≡ 0 → (alone_fault b ≡ None)
      × Holds b 0 s
  written long zeros =
      let here : 0 + bits_before_fill n k ≡ bits_before_fill n k = zero-add (bits_before_fill n k) in
      let good = sound (rw here (omega arith)) (ap (λ t. bits_from b t (padding t)) here ∙ zeros) in
      let fine = clean b 0 n k (sym h.size) (sym h.rank) good in
      let end = end_is b 0 n k (sym h.size) (sym h.rank) ∙ ap padded here ∙ sym long in (
        alone-good b fine (8 * length b) (sym end) refl,
        held b 0 n k s.loss s.body s (sym h.size) (sym h.rank) (sym h.weight) spans weighs refl refl refl,
      )

-- the bytes of the state, in a longer run
module _ (s : StabilizerState) (b : List ℕ) (m n k loss : ℕ) (leads : List ℕ) (t : PhasedSpace) (en : n ≡ s.qubits)
    (el : loss ≡ s.loss) (et : t ≡ s.body)
    (ek : k ≡ ones s.body.space.pivots) (fall : Falling s.body.space.pivots k leads) (em : 8 * m ≡ padded (bits_before_fill n k))
    (room : m ≤ length b) where
  agree : Agree b (take m b) (8 * m)
  agree q l = bit-take b m q l

  pub encoded : HeaderPut b n k loss t.form.phase → RowsPut b n k leads t → FormPut b n k leads t
      → bits_from b (bits_before_fill n k) (padding (bits_before_fill n k)) ≡ 0
      → (alone_fault (take m b) ≡ None) × Holds (take m b) 0 s
  encoded h r f z =
      let d = take m b in
      written d s k leads ek fall
      (header_of d s n k loss leads t en el et (header-kept b d (8 * m) agree n k (omega arith) loss _ h))
      (rows_of d s n k loss leads t en el et (rows-kept b d (8 * m) agree n k leads t (omega arith) r))
      (form_of d s n k loss leads t en el et (form-kept b d (8 * m) agree n k leads t (omega arith) f))
      (ap (λ x. 8 * x) (length-take-le m b room) ∙ em ∙ ap (λ x. padded (bits_before_fill x k)) en)
      (ap (λ x. bits_from d (bits_before_fill x k) (padding (bits_before_fill x k))) (sym en)
      ∙ bits-take b m (bits_before_fill n k) (padding (bits_before_fill n k)) (omega arith) ∙ z)

-- the bytes past it
pub bytes_past : (b d : List ℕ) (m q : ℕ) → ((i : ℕ) → get_or b i 0 < 256) → ((i : ℕ) → get_or d i 0 < 256) → 8 * m ≡ q → Framed b d 0 q
    → (i : ℕ) → m ≤ i → get_or d i 0 ≡ get_or b i 0
bytes_past b d m q hb hd e f i l = sym (byte-bits d i (hd i)) ∙ bits-same d b (8 * i) 8 (λ j h. f.1 (8 * i + j) (omega arith))
    ∙ byte-bits b i (hb i)
