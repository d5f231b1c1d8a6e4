-- Fields at a cursor that has moved.
use Rattle.std.proofs.Common.{◌≡◌, ℕ, ◌+◌, List, [], ◌∷◌, ◌++◌, Some, None, Option, sym, refl, ◌∙◌, ap₂, arith}
use Rattle.archive.specs.Cursors.{Moved, fault_at}
use Rattle.archive.specs.Layout.{Part, after, first_fault}
use Rattle.archive.specs.declared.cursor.Cursor.{Cursor}
use Rattle.archive.specs.declared.fault.StateFault.{StateFault}
use Rattle.archive.proofs.Steps.{passes, stops}

pub then : {a b c : Cursor} {v w : ℕ} → Moved a b v → Moved b c w → Moved a c (v + w)
then m m' = record { bytes = m'.bytes ∙ m.bytes; start = m'.start ∙ m.start; place = omega (arith, m.place, m'.place) }

pub moved-fault : {a b : Cursor} {w : ℕ} (q : ℕ) (xs : List Part) → Moved a b w → a.at + w ≡ q
    → first_fault a.bytes.now q xs ≡ fault_at b xs
moved-fault q xs m e = ap₂ (λ b p. first_fault b p xs) (sym m.bytes) (sym (m.place ∙ e))

moved-parts : {a b : Cursor} {w : ℕ} (X : List ℕ → ℕ → List Part) (q : ℕ) → Moved a b w → a.at + w ≡ q
    → first_fault a.bytes.now q (X a.bytes.now a.start) ≡ fault_at b (X b.bytes.now b.start)
moved-parts {a} {b} X q m e = moved-fault q (X a.bytes.now a.start) m e
    ∙ ap₂ (λ d p. fault_at b (X d p)) (sym m.bytes) (sym m.start)

-- Groups of fields, each as the bytes and the state's start say which, one after the other.
abbrev pub Group : Type 0
Group = List ℕ → ℕ → List Part

abbrev pub together : List Group → Group
together [] b p = []
together (X ∷ Y) b p = X b p ++ together Y b p

-- A state is read field by field: a cursor that began at s is w bits on, and what is wrong with the whole is what is wrong with the groups
-- that are left.
pub record Left (whole : Option StateFault) (s c : Cursor) (w : ℕ) (groups : List Group) : Type 0 where
  pub fault : whole ≡ fault_at c (together groups c.bytes.now c.start)
  pub moved : Moved s c w

module _ {whole : Option StateFault} {s c : Cursor} {w : ℕ} {X : Group} {Y : List Group} (left : Left whole s c w (X ∷ Y)) where
  -- the first group is fine, and the cursor has gone over it: the others are left
  pub past : {c' : Cursor} {v : ℕ} → fault_at c (X c.bytes.now c.start) ≡ None → Moved c c' v
      → after c.at (X c.bytes.now c.start) ≡ c.at + v → Left whole s c' (w + v) Y
  past fine m a = record {
    fault = left.fault ∙ passes c.bytes.now c.at _ _ fine _ a ∙ moved-parts (together Y) _ m refl;
    moved = then left.moved m;
  }

  -- the first group has a fault, which is that of the whole
  pub halts : {f : StateFault} → fault_at c (X c.bytes.now c.start) ≡ Some f → whole ≡ Some f
  halts wrong = left.fault ∙ stops c.bytes.now c.at _ _ _ wrong
