-- A cursor in the bits of a state: how it moves, and what it finds.
use Rattle.std.specs.Prelude.{◌≡◌, ℕ, ◌+◌, List, Option}
use Rattle.archive.specs.Layout.{Part, first_fault}
use Rattle.archive.specs.declared.cursor.Cursor.{Cursor}
use Rattle.archive.specs.declared.fault.StateFault.{StateFault}

-- the cursor has gone over so many bits, in the same bytes
pub record Moved (c c' : Cursor) (width : ℕ) : Type 0 where
  pub bytes : c'.bytes.now ≡ c.bytes.now
  pub start : c'.start ≡ c.start
  pub place : c'.at ≡ c.at + width

-- the first fault of fields that begin at the cursor
abbrev pub fault_at : Cursor → List Part → Option StateFault
fault_at c xs = first_fault c.bytes.now c.at xs
