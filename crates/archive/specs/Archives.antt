-- The layout of an archive: the count byte, the states, each from a byte's start, and the end.
use Rattle.std.specs.Prelude.{ℕ, zero, suc, ◌+◌, ◌-◌, ◌*◌, ◌/◌, cond, List, [], ◌∷◌, ◌++◌, map, length, take, drop, Some, None, Option, nat_lt, slice_index}
use Rattle.archive.specs.declared.fault.Field.TheVariants.{Count}
use Rattle.archive.specs.declared.fault.StateFault.{StateFault}
use Rattle.archive.specs.declared.fault.ArchiveFault.{ArchiveFault}
use Rattle.archive.specs.declared.fault.ArchiveFault.TheVariants.{State, Short, Overfull, LeftOver}
use Rattle.archive.specs.First.{first}
use Rattle.archive.specs.Layout.{verdicts, parts_at, end_of_state}

-- how many states the first byte announces
abbrev pub count_of : List ℕ → ℕ
count_of b = slice_index b 0

-- the place after the first m states
unfoldable pub place_after : List ℕ → ℕ → ℕ
place_after b zero = 8
place_after b (suc m) = end_of_state b (place_after b m)

-- a state's verdict as one of the archive, with the state's number
abbrev pub carried : ℕ → Option StateFault → Option ArchiveFault
carried i None = None
carried i (Some f) = Some (State i f)

-- the verdicts on the fields of m states after the first i
abbrev pub states_verdicts : List ℕ → ℕ → ℕ → List (Option ArchiveFault)
states_verdicts b i zero = []
states_verdicts b i (suc m) = map (carried (i + 1)) (verdicts b (place_after b i) (parts_at b (place_after b i))) ++ states_verdicts b (i + 1) m

unfoldable pub states_fault : List ℕ → ℕ → ℕ → Option ArchiveFault
states_fault b i m = first (states_verdicts b i m)

abbrev pub rest_verdict : List ℕ → ℕ → Option ArchiveFault
rest_verdict b p = cond (nat_lt p (8 * length b)) (Some (LeftOver p)) None

-- the verdicts on an archive: on its count, on each field of each state, and on what is left over
unfoldable pub archive_verdicts : List ℕ → List (Option ArchiveFault)
archive_verdicts [] = Some (Short (record { field = Count; place = 0 })) ∷ []
archive_verdicts (c ∷ r) =
    cond (nat_lt 100 c) (Some Overfull) None ∷ states_verdicts (c ∷ r) 0 c ++ rest_verdict (c ∷ r) (place_after (c ∷ r) c) ∷ []

unfoldable pub archive_fault : List ℕ → Option ArchiveFault
archive_fault b = first (archive_verdicts b)

-- the bytes of the state with the number i, from 1
abbrev pub part_of : List ℕ → ℕ → List ℕ
part_of b i = take (place_after b i / 8 - place_after b (i - 1) / 8) (drop (place_after b (i - 1) / 8) b)
