-- Giving entries one by one: what each puts into the output and into the rows.
use Rattle.std.specs.Prelude.{ℕ, ◌+◌, ◌-◌, ◌≤◌, cond, List, [], ◌∷◌, length, Ok, Err, Result, ◌==◌, nat_le, slice_set}
use Rattle.index.specs.declared.kind.Kind.{Kind}
use Rattle.index.specs.declared.kind.Kind.TheVariants.{Total, Mark, Middle, Start, Last, Entire, Skip, Unknown}
use Rattle.index.specs.Entries.{Entry, finishes}
use Rattle.index.specs.Bytes.{named}
use Rattle.index.specs.Writing.{replaced}
use Rattle.playing.specs.declared.fault.GroupCause.{GroupCause}
use Rattle.playing.specs.declared.fault.GroupCause.TheVariants.{Output, Rows}
use Rattle.playing.specs.declared.rows.Row.{Row}
use Rattle.player.specs.declared.giving.Giving.{Giving}

-- the numbers of what was given, the output and the rows
pub record Shelf : Type 0 where
  pub giving : Giving
  pub output : List ℕ
  pub rows : List Row

abbrev pub shelf : Giving → List ℕ → List Row → Shelf
shelf g out rows = record { giving = g; output = out; rows = rows }

-- the bytes that an entry names
abbrev pub part : Entry → List ℕ
part p = cond (named p.kind) p.bytes []

-- the numbers after an entry that names n bytes and has the warning w
abbrev pub turned : Giving → Kind → ℕ → ℕ → Giving
turned g Total n w = record { bytes = g.bytes + n; rows = g.rows + 1; length = g.length; warned = g.warned }
turned g Mark n w = record { bytes = g.bytes + n; rows = g.rows + 1; length = g.length; warned = g.warned }
turned g Middle n w = record { bytes = g.bytes + n; rows = g.rows; length = g.length + n; warned = g.warned }
turned g Start n w = record { bytes = g.bytes + n; rows = g.rows; length = n; warned = w }
turned g Last n w = record { bytes = g.bytes + n; rows = g.rows; length = g.length + n; warned = g.warned }
turned g Entire n w = record { bytes = g.bytes + n; rows = g.rows + 1; length = g.length; warned = g.warned }
turned g Skip n w = record { bytes = g.bytes + n; rows = g.rows; length = g.length; warned = g.warned }
turned g Unknown n w = record { bytes = g.bytes + n; rows = g.rows; length = g.length; warned = g.warned }

-- the rows after it, with its count
abbrev pub tabled : Giving → Kind → ℕ → ℕ → ℕ → List Row → List Row
tabled g Total count n w rows = slice_set rows g.rows (record { kind = 0; place = g.bytes - g.length; length = g.length; warned = g.warned })
tabled g Mark count n w rows = slice_set rows g.rows (record { kind = cond (count == 0) 1 2; place = g.bytes; length = 0; warned = w })
tabled g Middle count n w rows = rows
tabled g Start count n w rows = rows
tabled g Last count n w rows = rows
tabled g Entire count n w rows = slice_set rows g.rows (record { kind = 0; place = g.bytes; length = n; warned = w })
tabled g Skip count n w rows = rows
tabled g Unknown count n w rows = rows

-- all of it after an entry
abbrev pub laid : Shelf → Entry → Shelf
laid s p = shelf (turned s.giving p.kind (length (part p)) p.warned) (replaced s.output s.giving.bytes (part p))
    (tabled s.giving p.kind p.count (length (part p)) p.warned s.rows)

unfoldable pub laid_all : Shelf → List Entry → Shelf
laid_all s [] = s
laid_all s (p ∷ ps) = laid_all (laid s p) ps

-- there is room for an entry, and the open record lies in the output
pub record FitsOne (s : Shelf) (p : Entry) : Type 0 where
  pub bytes : s.giving.bytes + length (part p) ≤ length s.output
  pub rows : s.giving.rows + finishes p.kind ≤ length s.rows
  pub open' : s.giving.length ≤ s.giving.bytes

-- there is room for entries
unfoldable pub Fits : Shelf → List Entry → Type 0
Fits s [] = Unit {0}
Fits s (p ∷ ps) = FitsOne s p × Fits (laid s p) ps

-- how many bytes entries name, and how many items they finish
unfoldable pub size_in : List Entry → ℕ
size_in [] = 0
size_in (p ∷ ps) = length (part p) + size_in ps

unfoldable pub finished_in : List Entry → ℕ
finished_in [] = 0
finished_in (p ∷ ps) = finishes p.kind + finished_in ps

-- whether there is room for the entries of a group
abbrev pub room_for : Shelf → List Entry → Result (Unit {0}) GroupCause
room_for s ps =
    cond (nat_le (s.giving.bytes + size_in ps) (length s.output))
    (cond (nat_le (s.giving.rows + finished_in ps) (length s.rows)) (Ok tt) (Err Rows))
    (Err Output)

-- and what there is then
abbrev pub after_all : Shelf → List Entry → Shelf
after_all s ps =
    cond (nat_le (s.giving.bytes + size_in ps) (length s.output))
    (cond (nat_le (s.giving.rows + finished_in ps) (length s.rows)) (laid_all s ps) s)
    s

-- entries for which there is room fit
pub record Roomy (s : Shelf) (ps : List Entry) : Type 0 where
  pub bytes : s.giving.bytes ≤ length s.output
  pub rows : s.giving.rows ≤ length s.rows
  pub fits : s.giving.bytes + size_in ps ≤ length s.output → s.giving.rows + finished_in ps ≤ length s.rows → Fits s ps
