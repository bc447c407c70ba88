-- What was given of a walk, and what one more group does to it.
use Rattle.std.specs.Prelude.{◌≡◌, ℕ, ◌+◌, ◌≤◌, true, false, leb, List, ◌++◌, length, drop, Ok, Err, Result, nat_le, slice_index_or}
use Rattle.index.specs.declared.fault.IndexFault.{IndexFault}
use Rattle.index.specs.declared.fault.GroupFault.{GroupFault}
use Rattle.index.specs.declared.fault.GroupFault.TheVariants.{WrongLength, Index as IndexOf}
use Rattle.index.specs.declared.walk.Walk.{Walk}
use Rattle.index.specs.declared.walk.Ending.{Ending}
use Rattle.index.specs.Counted.{numbers_of}
use Rattle.index.specs.Answers.{standing, state_counts, ending_of}
use Rattle.index.specs.Walk.{Position, Position.idle, Position.begun, Position.inside, Position.owing, Position.owed, Between, walk_group}
use Rattle.index.specs.Bytes.{read_group}
use Rattle.layout.specs.Group.{Found, whole, third, unchecked}
use Rattle.losses.specs.declared.sheet.LossRow.{LossRow}
use Rattle.losses.specs.declared.fault.ReadFault.TheVariants.{ThirdLoss, Unchecked}
use Rattle.losses.specs.Losses.{no_loss}
use Rattle.playing.specs.declared.fault.GroupCause.{GroupCause}
use Rattle.playing.specs.declared.fault.GroupCause.TheVariants.{Absent, Tracks, Index, Output, Rows}
use Rattle.playing.specs.declared.rows.Row.{Row}
use Rattle.playing.specs.Play.{given, rows_given}
use Rattle.player.specs.declared.giving.Giving.{Giving}
use Rattle.player.specs.Shelves.{Shelf}

-- the open record's bytes and warning
abbrev pub Opened : Position → Giving → Type 0
Opened idle g = Unit {0}
Opened (begun a w) g = (g.length ≡ length a) × (g.warned ≡ w)
Opened (inside a w) g = (g.length ≡ length a) × (g.warned ≡ w)
Opened (owing a w) g = (g.length ≡ length a) × (g.warned ≡ w)
Opened (owed a w) g = (g.length ≡ length a) × (g.warned ≡ w)

-- what was given of a walk
pub record Holds (out : List ℕ) (rows : List Row) (w : Between) (s : Shelf) : Type 0 where
  pub output : s.output ≡ given w ++ drop (length (given w)) out
  pub table : s.rows ≡ rows_given 0 w.items ++ drop (length w.items) rows
  pub bytes : s.giving.bytes ≡ length (given w)
  pub count : s.giving.rows ≡ length w.items
  pub open' : Opened w.position s.giving
  pub below : s.giving.length ≤ s.giving.bytes

-- a walk stands where as much was given
pub record Stands (out : List ℕ) (rows : List Row) (b : Between) (w : Walk) (s : Shelf) : Type 0 where
  pub numbers : numbers_of b ≡ state_counts (standing w)
  pub holds : Holds out rows b s
  pub bytes : length (given b) ≤ length out
  pub items : length b.items ≤ length rows

pub record Somewhere (w : Walk) (s : Shelf) : Type 0 where
  pub out : List ℕ
  pub rows : List Row
  pub upto : Between
  pub stands : Stands out rows upto w s

-- the answer of a walk as a cause
abbrev pub cause_in : Result Ending GroupFault → Result Ending GroupCause
cause_in (Ok e) = Ok e
cause_in (Err (IndexOf f)) = Err (Index f)
cause_in (Err WrongLength) = Err Absent

-- a group that was walked from b to c, by whether there is room for it
pub record Fitted (out : List ℕ) (rows : List Row) (b c : Between) (n final : ℕ) (w : Walk) (s : Shelf) (r : Result Ending GroupCause) : Type 0 where
  pub no_output : leb (length (given c)) (length out) ≡ false → (r ≡ Err Output) × Holds out rows b s
  pub no_rows : leb (length (given c)) (length out) ≡ true → nat_le (length c.items) (length rows) ≡ false → (r ≡ Err Rows) × Holds out rows b s
  pub some : leb (length (given c)) (length out) ≡ true → nat_le (length c.items) (length rows) ≡ true
      → (r ≡ Ok (ending_of final)) × Stands out rows c w s × ((standing w).0 ≡ n + 1)

-- what a group does
abbrev pub Went : List ℕ → List Row → Between → ℕ → ℕ → Walk → Shelf → Result Ending GroupCause → Result Between IndexFault → Type 0
Went out rows b n final w s r (Ok c) = Fitted out rows b c n final w s r
Went out rows b n final w s r (Err e) = (r ≡ Err (Index e)) × Holds out rows b s

-- what a group on the tape does, by what its tracks read as
abbrev pub Tried : List LossRow → List ℕ → List Row → Between → ℕ → Walk → Shelf → Result Ending GroupCause → Found → Type 0
Tried sheet out rows b n w s r (whole bs) = Went out rows b n (read_group bs).final w s r (walk_group n b (read_group bs))
Tried sheet out rows b n w s r (third k) = (r ≡ Err (Tracks (ThirdLoss k (slice_index_or sheet k no_loss)))) × Holds out rows b s
Tried sheet out rows b n w s r (unchecked x y) = (r ≡ Err (Tracks (Unchecked x y))) × Holds out rows b s
