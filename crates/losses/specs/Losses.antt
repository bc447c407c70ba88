-- Why a track is lost, and the row of a loss sheet.
use Rattle.std.specs.Prelude.{ℕ, Bool, true, false, cond, List, Some, None, Option, ◌==◌}
use Rattle.layout.specs.Reading.{Outcome, read, lost}
use Rattle.losses.specs.declared.sheet.Cause.{Cause}
use Rattle.losses.specs.declared.sheet.Cause.TheVariants.{Blank, TooManyLost, NoFilling, WrongHeader}
use Rattle.losses.specs.declared.sheet.LossRow.{LossRow}

-- the number of each cause, 0 where there is none
abbrev pub cause_number : Option Cause → ℕ
cause_number None = 0
cause_number (Some Blank) = 1
cause_number (Some TooManyLost) = 2
cause_number (Some NoFilling) = 3
cause_number (Some WrongHeader) = 4

-- whether the track is lost
abbrev pub is_loss : Option Cause → Bool
is_loss None = false
is_loss (Some c) = true

-- the cause with a number, of a lost track
abbrev pub cause_from : ℕ → Cause
cause_from c = cond (c == 1) Blank (cond (c == 2) TooManyLost (cond (c == 3) NoFilling WrongHeader))

-- the row of a track that was read
abbrev pub no_loss : LossRow
no_loss = record { cause = None; m = 0; n = 0 }

-- the row of an outcome
abbrev pub loss_row : Outcome → LossRow
loss_row (read r) = no_loss
loss_row (lost c m n) = record { cause = Some (cause_from c); m = m; n = n }

-- what a row of 2,912 bytes holds after a track was read into it: its bytes, or what it held where the track is lost
abbrev pub row_after : Outcome → List ℕ → List ℕ
row_after (read r) old = r
row_after (lost c m n) old = old
