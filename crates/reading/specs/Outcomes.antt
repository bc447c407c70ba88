-- The finding on a track, and the bytes that its array holds then.
use Rattle.std.specs.Prelude.{◌≡◌, ℕ, cond, List}
use Rattle.layout.specs.Reading.{Outcome}
use Rattle.layout.specs.Words.{row}
use Rattle.losses.specs.declared.sheet.LossRow.{LossRow}
use Rattle.reading.specs.Arrays.{array_in}
use Rattle.losses.specs.Losses.{is_loss, loss_row, row_after}

-- r is the finding on a track with that outcome; if the track was read, the array in ys has its bytes
pub record Judged (o : Outcome) (ys : List ℕ) (r : LossRow) : Type 0 where
  pub finding : r ≡ loss_row o
  pub bytes : (old : List ℕ) → row_after o old ≡ cond (is_loss r.cause) old (row (array_in ys))
