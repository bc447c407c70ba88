use Rattle.std.specs.Prelude.{◌≡◌, ℕ, ◌<◌}
use Rattle.channel.specs.declared.state.State.{State}
use Rattle.channel.specs.declared.sheet.CheckedSheet.{CheckedSheet}
use Rattle.channel.specs.contracts.sheet.CheckedSheetLineCode.TheImpl.{ghosts}
use Rattle.channel.specs.Line.{Code}

-- As a line code, the checked sheet gives the words and next states of this one for every state and byte, and its bytes
-- for every word.
pub record ServesAs (c : CheckedSheet) (line : Code) : Type 0 where
  pub words : (s : State) (b : ℕ) → b < 256 → (ghosts.line c).encode s b ≡ line.encode s b
  pub bytes : (w : ℕ) → (ghosts.line c).decode w ≡ line.decode w
