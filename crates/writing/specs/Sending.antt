-- The channel words of a track, sent one after another.
use Rattle.std.specs.Prelude.{◌≡◌, ℕ, ◌<◌, List, length, slice_index}
use Rattle.channel.specs.declared.state.State.{State}
use Rattle.layout.specs.Words.{Array}
use Rattle.channel.specs.Line.{Code}
use Rattle.layout.specs.Line.{Address, state, channel}

-- of the track of array x at address t, the words below i stand in ws, and s is the state after them
pub record Sent (c : Code) (t : Address) (x : Array) (ws : List ℕ) (s : State) (i : ℕ) : Type 0 where
  pub size : length ws ≡ 4608
  pub here : s ≡ state c t x i
  pub words : (k : ℕ) → k < i → slice_index ws k ≡ channel c t x k
