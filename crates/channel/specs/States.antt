use Rattle.std.specs.Prelude.{ℕ}
use Rattle.channel.specs.declared.state.State.{State}
use Rattle.channel.specs.declared.state.State.TheVariants.{Zero, One}

-- A state as a number: 0 for Q = -1, 1 for Q = 1.
abbrev pub state_number : State → ℕ
state_number Zero = 0
state_number One = 1
