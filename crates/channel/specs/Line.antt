-- Line codes, and their law.
use Rattle.std.specs.Prelude.{◌≡◌, ℕ, ◌<◌, Some, Option}
use Rattle.channel.specs.declared.state.State.{State}

-- A line code: the word and the next state of a state and byte, and the byte of a word or none.
pub record Code : Type 0 where
  pub encode : State → ℕ → ℕ × State
  pub decode : ℕ → Option ℕ

-- Its law: words have ten bits, what a word gives is a byte, and a word gives back the byte that it was made from.
pub record Lawful (c : Code) : Type 0 where
  pub words : (s : State) (x : ℕ) → x < 256 → (c.encode s x).0 < 1024
  pub bytes : (w x : ℕ) → c.decode w ≡ Some x → x < 256
  pub law : (s : State) (x : ℕ) → x < 256 → c.decode (c.encode s x).0 ≡ Some x
