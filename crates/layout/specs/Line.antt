-- An array in channel words.
use Rattle.std.specs.Prelude.{ℕ, zero, suc, ◌+◌, ◌*◌, ◌/◌, ◌%◌, ◌<◌, cond, List, ◌==◌, bit_xor}
use Rattle.channel.specs.declared.state.State.{State}
use Rattle.channel.specs.declared.state.State.TheVariants.{Zero, One}
use Rattle.channel.specs.Line.{Code}
use Rattle.layout.specs.Counts.{listed}
use Rattle.layout.specs.Words.{Array}

-- which track: the group's number, the frame, and 1 for MINUS
pub record Address : Type 0 where
  pub group : ℕ
  pub frame : ℕ
  pub minus : ℕ

pub record Valid (t : Address) : Type 0 where
  pub frames : t.frame < 24
  pub signs : t.minus < 2

-- the labels W1, W2 and W1 XOR W2 of block b
abbrev pub label : Address → ℕ → ℕ
label t b = cond (b % 2 == 0) (t.group % 256) (t.frame + 128 * t.minus)

-- what stands at word p of block b, p from 1 to 35
unfoldable pub content : Address → Array → ℕ → ℕ → ℕ
content t x b zero = 0
content t x b (suc zero) = label t b
content t x b (suc (suc zero)) = b
content t x b (suc (suc (suc zero))) = bit_xor (label t b) b
content t x b (suc (suc (suc (suc s)))) = x b s

-- the sync word after a state
abbrev pub sync : State → ℕ
sync Zero = 273
sync One = 785

module _ (c : Code) (t : Address) (x : Array) where
  -- the state before word i of the track; a sync word leaves state 1
  unfoldable pub state : ℕ → State
  state zero = Zero
  state (suc i) = cond (i % 36 == 0) One (c.encode (state i) (content t x (i / 36) (i % 36))).1

  -- word i: a sync word by the state, or the code of what stands there
  unfoldable pub channel : ℕ → ℕ
  channel i = cond (i % 36 == 0) (sync (state i)) (c.encode (state i) (content t x (i / 36) (i % 36))).0

  -- the track of an array
  unfoldable pub track : List ℕ
  track = listed channel 4608
