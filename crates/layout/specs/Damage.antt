-- Light damage, and what it leaves.
use Rattle.std.specs.Prelude.{◌≡◌, ℕ, ◌+◌, ◌*◌, ◌/◌, ◌%◌, ◌<◌, ◌≤◌, Bool, not, ◌==◌, nat_lt}
use Rattle.layout.specs.Counts.{count}
use Rattle.layout.specs.Words.{Array, Checked, Headed, c1_block, c1_serial, wide, row}
use Rattle.channel.specs.Line.{Code, Lawful}
use Rattle.layout.specs.Line.{Address, Valid, channel}
use Rattle.layout.specs.Reading.{reading, read}

-- the stored words v, and the words w found
module _ (v w : ℕ → ℕ) where
  unfoldable pub changed : ℕ → Bool
  changed i = not (w i == v i)

  -- how many byte words of C1 word (2h, l) are changed, and how many sync and label words of its blocks
  unfoldable pub changed_bytes : ℕ → ℕ → ℕ
  changed_bytes h l = count (λ j. changed (36 * c1_block h j + (4 + c1_serial l j))) 32

  unfoldable pub changed_frame : ℕ → ℕ
  changed_frame h = count (λ j. changed (36 * (2 * h + j / 4) + j % 4)) 8

  unfoldable pub touched : ℕ → ℕ → Bool
  touched h l = nat_lt 0 (changed_bytes h l + changed_frame h)

  pub record Light : Type 0 where
    pub few : (h l : ℕ) → h < 64 → l < 2 → changed_bytes h l ≤ 4
    pub thin : (m n : ℕ) → m < 4 → n < wide m → count (λ j. touched ((m + 4 * j) / 2) (n % 2)) 32 ≤ 6

-- a lightly damaged track of an array reads as the array's occupied places
abbrev pub LightReads : Type 0
LightReads = (c : Code) (t : Address) (x : Array) (w : ℕ → ℕ) → Lawful c → Valid t → Checked x → Headed t.frame x
    → Light (channel c t x) w → reading c t w ≡ read (row x)
