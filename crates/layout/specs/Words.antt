-- An array of 128 blocks of 32 bytes, and its C1 and C2 words.
use Rattle.std.specs.Prelude.{◌≡◌, ℕ, ◌+◌, ◌*◌, ◌/◌, ◌%◌, ◌<◌, cond, List, ◌==◌}
use Rattle.reed_solomon.specs.Words.{Checks}
use Rattle.layout.specs.Counts.{listed}
use Rattle.layout.specs.Placing.{block_at, serial_at}

-- the byte of a block and serial
abbrev pub Array : Type 0
Array = ℕ → ℕ → ℕ

-- the place of byte j of C1 word (2h, l)
abbrev pub c1_block : ℕ → ℕ → ℕ
c1_block h j = 2 * h + j / 16

abbrev pub c1_serial : ℕ → ℕ → ℕ
c1_serial l j = l + 2 * (j % 16)

-- C1 word (2h, l)
unfoldable pub c1 : Array → ℕ → ℕ → List ℕ
c1 x h l = listed (λ j. x (c1_block h j) (c1_serial l j)) 32

-- C2 word (m, n)
unfoldable pub c2 : Array → ℕ → ℕ → List ℕ
c2 x m n = listed (λ j. x (m + 4 * j) n) 32

-- the number of C2 words of m
abbrev pub wide : ℕ → ℕ
wide m = cond (m % 2 == 0) 32 24

-- the bytes at the occupied places
unfoldable pub row : Array → List ℕ
row x = listed (λ q. x (block_at q) (serial_at q)) 2912

-- all are bytes, and every C1 and C2 word checks
pub record Checked (x : Array) : Type 0 where
  pub bytes : (b s : ℕ) → x b s < 256
  pub c1s : (h l : ℕ) → h < 64 → l < 2 → Checks 4 (c1 x h l)
  pub c2s : (m n : ℕ) → m < 4 → n < wide m → Checks 6 (c2 x m n)

-- the frame byte of frame f
abbrev pub frame_byte : ℕ → ℕ
frame_byte f = cond (f == 23) 215 f

-- word 0 of an array of frame f
pub record Headed (f : ℕ) (x : Array) : Type 0 where
  pub upper : x 0 0 ≡ frame_byte f
  pub lower : x 0 2 ≡ 0
