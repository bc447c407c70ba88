-- Where the bytes of a sub-group stand in its two arrays.
use Rattle.std.specs.Prelude.{◌≡◌, ℕ, ◌+◌, ◌-◌, ◌*◌, ◌/◌, ◌%◌, ◌<◌, Bool, true, cond, not, ◌&&◌, ◌||◌, ◌==◌, nat_le, nat_lt}
use Rattle.layout.specs.Counts.{count}

-- of G3 word i, channel a (0 is A), half u (0 is upper): 0 is PLUS, 1 is MINUS
unfoldable pub sign : ℕ → ℕ → ℕ
sign i a = (a + i) % 2

unfoldable pub block : ℕ → ℕ
block i = i % 52 + 75 * (i % 2) + i / 832

unfoldable pub serial : ℕ → ℕ → ℕ
serial i u = 2 * (u + i / 52) - i / 52 % 2 - 32 * (i / 832)

pub record Place : Type 0 where
  pub sign : ℕ
  pub block : ℕ
  pub serial : ℕ

unfoldable pub place : ℕ → ℕ → ℕ → Place
place i a u = record { sign = sign i a; block = block i; serial = serial i u }

-- the place of D_d
unfoldable pub place_d : ℕ → Place
place_d d = place (d / 4 + 1) (d % 4 / 2) (1 - d % 2)

-- ---- the row of a track: the lower and the upper byte of each G3 word that it has, 2,912 in all, number q of word q / 2

unfoldable pub block_at : ℕ → ℕ
unfolding block
block_at q = block (q / 2)

unfoldable pub serial_at : ℕ → ℕ
unfolding serial
serial_at q = serial (q / 2) (1 - q % 2)

-- the number in the row of the byte at a block and serial
unfoldable pub number_at : ℕ → ℕ → ℕ
number_at b s = 2 * (832 * (b % 2) + 52 * (2 * (s / 4) + s % 2) + cond (nat_lt b 52) (b - b % 2) (b - b % 2 - 75)) + (1 - s / 2 % 2)

-- ---- what stands at a place

unfoldable pub is_c1_check : ℕ → ℕ → Bool
is_c1_check b s = b % 2 == 1 && nat_le 24 s

unfoldable pub is_c2_check : ℕ → ℕ → Bool
unfolding is_c1_check
is_c2_check b s = nat_le 52 b && nat_le b 75 && not (is_c1_check b s)

unfoldable pub is_occupied : ℕ → ℕ → Bool
unfolding is_c1_check
is_occupied b s = (nat_lt b 52 || nat_lt 75 b) && not (is_c1_check b s)

-- of the occupied places, those of word 0, of words 1 to 1,439 and of words 1,440 to 1,455
unfoldable pub is_header : ℕ → ℕ → Bool
unfolding is_occupied number_at
is_header b s = is_occupied b s && nat_lt (number_at b s) 2

unfoldable pub is_data : ℕ → ℕ → Bool
unfolding is_occupied number_at
is_data b s = is_occupied b s && (nat_le 2 (number_at b s) && nat_lt (number_at b s) 2880)

unfoldable pub is_zero : ℕ → ℕ → Bool
unfolding is_occupied number_at
is_zero b s = is_occupied b s && nat_le 2880 (number_at b s)

abbrev pub one : Bool → ℕ
one x = cond x 1 0

-- how many of the 4,096 places pass
abbrev pub places : (ℕ → ℕ → Bool) → ℕ
places f = count (λ p. f (p / 32) (p % 32)) 4096

pub record Places-fit : Type 0 where
  -- each number of a row has an occupied place, and each occupied place one number
  pub fits : (q : ℕ) → q < 2912 → (block_at q < 128) × (serial_at q < 32) × (is_occupied (block_at q) (serial_at q) ≡ true) × (number_at (block_at q) (serial_at q) ≡ q)
  pub back : (b s : ℕ) → b < 128 → s < 32 → is_occupied b s ≡ true → (number_at b s < 2912) × (block_at (number_at b s) ≡ b) × (serial_at (number_at b s) ≡ s)
  -- each place is of one kind
  pub kinds : (b s : ℕ) → b < 128 → s < 32 → one (is_header b s) + one (is_data b s) + one (is_zero b s) + one (is_c2_check b s) + one (is_c1_check b s) ≡ 1
  pub first : place_d 0 ≡ record { sign = 1; block = 76; serial = 2 }
  pub last : place_d 5755 ≡ record { sign = 0; block = 111; serial = 21 }

-- a byte of a sub-group by word, channel and half, and by its place: each determines the other
pub record Bijection : Type 0 where
  pub into : (i a u : ℕ) → i < 1456 → a < 2 → u < 2 → (sign i a < 2) × (block i < 128) × (serial i u < 32) × (is_occupied (block i) (serial i u) ≡ true)
  pub back : (i a u : ℕ) → i < 1456 → a < 2 → u < 2
      → (number_at (block i) (serial i u) / 2 ≡ i) × (1 - number_at (block i) (serial i u) % 2 ≡ u) × ((sign i a + number_at (block i) (serial i u) / 2) % 2 ≡ a)
  pub onto : (g b s : ℕ) → g < 2 → b < 128 → s < 32 → is_occupied b s ≡ true
      → (i : ℕ) × (a : ℕ) × (u : ℕ) × (i < 1456) × (a < 2) × (u < 2) × (place i a u ≡ record { sign = g; block = b; serial = s })
