-- The arrays of a group: each byte at its place, and the checks filled in.
use Rattle.std.specs.Prelude.{◌≡◌, ℕ, ◌+◌, ◌-◌, ◌*◌, ◌/◌, ◌%◌, ◌<◌, cond, ◌&&◌, leb, List, length, ◌==◌, nat_le, nat_lt, slice_index}
use Rattle.reed_solomon.specs.Words.{Bytes}
use Rattle.layout.specs.Counts.{which, listed}
use Rattle.layout.specs.Randomizer.{randomized}
use Rattle.layout.specs.Placing.{number_at, is_occupied}
use Rattle.layout.specs.Words.{Array, Checked, c1, c2, row, frame_byte}
use Rattle.layout.specs.Reading.{filling, byte_at}
use Rattle.layout.specs.Group.{part, Written}

-- the places of the checks in a C1, C2 and C3 word
unfoldable pub c1_checks : List ℕ
c1_checks = which (λ j. leb 28 j) 32

unfoldable pub c2_checks : List ℕ
c2_checks = which (λ j. nat_le 13 j && nat_le j 18) 32

unfoldable pub c3_checks : List ℕ
c3_checks = which (λ k. leb 44 k) 46

-- a row's bytes at their places
unfoldable pub laid : List ℕ → Array
laid r b s = cond (is_occupied b s) (slice_index r (number_at b s)) 0

unfoldable pub with_c2 : Array → Array
with_c2 x b s = byte_at (b / 4) (filling 6 c2_checks (c2 x (b % 4) s))

unfoldable pub with_c1 : Array → Array
with_c1 x b s = byte_at (16 * (b % 2) + s / 2) (filling 4 c1_checks (c1 x (b / 2) (s % 2)))

unfoldable pub array_of : List ℕ → Array
array_of r = with_c1 (with_c2 (laid r))

-- every row has one array
pub record OneArray : Type 0 where
  pub made : (r : List ℕ) → length r ≡ 2912 → Bytes r → Checked (array_of r) × (row (array_of r) ≡ r)
  pub only : (x y : Array) → Checked x → Checked y → row x ≡ row y → (b s : ℕ) → b < 128 → s < 32 → x b s ≡ y b s

module _ (tap start : ℕ) (group : List ℕ) where
  -- D byte at number q of track k, below 44
  unfoldable pub data_at : ℕ → ℕ → ℕ
  data_at k q = slice_index (randomized tap start (part group (k / 2))) (4 * (q / 2 - 1) + 2 * ((k % 2 + q / 2) % 2) + q % 2)

  unfoldable pub c3_at : ℕ → ℕ → ℕ
  c3_at k q = byte_at k (filling 2 c3_checks (listed (λ k. cond (nat_lt k 44) (data_at k q) 0) 46))

  -- number q of track k
  unfoldable pub byte_of : ℕ → ℕ → ℕ
  byte_of k q = cond (nat_lt q 2) (cond (q == 1) (frame_byte (k / 2 + 1)) 0) (cond (nat_lt q 2880) (c3_at k q) 0)

  unfoldable pub arrays : ℕ → Array
  arrays k = array_of (listed (byte_of k) 2912)

-- every group has its arrays, and no others
pub record WrittenOnce : Type 0 where
  pub made : (tap start : ℕ) (group : List ℕ) → length group ≡ 22 * 5756 → Bytes group → Written tap start group (arrays tap start group)
  pub only : (tap start : ℕ) (group : List ℕ) (x y : ℕ → Array) → Written tap start group x → Written tap start group y
      → (k b s : ℕ) → k < 46 → b < 128 → s < 32 → x k b s ≡ y k b s
