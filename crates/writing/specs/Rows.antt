-- The rows of a group on the bench: 46 rows of 2,912 bytes, one for what each track carries.
use Rattle.std.specs.Prelude.{◌≡◌, ℕ, ◌+◌, ◌-◌, ◌*◌, ◌/◌, ◌%◌, ◌<◌, cond, List, take, drop, ◌==◌, bit_xor, nat_lt, slice_index}
use Rattle.layout.specs.Randomizer.{output, steps}
use Rattle.layout.specs.Words.{frame_byte}
use Rattle.reed_solomon.specs.Interleaves.{interleaved}
use Rattle.layout.specs.Reading.{filling, byte_at}
use Rattle.layout.specs.Writing.{c3_checks, data_at, byte_of}

-- the byte that is XORed to D byte d of each sub-group: eight steps of the register for each byte before it
unfoldable pub pad_at : ℕ → ℕ → ℕ → ℕ
pad_at tap start d = output tap 8 (steps tap (8 * d) start)

-- which D byte stands at number q of row k, for q from 2 to 2,879
abbrev pub data_index : ℕ → ℕ → ℕ
data_index k q = 4 * (q / 2 - 1) + 2 * ((k % 2 + q / 2) % 2) + q % 2

-- byte q of row k before the check bytes of C3, from the group and the bytes that are XORed to each sub-group
abbrev pub plain_at : List ℕ → List ℕ → ℕ → ℕ → ℕ
plain_at group pad k q =
    cond (nat_lt q 2) (cond (q == 1) (frame_byte (k / 2 + 1)) 0)
    (cond (nat_lt q 2880) (cond (nat_lt k 44) (bit_xor (slice_index group (5756 * (k / 2) + data_index k q)) (slice_index pad (data_index k q))) 0) 0)

-- byte q of row k before the check bytes of C3: its header bytes, its data, zeros; the rows 44 and 45 have no data
unfoldable pub unchecked_at : ℕ → ℕ → List ℕ → ℕ → ℕ → ℕ
unchecked_at tap start group k q =
    cond (nat_lt q 2) (cond (q == 1) (frame_byte (k / 2 + 1)) 0) (cond (nat_lt q 2880) (cond (nat_lt k 44) (data_at tap start group k q) 0) 0)

-- place p of the bench after the C3 words of the data were given their check bytes: the C3 word at number q begins at place q, and its bytes stand 2,912 apart
unfoldable pub c3_filled : List ℕ → ℕ → ℕ
c3_filled xs p =
    cond (nat_lt ((p % 2912 + 2910) % 2912) 2878) (byte_at (p / 2912) (filling 2 c3_checks (interleaved xs (p % 2912) 2912 46))) (slice_index xs p)

-- the bench has the rows of the group's tracks
abbrev pub HasRows : ℕ → ℕ → List ℕ → List ℕ → Type 0
HasRows tap start group bench = (k q : ℕ) → k < 46 → q < 2912 → slice_index bench (2912 * k + q) ≡ byte_of tap start group k q

-- row t of the bench
abbrev pub row_in : List ℕ → ℕ → List ℕ
row_in bench t = take 2912 (drop (2912 * t) bench)
