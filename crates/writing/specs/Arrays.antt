-- An array of 128 blocks of 32 bytes in memory, and the passes that put check bytes into it.
use Rattle.std.specs.Prelude.{ℕ, ◌+◌, ◌*◌, ◌/◌, ◌%◌, List, slice_index}
use Rattle.reed_solomon.specs.Interleaves.{interleaved}
use Rattle.layout.specs.Words.{Array}
use Rattle.layout.specs.Reading.{filling, byte_at}
use Rattle.layout.specs.Writing.{c1_checks, c2_checks}

-- the array in 4,096 bytes: block after block
abbrev pub array_in : List ℕ → Array
array_in xs b s = slice_index xs (32 * b + s)

-- place p after the C2 words of an array were given their check bytes: C2 word (m, n) begins at place 32 m + n, and its bytes stand 128 apart
unfoldable pub c2_filled : List ℕ → ℕ → ℕ
c2_filled xs p = byte_at (p / 128) (filling 6 c2_checks (interleaved xs (p % 128) 128 32))

-- place p after the C1 words were given theirs: C1 word (2h, l) begins at place 64 h + l, and its bytes stand 2 apart
unfoldable pub c1_filled : List ℕ → ℕ → ℕ
c1_filled xs p = byte_at (p % 64 / 2) (filling 4 c1_checks (interleaved xs (64 * (p / 64) + p % 2) 2 32))
