-- Words that lie interleaved in memory: byte j of a word at start + stride * j.
use Rattle.std.specs.Prelude.{◌≡◌, ℕ, ◌+◌, ◌*◌, ◌<◌, ◌≢◌, List, map, length, slice_index}
use Rattle.std.specs.List.{range_with_len}
use Rattle.reed_solomon.specs.Words.{Bytes, Filled}

-- the word of n bytes
unfoldable pub interleaved : List ℕ → ℕ → ℕ → ℕ → List ℕ
interleaved xs start stride n = map (λ j. slice_index xs (start + stride * j)) (range_with_len 0 n)

-- the word lies within memory of this size
abbrev pub Reaches : ℕ → ℕ → ℕ → ℕ → Type 0
Reaches size start stride n = (j : ℕ) → j < n → start + stride * j < size

-- ys is the memory xs with the word u in the place of that word, and no other byte changed
pub record Scattered (xs ys : List ℕ) (start stride n : ℕ) (u : List ℕ) : Type 0 where
  pub size : length ys ≡ length xs
  pub word : (j : ℕ) → j < n → slice_index ys (start + stride * j) ≡ slice_index u j
  pub others : (p : ℕ) → ((j : ℕ) → j < n → p ≢ start + stride * j) → slice_index ys p ≡ slice_index xs p

-- ys is the memory xs with that word filled at its places ps to r
pub record Refilled (r : ℕ) (ps xs ys : List ℕ) (start stride n : ℕ) : Type 0 where
  pub found : List ℕ
  pub bytes : Bytes found
  pub filled : Filled r ps (interleaved xs start stride n) found
  pub put : Scattered xs ys start stride n found

-- the memory is as it was, since that word has no filling
pub record Unfilled (r : ℕ) (ps xs ys : List ℕ) (start stride n : ℕ) : Type 0 where
  pub same : ys ≡ xs
  pub none : (u : List ℕ) → Bytes u → Filled r ps (interleaved xs start stride n) u → ⊥
