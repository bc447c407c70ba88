-- The array of a track in memory, and what its passes leave there.
use Rattle.std.specs.Prelude.{◌≡◌, ℕ, ◌+◌, ◌-◌, ◌*◌, ◌/◌, ◌%◌, ◌<◌, Bool, true, false, cond, not, ◌&&◌, ◌||◌, ◌≢◌, List, [], ◌++◌, map, ◌==◌, nat_lt, slice_index, slice_index_or}
use Rattle.std.specs.List.{range_with_len}
use Rattle.reed_solomon.specs.Interleaves.{interleaved}
use Rattle.layout.specs.Counts.{every}
use Rattle.layout.specs.Words.{Array, wide}
use Rattle.channel.specs.Line.{Code}
use Rattle.layout.specs.Line.{Address}
use Rattle.layout.specs.Group.{is_none}
use Rattle.layout.specs.Reading.{filling, byte_at, byte_lost, value, corrected, cause as cause_in, judged, order, words_from, lost}

-- the words of a track
abbrev pub at : List ℕ → ℕ → ℕ
at ws i = slice_index ws i

-- the array in 4,096 bytes
abbrev pub array_in : List ℕ → Array
array_in xs b s = slice_index xs (32 * b + s)

-- the bytes of the C1 words that are marked, number 2h + l of word (2h, l)
abbrev pub erased_in : List Bool → ℕ → ℕ → Bool
erased_in fs b s = slice_index_or fs (2 * (b / 2) + s % 2) false

-- the number of the C1 word of the byte at p, 32 times its block and its serial
abbrev pub c1_number : ℕ → ℕ
c1_number p = 2 * (p / 64) + p % 2

-- the byte at p is of C1 word k, and lost
abbrev pub lost_in : Code → Address → (ℕ → ℕ) → ℕ → ℕ → Bool
lost_in c t w k p = c1_number p == k && byte_lost c t w (p / 32) (p % 32)

-- the first p bytes of a track are in xs, and the C1 words of those that are lost are marked in fs
pub record Taken (c : Code) (t : Address) (w : ℕ → ℕ) (xs : List ℕ) (fs : List Bool) (p : ℕ) : Type 0 where
  pub bytes : (k : ℕ) → k < p → slice_index xs k ≡ value c t w (k / 32) (k % 32)
  pub marks : (k : ℕ) → k < 128 → slice_index_or fs k false ≡ not (every (λ i. not (lost_in c t w k i)) p)

-- ys is the memory xs with the word of n bytes that lies interleaved filled at its places ps to r, if there is a filling
pub record Recovered (r : ℕ) (ps xs ys : List ℕ) (start stride n : ℕ) (a : Bool) : Type 0 where
  pub found : is_none (filling r ps (interleaved xs start stride n)) ≡ not a
  pub word : a ≡ true → (j : ℕ) → j < n → slice_index ys (start + stride * j) ≡ byte_at j (filling r ps (interleaved xs start stride n))
  pub others : (p : ℕ) → ((j : ℕ) → j < n → p ≢ start + stride * j) → slice_index ys p ≡ slice_index xs p

-- C2 word (m, n) is filled in the bytes, with cause 0
pub record Corrected (fs : List Bool) (xs ys : List ℕ) (m n r : ℕ) : Type 0 where
  pub cause : r ≡ cause_in (erased_in fs) (array_in xs) m n
  pub here : r ≡ 0 → (b s : ℕ) → b < 128 → s < 32
      → array_in ys b s ≡ cond (b % 4 == m && s == n) (corrected (erased_in fs) (array_in xs) b s) (array_in xs b s)

-- C2 word (p, s) stands before (m, n)
abbrev pub before : ℕ → ℕ → ℕ → ℕ → Bool
before p s m n = nat_lt p m || (p == m && nat_lt s n)

-- the C2 words from (m, n) on
abbrev pub words_on : ℕ → ℕ → List (ℕ × ℕ)
words_on m n = map (λ i. (m, i)) (range_with_len n (wide m - n)) ++ words_from (m + 1) (4 - (m + 1))

-- of the array x the words before (m, n) are filled in ys, and ps are left
pub record Left (isErased : ℕ → ℕ → Bool) (x : Array) (ys : List ℕ) (m n : ℕ) (ps : List (ℕ × ℕ)) : Type 0 where
  pub rest : (f : ℕ) → judged isErased x f order ≡ judged isErased x f ps
  pub done : (b s : ℕ) → b < 128 → s < wide (b % 4) → array_in ys b s ≡ cond (before (b % 4) s m n) (corrected isErased x b s) (x b s)

-- r is the first word that cannot be filled, with its cause, or all are filled in ys
pub record Found (isErased : ℕ → ℕ → Bool) (x : Array) (ys : List ℕ) (r : ℕ × ℕ × ℕ) : Type 0 where
  pub first : (f : ℕ) → judged isErased x f order ≡ cond (r.0 == 0) (judged isErased x f []) (lost r.0 r.1 r.2)
  pub whole : r.0 ≡ 0 → (b s : ℕ) → b < 128 → s < wide (b % 4) → array_in ys b s ≡ corrected isErased x b s
