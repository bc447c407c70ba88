-- How an image in memory holds a tape.
use Rattle.std.specs.Prelude.{◌≡◌, ℕ, zero, suc, ◌+◌, ◌*◌, ◌/◌, ◌%◌, ◌^◌, ◌<◌, Bool, true, false, cond, List, [], ◌∷◌, ◌++◌, map, length, take, drop, Some, None, ◌==◌, nat_lt, slice_index, slice_set}
use Rattle.std.proofs.Math.Seq.{paste}
use Rattle.std.specs.List.{range_with_len}
use Rattle.tape.specs.Tape.{Track, SoundTrack, narrow, outcome, storing, blanking}

-- the k-th part of a list that is cut into parts of `size` items
abbrev pub part : {X : Type 0} → ℕ → List X → ℕ → List X
part size xs k = take size (drop (k * size) xs)

-- how a track stands in numbers of one type: its flag, and behind it the numbers that hold its words
pub record Format (N : Type 0) : Type 0 where
  -- how many numbers a track takes, the flag among them
  pub stride : ℕ
  -- the flag of a written track, and the one that a blank leaves
  pub written : N
  pub blank : N
  -- whether a track with that flag is written
  pub marks : N → Bool
  -- the words that the numbers behind the flag are read as
  pub words : List N → List ℕ
  -- the numbers that words are written as
  pub numbers : List ℕ → List N

-- what every format owes: what is written reads as it was, what is blanked reads as blank, and all that is read is sound
pub record Lawful {N : Type 0} (f : Format N) : Type 0 where
  pub some : 0 < f.stride
  pub written : f.marks f.written ≡ true
  pub blank : f.marks f.blank ≡ false
  pub long : (ws : List ℕ) → length ws ≡ 4608 → length (f.numbers ws) + 1 ≡ f.stride
  pub back : (ws : List ℕ) → length ws ≡ 4608 → narrow ws ≡ true → f.words (f.numbers ws) ≡ ws
  pub sound : (ns : List N) → length ns + 1 ≡ f.stride → SoundTrack (Some (f.words ns))

-- what the numbers of one track mean: it is written where its flag says so, and its words are read from the others
abbrev pub track_of : {N : Type 0} → Format N → List N → Track
track_of f [] = None
track_of f (flag ∷ others) = cond (f.marks flag) (Some (f.words others)) None

-- the tape in an image: as many tracks as are there whole, and a part of one at the end is none
unfoldable pub image_tracks : {N : Type 0} → Format N → List N → List Track
image_tracks f memory = map (λ k. track_of f (part f.stride memory k)) (range_with_len 0 (length memory / f.stride))

-- the memory of an image after a store: the numbers of track k become the flag and the form of the words, no other changes
abbrev pub image_stored : {N : Type 0} → Format N → List N → ℕ → List ℕ → List N
image_stored f memory k buf =
    outcome (storing (length memory / f.stride) k buf) (paste memory (k * f.stride) (f.written ∷ f.numbers buf) f.stride) memory

-- the memory of an image after a blank: the flag of track k alone changes
abbrev pub image_blanked : {N : Type 0} → Format N → List N → ℕ → List N
image_blanked f memory k = outcome (blanking (length memory / f.stride) k) (slice_set memory (k * f.stride) f.blank) memory

-- a stored number above 1,023 counts as 0
abbrev pub capped : ℕ → ℕ
capped w = cond (nat_lt w 1024) w 0

-- a word image has 4,609 numbers a track: the flag, 1 where it is written and 0 after a blank, and a number to each word
abbrev pub word_format : Format ℕ
word_format = record { stride = 4609; written = 1; blank = 0; marks = λ n. n == 1; words = map capped; numbers = λ ws. ws }

-- this is its tape,
abbrev pub word_tracks : List ℕ → List Track
word_tracks = image_tracks word_format

-- and its memory after a store,
abbrev pub word_stored : List ℕ → ℕ → List ℕ → List ℕ
word_stored = image_stored word_format

-- and after a blank
abbrev pub word_blanked : List ℕ → ℕ → List ℕ
word_blanked = image_blanked word_format

-- a quad is four words of ten bits, and the five bytes that the same forty bits are, highest bit first: one number, whose
-- digits are the words in base 1,024 and the bytes in base 256, the highest digit first; this is the number of four words,
abbrev pub from_words : List ℕ → ℕ
from_words ws = ((slice_index ws 0 * 1024 + slice_index ws 1) * 1024 + slice_index ws 2) * 1024 + slice_index ws 3

-- and of five bytes,
abbrev pub from_bytes : List ℕ → ℕ
from_bytes bs = (((slice_index bs 0 * 256 + slice_index bs 1) * 256 + slice_index bs 2) * 256 + slice_index bs 3) * 256 + slice_index bs 4

-- the four words of a number,
abbrev pub four_words : ℕ → List ℕ
four_words n = n / 1024 ^ 3 % 1024 ∷ n / 1024 ^ 2 % 1024 ∷ n / 1024 % 1024 ∷ n % 1024 ∷ []

-- and its five bytes
abbrev pub five_bytes : ℕ → List ℕ
five_bytes n = n / 256 ^ 4 % 256 ∷ n / 256 ^ 3 % 256 ∷ n / 256 ^ 2 % 256 ∷ n / 256 % 256 ∷ n % 256 ∷ []

-- the lists f 0, f 1 and so on, n of them, one after another
unfoldable pub chain : (ℕ → List ℕ) → ℕ → List ℕ
chain f zero = []
chain f (suc n) = chain f n ++ f n

-- the words of quad q, from the bytes of a track without its flag
abbrev pub unpacked_at : List ℕ → ℕ → List ℕ
unpacked_at bs q = four_words (from_bytes (part 5 bs q))

-- the bytes of quad q, from the words of a track
abbrev pub packed_at : List ℕ → ℕ → List ℕ
packed_at ws q = five_bytes (from_words (part 4 ws q))

-- the words of a track, from its bytes without the flag: a track has 1,152 quads
abbrev pub unpacked : List ℕ → List ℕ
unpacked bs = chain (unpacked_at bs) 1152

-- the bytes of a track without the flag, from its words
abbrev pub packed : List ℕ → List ℕ
packed ws = chain (packed_at ws) 1152

-- a packed image has 5,761 bytes a track: the flag, 1 where it is written and 0 after a blank, and the packed words
abbrev pub packed_format : Format ℕ
packed_format = record { stride = 5761; written = 1; blank = 0; marks = λ n. n == 1; words = unpacked; numbers = packed }

-- this is its tape,
abbrev pub packed_tracks : List ℕ → List Track
packed_tracks = image_tracks packed_format

-- and its memory after a store,
abbrev pub packed_stored : List ℕ → ℕ → List ℕ → List ℕ
packed_stored = image_stored packed_format

-- and after a blank
abbrev pub packed_blanked : List ℕ → ℕ → List ℕ
packed_blanked = image_blanked packed_format
