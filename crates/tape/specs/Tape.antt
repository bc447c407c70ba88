-- What a tape is, and what each call answers and leaves.
use Rattle.std.specs.Prelude.{◌≡◌, ℕ, ◌<◌, Bool, cond, List, [], length, Some, None, Ok, Err, Option, Result, ◌==◌, nat_lt, slice_index, slice_index_or, slice_set}
use Rattle.std.specs.List.{list_all}
use Rattle.tape.specs.declared.fault.TapeFault.{TapeFault}
use Rattle.tape.specs.declared.fault.TapeFault.TheVariants.{NoTrack, Blank, WrongBuffer, WideWord}

-- a track: blank, or its channel words
abbrev pub Track : Type 0
Track = Option (List ℕ)

-- a track as a tape holds it: blank, or 4,608 words, each below 1,024
abbrev pub SoundTrack : Track → Type 0
SoundTrack None = Unit {0}
SoundTrack (Some ws) = (length ws ≡ 4608) × ((j : ℕ) → j < length ws → slice_index ws j < 1024)

-- every track of a tape is such a track
abbrev pub Sound : List Track → Type 0
Sound ts = (k : ℕ) → k < length ts → SoundTrack (slice_index_or ts k None)

-- what a call answers: that it is done, or why it is declined
abbrev pub Answer : Type 0
Answer = Result (Unit {0}) TapeFault

-- the answer of two tests: the first that declines, else that of the second
abbrev pub and_then : Answer → Answer → Answer
and_then (Ok u) next = next
and_then (Err e) next = Err e

-- what there is after a call: the new where it is done, and where it is declined the old, untouched
abbrev pub outcome : {X : Type 0} → Answer → X → X → X
outcome (Ok u) new old = new
outcome (Err e) new old = old

-- the tests of track k of n tracks with a track buffer of `size` numbers: first the buffer, then the track
abbrev pub reached : ℕ → ℕ → ℕ → Answer
reached n k size = cond (size == 4608) (cond (nat_lt k n) (Ok tt) (Err NoTrack)) (Err WrongBuffer)

-- whether a track can be played
abbrev pub playing : Track → Answer
playing None = Err Blank
playing (Some ws) = Ok tt

-- the words of a track, none of a blank one
abbrev pub words_of : Track → List ℕ
words_of None = []
words_of (Some ws) = ws

-- whether each word is below 1,024
abbrev pub narrow : List ℕ → Bool
narrow ws = list_all (λ w. nat_lt w 1024) ws

-- what fetch answers for track k and a track buffer of `size` numbers
abbrev pub fetched : List Track → ℕ → ℕ → Answer
fetched ts k size = and_then (reached (length ts) k size) (playing (slice_index_or ts k None))

-- what the track buffer holds after fetch
abbrev pub delivered : List Track → ℕ → List ℕ → List ℕ
delivered ts k buf = outcome (fetched ts k (length buf)) (words_of (slice_index_or ts k None)) buf

-- what store answers for track k of n tracks
abbrev pub storing : ℕ → ℕ → List ℕ → Answer
storing n k buf = and_then (reached n k (length buf)) (cond (narrow buf) (Ok tt) (Err WideWord))

-- the tracks after store
abbrev pub stored : List Track → ℕ → List ℕ → List Track
stored ts k buf = outcome (storing (length ts) k buf) (slice_set ts k (Some buf)) ts

-- what blank answers for track k of n tracks
abbrev pub blanking : ℕ → ℕ → Answer
blanking n k = cond (nat_lt k n) (Ok tt) (Err NoTrack)

-- the tracks after blank
abbrev pub blanked : List Track → ℕ → List Track
blanked ts k = outcome (blanking (length ts) k) (slice_set ts k None) ts
