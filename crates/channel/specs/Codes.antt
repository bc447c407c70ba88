use Rattle.std.specs.Prelude.{◌≡◌, ℕ, zero, suc, ◌+◌, ◌*◌, ◌/◌, ◌%◌, ◌<◌, ◌≤◌, Bool, true, cond, List, length, Some, None, Option, ◌==◌, ◌≢◌, nat_lt, slice_index, slice_index_or}
use Rattle.channel.specs.declared.state.State.{State}
use Rattle.channel.specs.declared.state.State.TheVariants.{Zero, One}
use Rattle.channel.specs.States.{state_number}
use Rattle.channel.specs.Line.{Code}

-- The plain code: the word is the byte, and the next state is 1.
abbrev pub plain_encode : State → ℕ → ℕ × State
plain_encode s b = (b, One)

-- A word up to 255 gives itself, any other gives none.
abbrev pub plain_decode : ℕ → Option ℕ
plain_decode w = cond (nat_lt w 256) (Some w) None

-- The plain code as a line code.
abbrev pub plain_line : Code
plain_line = record { encode = plain_encode; decode = plain_decode }

-- Where a sheet holds the number of a byte in a state.
abbrev pub place : State → ℕ → ℕ
place s b = 2 * b + state_number s

-- The word of a sheet's number: its low ten bits.
abbrev pub word_of : ℕ → ℕ
word_of n = n % 1024

-- The next state of a sheet's number: the number is the word plus 1,024 times the next state.
abbrev pub next_of : ℕ → State
next_of n = cond (nat_lt n 1024) Zero One

-- The word and the next state that a sheet gives for a state and a byte.
abbrev pub sheet_encode : List ℕ → State → ℕ → ℕ × State
sheet_encode xs s b = (word_of (slice_index xs (place s b)), next_of (slice_index xs (place s b)))

-- Among the first n numbers of a sheet: the byte whose number, in either state, has the word w, or none. Of several
-- such bytes it is the last; a good sheet has one at most.
unfoldable pub byte_of : List ℕ → ℕ → ℕ → Option ℕ
byte_of xs zero w = None
byte_of xs (suc n) w = cond (word_of (slice_index xs n) == w) (Some (n / 2)) (byte_of xs n w)

-- The byte whose number, in either state, has the word; none if there is none.
abbrev pub sheet_decode : List ℕ → ℕ → Option ℕ
sheet_decode xs w = byte_of xs (length xs) w

-- A sheet as a line code.
abbrev pub sheet_line : List ℕ → Code
sheet_line xs = record { encode = sheet_encode xs; decode = sheet_decode xs }

-- No number is above 2,047.
abbrev pub Narrow : List ℕ → Type 0
Narrow xs = (i : ℕ) → i < length xs → slice_index xs i ≤ 2047

-- No word stands under two bytes; both states of one byte may share a word.
abbrev pub Apart : List ℕ → Type 0
Apart xs =
    (i j : ℕ) → (i < length xs) × (j < length xs) × (word_of (slice_index xs i) ≡ word_of (slice_index xs j)) → i / 2 ≡ j / 2

-- A number is above 2,047.
abbrev pub Wide : List ℕ → Type 0
Wide xs = (i : ℕ) × (i < length xs) × (2047 < slice_index xs i)

-- One word stands under two different bytes.
abbrev pub Shared : List ℕ → Type 0
Shared xs =
    (i : ℕ) × (j : ℕ) × (i < length xs) × (j < length xs) × (word_of (slice_index xs i) ≡ word_of (slice_index xs j)) × (i / 2 ≢ j / 2)

-- A good sheet: 512 numbers, none above 2,047, and no word under two bytes.
abbrev pub Good : List ℕ → Type 0
Good xs = (length xs ≡ 512) × Narrow xs × Apart xs

-- What a table of 1,024 entries has to hold: at each word what the sheet's decode gives.
abbrev pub Inverse : List (Option ℕ) → List ℕ → Type 0
Inverse bytes xs = (w : ℕ) → w < 1024 → slice_index_or bytes w None ≡ sheet_decode xs w

-- A byte may take an entry that is empty, or that it has already.
abbrev pub free : Option ℕ → ℕ → Bool
free None b = true
free (Some a) b = a == b
