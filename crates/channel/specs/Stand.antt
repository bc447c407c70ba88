use Rattle.std.specs.Prelude.{◌≡◌, ℕ, ◌+◌, ◌*◌, ◌<◌, false, List, ◌++◌, length, replicate, Some, Option, Result, slice_index}
use Rattle.std.specs.List.{AllByRecursion}
use Rattle.channel.specs.declared.state.State.{State}
use Rattle.channel.specs.declared.fault.SheetFault.{SheetFault}
use Rattle.channel.specs.States.{state_number}
use Rattle.channel.specs.Codes.{place, sheet_encode, sheet_decode, Good, Shared}
use Rattle.channel.specs.Faults.{SheetVerdict}
use Rattle.channel.specs.Listed.{encode_all, state_after, decode_all, lost_of}

-- A good sheet is a line code. For every state and byte its number is the word plus 1,024 times the next state, the
-- word is below 1,024, and the word gives the byte back.
abbrev pub GoodSheetsServe : Type 0
GoodSheetsServe =
    (xs : List ℕ) → Good xs → (s : State) (b : ℕ) → b < 256
    → (slice_index xs (place s b) ≡ (sheet_encode xs s b).0 + 1024 * state_number (sheet_encode xs s b).1)
    × ((sheet_encode xs s b).0 < 1024)
    × (sheet_decode xs (sheet_encode xs s b).0 ≡ Some b)

-- A good sheet gives for a word no other byte than one that has this word in some state.
abbrev pub DecodesNoMore : Type 0
DecodesNoMore =
    (xs : List ℕ) (w b : ℕ) → Good xs → sheet_decode xs w ≡ Some b → (s : State) × (b < 256) × ((sheet_encode xs s b).0 ≡ w)

-- Where one word stands under two bytes, no decoding at all gives every byte back.
abbrev pub SharedWordsServeNever : Type 0
SharedWordsServeNever =
    (xs : List ℕ) (decode : ℕ → Option ℕ) → length xs ≡ 512 → Shared xs
    → ((s : State) (b : ℕ) → b < 256 → decode (sheet_encode xs s b).0 ≡ Some b) → ⊥

-- No list of numbers has two verdicts.
abbrev pub OneVerdict : Type 0
OneVerdict = (xs : List ℕ) (q r : Result (Unit {0}) SheetFault) → SheetVerdict xs q → SheetVerdict xs r → q ≡ r

-- Under any line code, bytes that are encoded one after another and decoded again are the same, and none is lost.
abbrev pub SeriesComeBack : Type 0
SeriesComeBack =
    (f : State → ℕ → ℕ × State) (g : ℕ → Option ℕ) → ((s : State) (b : ℕ) → b < 256 → g (f s b).0 ≡ Some b)
    → (s : State) (bs : List ℕ) → AllByRecursion (λ b. b < 256) bs
    → (decode_all g (encode_all f s bs) ≡ bs) × (lost_of g (encode_all f s bs) ≡ replicate (length bs) false)

-- There are as many words as bytes, each below 1,024.
abbrev pub SeriesFit : Type 0
SeriesFit =
    (f : State → ℕ → ℕ × State) → ((s : State) (b : ℕ) → b < 256 → (f s b).0 < 1024)
    → (s : State) (bs : List ℕ) → AllByRecursion (λ b. b < 256) bs
    → (length (encode_all f s bs) ≡ length bs) × AllByRecursion (λ w. w < 1024) (encode_all f s bs)

-- Two series encoded one after the other, the state carried over, are the two encoded as one.
abbrev pub SeriesJoin : Type 0
SeriesJoin =
    (f : State → ℕ → ℕ × State) (s : State) (bs cs : List ℕ)
    → (encode_all f s (bs ++ cs) ≡ encode_all f s bs ++ encode_all f (state_after f s bs) cs)
    × (state_after f s (bs ++ cs) ≡ state_after f (state_after f s bs) cs)
