-- The rows of a group's tracks in memory, and what the group's passes leave there.
use Rattle.std.specs.Prelude.{◌≡◌, ℕ, ◌+◌, ◌-◌, ◌*◌, ◌/◌, ◌%◌, ◌<◌, ◌≤◌, Bool, true, false, ◌&&◌, ◌≢◌, List, map, length, get_or, Some, None, Ok, Err, Option, Result, ◌==◌, bit_xor, slice_index, slice_index_or}
use Rattle.std.specs.List.{range_with_len}
use Rattle.reed_solomon.specs.Interleaves.{interleaved}
use Rattle.tape.specs.Tape.{Track}
use Rattle.layout.specs.Counts.{count, which, listed}
use Rattle.layout.specs.Randomizer.{randomized}
use Rattle.layout.specs.Placing.{number_at, is_data}
use Rattle.channel.specs.Line.{Code}
use Rattle.layout.specs.Reading.{filling, byte_at, Outcome}
use Rattle.layout.specs.Group.{address, number_d, sign_d, joined, first_from, is_none, Found, whole, third, unchecked, outcome, numbered, group_read}
use Rattle.losses.specs.declared.sheet.LossRow.{LossRow}
use Rattle.losses.specs.declared.fault.ReadFault.{ReadFault}
use Rattle.losses.specs.declared.fault.ReadFault.TheVariants.{ThirdLoss, Unchecked}
use Rattle.reading.specs.Arrays.{Recovered}
use Rattle.losses.specs.Losses.{is_loss, no_loss, loss_row}

-- ---- the loss sheet

-- track k is lost
abbrev pub gone_in : List LossRow → ℕ → Bool
gone_in sheet k = is_loss (get_or sheet k no_loss).cause

-- the third lost track
unfoldable pub third_in : List LossRow → Option ℕ
third_in sheet = first_from (λ k. gone_in sheet k && count (gone_in sheet) k == 2) 0 46

-- the rows of the outcomes of 46 tracks
unfoldable pub sheet_of : (ℕ → Outcome) → List LossRow
sheet_of o = map (λ k. loss_row (o k)) (range_with_len 0 46)

-- ---- C3: row k has its number q at 2912 k + q

-- the filling of the C3 word at number q
unfoldable pub filling_in : List ℕ → List ℕ → ℕ → Option (List ℕ)
filling_in ps rows q = filling 2 ps (interleaved rows q 2912 46)

-- D bytes stand at place p, 32 times its block and its serial, and their C3 word has no filling
unfoldable pub bad_in : List ℕ → List ℕ → ℕ → Bool
bad_in ps rows p = is_data (p / 32) (p % 32) && is_none (filling_in ps rows (number_at (p / 32) (p % 32)))

-- the C3 word of place p is filled, if D bytes stand there
pub record Column (ps xs ys : List ℕ) (p : ℕ) (a : Bool) : Type 0 where
  pub none : is_data (p / 32) (p % 32) ≡ false → (a ≡ true) × (ys ≡ xs)
  pub some : is_data (p / 32) (p % 32) ≡ true → Recovered 2 ps xs ys (number_at (p / 32) (p % 32)) 2912 46 a

-- the C3 words of xs at the places below p are filled in ys, and the others as they were
pub record Columns (ps xs ys : List ℕ) (p : ℕ) : Type 0 where
  pub rest : first_from (bad_in ps xs) 0 4096 ≡ first_from (bad_in ps xs) p (4096 - p)
  pub done : (i k : ℕ) → i < p → is_data (i / 32) (i % 32) ≡ true → k < 46
      → slice_index ys (number_at (i / 32) (i % 32) + 2912 * k) ≡ byte_at k (filling_in ps xs (number_at (i / 32) (i % 32)))
  pub others : (q k : ℕ) → q < 2912 → ((i : ℕ) → i < p → is_data (i / 32) (i % 32) ≡ true → number_at (i / 32) (i % 32) ≢ q) → slice_index ys (q + 2912 * k) ≡ slice_index xs (q + 2912 * k)

-- the first place whose C3 word has no filling; if there is none, all are filled
pub record Filled (ps xs ys : List ℕ) (r : Option ℕ) : Type 0 where
  pub first : r ≡ first_from (bad_in ps xs) 0 4096
  pub bytes : r ≡ None → (q k : ℕ) → 2 ≤ q → q < 2880 → k < 46 → slice_index ys (q + 2912 * k) ≡ byte_at k (filling_in ps xs q)

-- ---- the bytes of the group

-- where D_d of sub-group f stands in the rows
abbrev pub place_in : ℕ → ℕ → ℕ
place_in f d = 2912 * (2 * f + sign_d d) + number_d d

-- byte d of the first f sub-groups is put into the group
pub record Spread (rows xs ys : List ℕ) (d mask f : ℕ) : Type 0 where
  pub here : (k : ℕ) → k < f → slice_index ys (5756 * k + d) ≡ bit_xor (slice_index rows (place_in k d)) mask
  pub others : (k e : ℕ) → e < 5756 → e ≢ d → slice_index ys (5756 * k + e) ≡ slice_index xs (5756 * k + e)

-- the group whose D bytes stand in the rows
unfoldable pub group_in : ℕ → ℕ → List ℕ → List ℕ
group_in tap start rows = joined (λ f. randomized tap start (listed (λ d. slice_index rows (place_in f d)) 5756)) 0 22

-- ---- the whole group

-- the tracks of group g on a tape
abbrev pub tracks_of : ℕ → List Track → ℕ → Track
tracks_of g tracks k = slice_index_or tracks (46 * (g - 1) + k) None

-- their outcomes
abbrev pub outcomes : Code → ℕ → List Track → ℕ → Outcome
outcomes c g tracks k = outcome c (address g k) (tracks_of g tracks k)

-- the loss sheet of group g
abbrev pub findings : Code → ℕ → List Track → List LossRow
findings c g tracks = sheet_of (outcomes c g tracks)

-- what group g reads as
abbrev pub found : Code → ℕ → ℕ → ℕ → List Track → Found
found c tap start g tracks = group_read c tap start g (tracks_of g tracks)

-- the rows and the loss sheet hold the outcomes of the first t tracks
pub record Holds (o : ℕ → Outcome) (rows : List ℕ) (sheet : List LossRow) (t : ℕ) : Type 0 where
  pub bytes : (k q : ℕ) → k < t → q < 2912 → slice_index rows (q + 2912 * k) ≡ numbered q (o k)
  pub zeros : (p : ℕ) → 2912 * t ≤ p → slice_index rows p ≡ 0
  pub size : length sheet ≡ 46
  pub findings : (k : ℕ) → k < t → slice_index_or sheet k no_loss ≡ loss_row (o k)

-- what was found in the rows and the loss sheet
abbrev pub found_bytes : ℕ → ℕ → List ℕ → List ℕ → Option ℕ → Found
found_bytes tap start ps rows None = whole (joined (λ f. randomized tap start (listed (λ d. byte_at (2 * f + sign_d d) (filling_in ps rows (number_d d))) 5756)) 0 22)
found_bytes tap start ps rows (Some p) = unchecked (p / 32) (p % 32)

abbrev pub found_tracks : ℕ → ℕ → List LossRow → List ℕ → Option ℕ → Found
found_tracks tap start sheet rows None = found_bytes tap start (which (gone_in sheet) 46) rows (first_from (bad_in (which (gone_in sheet) 46) rows) 0 4096)
found_tracks tap start sheet rows (Some k) = third k

unfoldable pub found_in : ℕ → ℕ → List LossRow → List ℕ → Found
found_in tap start sheet rows = found_tracks tap start sheet rows (third_in sheet)

-- the answer: done, or the third lost track with its row, or the first place whose C3 word does not check
abbrev pub answer_of : List LossRow → Found → Result (Unit {0}) ReadFault
answer_of sheet (whole bytes) = Ok tt
answer_of sheet (third k) = Err (ThirdLoss k (slice_index_or sheet k no_loss))
answer_of sheet (unchecked b s) = Err (Unchecked b s)

-- what the group buffer holds then
abbrev pub group_after : Found → List ℕ → List ℕ
group_after (whole bytes) old = bytes
group_after (third k) old = old
group_after (unchecked b s) old = old
