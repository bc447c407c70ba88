-- A group on a tape: what writing it answers, and what it leaves.
use Rattle.std.specs.Prelude.{ℕ, ◌+◌, ◌-◌, ◌*◌, cond, ◌&&◌, List, map, length, Some, None, Ok, Err, Result, ◌==◌, nat_le, nat_lt, slice_index_or}
use Rattle.std.specs.List.{range_with_len}
use Rattle.tape.specs.Tape.{Track}
use Rattle.layout.specs.Group.{address}
use Rattle.channel.specs.Line.{Code}
use Rattle.layout.specs.Line.{track}
use Rattle.layout.specs.Writing.{arrays}
use Rattle.writing.specs.declared.fault.WriteFault.{WriteFault}
use Rattle.writing.specs.declared.fault.WriteFault.TheVariants.{TrackBuffer, Setting, GroupBuffer, Bench, NoGroup}

abbrev pub Answer : Type 0
Answer = Result (Unit {0}) WriteFault

-- the tests of the lent memory and of the settings, in the order of checking
abbrev pub lent : ℕ → ℕ → ℕ → ℕ → ℕ → Answer
lent buffer tap start group bench =
    cond (buffer == 4608)
    (cond (nat_lt tap 32768 && nat_lt start 32768) (cond (group == 126632) (cond (bench == 138048) (Ok tt) (Err Bench)) (Err GroupBuffer)) (Err Setting))
    (Err TrackBuffer)

-- the test of group g on a tape of n tracks
abbrev pub reached : ℕ → ℕ → Answer
reached g n = cond (nat_lt 0 g && nat_le (46 * g) n) (Ok tt) (Err NoGroup)

-- the first answer that declines, else the second
abbrev pub and_then : Answer → Answer → Answer
and_then (Ok u) next = next
and_then (Err e) next = Err e

-- what there is after a call: the new where it is done, else the old
abbrev pub outcome : {X : Type 0} → Answer → X → X → X
outcome (Ok u) new old = new
outcome (Err e) new old = old

-- the tape with the words f 0 to f 45 on the tracks of group g, 46 (g - 1) to 46 g - 1, and the other tracks as they were
unfoldable pub with_tracks : (ℕ → List ℕ) → ℕ → List Track → List Track
with_tracks f g ts =
    map (λ k. cond (nat_le (46 * (g - 1)) k && nat_lt k (46 * (g - 1) + 46)) (Some (f (k - 46 * (g - 1)))) (slice_index_or ts k None)) (range_with_len 0 (length ts))

-- track t of group g under a line code and settings
unfoldable pub group_track : Code → ℕ → ℕ → ℕ → List ℕ → ℕ → List ℕ
group_track c tap start g group t = track c (address g t) (arrays tap start group t)

-- the tape with group g written on its tracks
abbrev pub with_group : Code → ℕ → ℕ → ℕ → List ℕ → List Track → List Track
with_group c tap start g group ts = with_tracks (group_track c tap start g group) g ts
