-- Declines: their numbers, and the tests of each call in the order of checking.
use Rattle.std.specs.Prelude.{ℕ, ◌*◌, Bool, cond, ◌&&◌, ◌||◌, Ok, Err, Result, ◌==◌, nat_lt}
use Rattle.layout.specs.declared.settings.Settings.{Settings}
use Rattle.runs.specs.Run.{Lent}
use Rattle.calls.specs.declared.fault.Decline.{Decline}
use Rattle.calls.specs.declared.fault.Decline.TheVariants.{TrackBuffer, Setting, GroupBuffer, ShortTape, Length, Full, MarkKind, LostTracks, Bench}
use Rattle.calls.specs.Held.{Book, record_ends, mark_ends}

-- the number that a decline is reported by
abbrev pub number : Decline → ℕ
number TrackBuffer = 6
number Setting = 8
number GroupBuffer = 9
number ShortTape = 10
number Length = 11
number Full = 12
number MarkKind = 13
number LostTracks = 14
number Bench = 15

-- what a call answers: that it is carried out, or why it is declined
abbrev pub Answer : Type 0
Answer = Result (Unit {0}) Decline

-- the number of an answer: 0 where the call is carried out
abbrev pub number_of : Answer → ℕ
number_of (Ok u) = 0
number_of (Err e) = number e

-- the first answer that declines, else the second
abbrev pub and_then : Answer → Answer → Answer
and_then (Ok u) next = next
and_then (Err e) next = Err e

-- what there is after a call: the new where it is carried out, else the old
abbrev pub outcome : {X : Type 0} → Answer → X → X → X
outcome (Ok u) new old = new
outcome (Err e) new old = old

-- the check for making, with a group buffer of so many bytes: the settings, the buffer, the tape
abbrev pub makable : Settings → ℕ → Bool → Answer
makable x size long =
    cond (nat_lt x.tap 32768 && nat_lt x.start 32768) (cond (size == 126632) (cond long (Ok tt) (Err ShortTape)) (Err GroupBuffer)) (Err Setting)

-- a recording made in spite of a number declines each call with it; of the tape it knows G
abbrev pub refused : Book → ℕ → Answer
refused b size = makable b.settings size (nat_lt 0 b.limit)

-- the track buffer and the bench
abbrev pub lends : Lent → Answer
lends m = cond (m.track == 4608) (cond (m.bench == 138048) (Ok tt) (Err Bench)) (Err TrackBuffer)

-- both: a call that passes leaves the track buffer and the bench zero
abbrev pub admitted : Lent → ℕ → Book → Answer
admitted m size b = and_then (refused b size) (lends m)

-- a tape of n tracks still has G groups
abbrev pub reaches : ℕ → Book → Answer
reaches n b = cond (nat_lt n (46 * b.limit)) (Err LostTracks) (Ok tt)

-- a record of n bytes
abbrev pub recordable : ℕ → Book → Answer
recordable n b =
    cond (n == 0 || nat_lt 16777215 n) (Err Length) (cond (nat_lt b.limit (record_ends n b)) (Err Full) (Ok tt))

-- a mark of kind k
abbrev pub markable : ℕ → Book → Answer
markable k b = cond (k == 1 || k == 2) (cond (nat_lt b.limit (mark_ends b)) (Err Full) (Ok tt)) (Err MarkKind)
