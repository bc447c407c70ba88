-- Why a reading is declined.
use Rattle.std.specs.Prelude.{ℕ, ◌*◌, Bool, cond, ◌&&◌, ◌||◌, List, [], ◌∷◌, Some, None, Ok, Err, Option, Result, ◌==◌, nat_le, nat_lt}
use Rattle.layout.specs.declared.lent.LentFault.{LentFault}
use Rattle.layout.specs.declared.lent.LentFault.TheVariants as lent
use Rattle.losses.specs.declared.fault.ReadFault.{ReadFault}
use Rattle.losses.specs.declared.fault.ReadFault.TheVariants.{TrackBuffer, Setting, GroupBuffer, Bench, NoGroup, ThirdLoss, Unchecked}
use Rattle.losses.specs.Losses.{cause_number}
use Rattle.losses.specs.declared.fault.TrackFault.{TrackFault}
use Rattle.losses.specs.declared.fault.TrackFault.TheVariants.{NoTrack, Words, Memory}

-- the number of each fault
abbrev pub track_number : TrackFault → ℕ
track_number NoTrack = 4
track_number Words = 6
track_number Memory = 15

-- the answer of a call that may be declined
abbrev pub answered : {X E : Type 0} → Option E → X → Result X E
answered None x = Ok x
answered (Some e) x = Err e

-- what memory holds after it: as it was, where it is declined
abbrev pub unless : {X E : Type 0} → Option E → X → X → X
unless None new old = new
unless (Some e) new old = old

-- why reading a track is declined, by the number of its words, the sizes of row and array, and its number
abbrev pub track_decline : ℕ → ℕ → ℕ → ℕ → Option TrackFault
track_decline words row array t = cond (words == 4608) (cond (row == 2912 && array == 4096) (cond (nat_lt t 46) None (Some NoTrack)) (Some Memory)) (Some Words)

-- the number of each fault, and the values that it names
abbrev pub fault_report : ReadFault → ℕ × List ℕ
fault_report TrackBuffer = (6, [])
fault_report Setting = (8, [])
fault_report GroupBuffer = (9, [])
fault_report Bench = (15, [])
fault_report NoGroup = (19, [])
fault_report (ThirdLoss track row) = (16, track ∷ cause_number row.cause ∷ row.m ∷ row.n ∷ [])
fault_report (Unchecked block serial) = (17, block ∷ serial ∷ [])

-- why reading a group is declined before the bench is used: by the sizes of track buffer, group buffer and bench, and the settings
abbrev pub size_decline : ℕ → ℕ → ℕ → ℕ → ℕ → Option ReadFault
size_decline buffer tap start group bench =
    cond (buffer == 4608) (cond (nat_le tap 32767 && nat_le start 32767) (cond (group == 126632) (cond (bench == 138048) None (Some Bench)) (Some GroupBuffer)) (Some Setting)) (Some TrackBuffer)

-- the same before a track is fetched: no group 0, and none that is not whole on a tape of n tracks
abbrev pub group_decline : Option ReadFault → ℕ → ℕ → Option ReadFault
group_decline (Some e) g n = Some e
group_decline None g n = cond (g == 0 || nat_lt n (46 * g)) (Some NoGroup) None

-- the same by whether the group is on the tape
abbrev pub absent : Bool → Option ReadFault
absent present = cond present None (Some NoGroup)

-- the answer of a call that may be declined before it has one
abbrev pub declined_or : {X E : Type 0} → Option E → Result X E → Result X E
declined_or None r = r
declined_or (Some e) r = Err e

-- a fault of what is lent, as a fault of reading
abbrev pub read_fault : LentFault → ReadFault
read_fault lent.TrackBuffer = TrackBuffer
read_fault lent.Setting = Setting
read_fault lent.GroupBuffer = GroupBuffer
read_fault lent.Bench = Bench
