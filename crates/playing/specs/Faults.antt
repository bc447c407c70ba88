-- The faults of playing: their numbers, and the values that they name.
use Rattle.std.specs.Prelude.{ℕ, List, [], ◌∷◌}
use Rattle.index.specs.Faults.{declined}
use Rattle.losses.specs.Faults.{fault_report}
use Rattle.index.specs.declared.fault.GroupFault.{GroupFault}
use Rattle.index.specs.declared.fault.GroupFault.TheVariants.{WrongLength, Index as IndexOf}
use Rattle.layout.specs.declared.lent.LentFault.{LentFault}
use Rattle.layout.specs.declared.lent.LentFault.TheVariants as lent
use Rattle.playing.specs.declared.fault.GroupCause.{GroupCause}
use Rattle.playing.specs.declared.fault.GroupCause.TheVariants.{Absent, Tracks, Index, Output, Rows}
use Rattle.playing.specs.declared.fault.PlayFault.{PlayFault}
use Rattle.playing.specs.declared.fault.PlayFault.TheVariants.{TrackBuffer, Setting, GroupBuffer, Bench, Group}

-- a fault at group n: its number, the group, and the values of the layer below
abbrev pub cause_report : ℕ → GroupCause → ℕ × List ℕ
cause_report n Absent = (19, n ∷ [])
cause_report n (Tracks f) = ((fault_report f).0, n ∷ (fault_report f).1)
cause_report n (Index e) = (18, n ∷ (declined e).1 ∷ (declined e).2 ∷ [])
cause_report n Output = (20, n ∷ [])
cause_report n Rows = (21, n ∷ [])

abbrev pub play_report : PlayFault → ℕ × List ℕ
play_report TrackBuffer = (6, [])
play_report Setting = (8, [])
play_report GroupBuffer = (9, [])
play_report Bench = (15, [])
play_report (Group n c) = cause_report n c

-- why a group is not walked, as the cause of a decline: one of another length is none of the tape
abbrev pub cause_of : GroupFault → GroupCause
cause_of (IndexOf f) = Index f
cause_of WrongLength = Absent

-- a fault of what is lent, as a fault of playing
abbrev pub play_fault : LentFault → PlayFault
play_fault lent.TrackBuffer = TrackBuffer
play_fault lent.Setting = Setting
play_fault lent.GroupBuffer = GroupBuffer
play_fault lent.Bench = Bench
