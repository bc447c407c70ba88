use Rattle.std.specs.Prelude.{ℕ}
use Rattle.layout.specs.declared.lent.LentFault.{LentFault}
use Rattle.layout.specs.declared.lent.LentFault.TheVariants as lent
use Rattle.writing.specs.declared.fault.WriteFault.{WriteFault}
use Rattle.writing.specs.declared.fault.WriteFault.TheVariants.{TrackBuffer, Setting, GroupBuffer, Bench, NoGroup}

-- the number that a fault is reported by
abbrev pub number : WriteFault → ℕ
number TrackBuffer = 6
number Setting = 8
number GroupBuffer = 9
number Bench = 15
number NoGroup = 19

-- a fault of what is lent, as a fault of writing
abbrev pub write_fault : LentFault → WriteFault
write_fault lent.TrackBuffer = TrackBuffer
write_fault lent.Setting = Setting
write_fault lent.GroupBuffer = GroupBuffer
write_fault lent.Bench = Bench
