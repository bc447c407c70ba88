-- The numbers of faults.
use Rattle.std.specs.Prelude.{ℕ}
use Rattle.index.specs.declared.fault.IndexFault.{IndexFault}
use Rattle.index.specs.declared.fault.IndexFault.TheVariants.{GroupNumber, EntryCount, LastByte, TableZeros, Flag, Succession, Count, Totals, OpenRecord}
use Rattle.index.specs.declared.fault.GroupFault.{GroupFault}
use Rattle.index.specs.declared.fault.GroupFault.TheVariants.{WrongLength, Index}

-- the number of the decline, the entry (0 for the table), and the cause in the order of looking
abbrev pub declined : IndexFault → ℕ × ℕ × ℕ
declined GroupNumber = (18, 0, 1)
declined EntryCount = (18, 0, 2)
declined LastByte = (18, 0, 3)
declined TableZeros = (18, 0, 4)
declined (Flag i) = (18, i, 5)
declined (Succession i) = (18, i, 6)
declined (Count i) = (18, i, 7)
declined Totals = (18, 0, 8)
declined OpenRecord = (18, 0, 9)

-- the number with which a group is declined
abbrev pub group_decline : GroupFault → ℕ
group_decline WrongLength = 9
group_decline (Index e) = 18
