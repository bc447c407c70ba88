use Rattle.std.proofs.Common.{◌≡◌, length}
use Rattle.channel.specs.Laws.{Filled, ApartTo}
use Rattle.channel.proofs.sheet.checking.inverted.Given as goal

abbrev pub invariant-loop-i : goal.invariant-loop-i
invariant-loop-i l = (length l.bytes ≡ 1024) × Filled l.bytes l.numbers l.i × ApartTo l.numbers l.i
