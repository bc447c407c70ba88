use Rattle.std.proofs.Common.{length, arith, rules}
use borrow.Author.Rules.{scaled_Fits}
use prog.Memory.{size}
use denote.Param.{layout}
use Rattle.images.proofs.image.blank.Goals as goal

pub offset_bounds-memory-start : goal.offset_bounds-memory-start
offset_bounds-memory-start g c = scaled_Fits _ (length c.args.memory.now) (size (layout g.row.N)) (search rules) (omega arith)
