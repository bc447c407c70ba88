use Rattle.std.proofs.Common.{arith}
use prog.Memory.{size}
use denote.Param.{layout}
use Rattle.images.proofs.Cutting.{room-bytes}
use Rattle.images.proofs.image.store.Goals as goal

pub offset_bounds-memory-start : goal.offset_bounds-memory-start
offset_bounds-memory-start g c = rw c.STRIDE.ensures (omega (arith, room-bytes (size (layout g.row.N)) _ _ _ _ c.tracks.ensures.whole c.in_ok-storable.ensures.within.1))

pub offset_bounds-memory-start-2 : goal.offset_bounds-memory-start-2
offset_bounds-memory-start-2 g c = rw c.STRIDE.ensures (omega (arith, room-bytes (size (layout g.row.N)) _ _ _ _ c.tracks.ensures.whole c.in_ok-storable.ensures.within.1))
