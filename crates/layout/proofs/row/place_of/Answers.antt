use Rattle.std.proofs.Common.{refl}
use Rattle.layout.specs.Placing.{block_at, serial_at, block, serial}
use Rattle.layout.proofs.row.place_of.Goals as goal

pub returns-clause-is : goal.returns-clause-is
unfolding block_at serial_at block serial
returns-clause-is c = refl
