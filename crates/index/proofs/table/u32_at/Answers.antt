use Rattle.std.proofs.Common.{arith}
use Rattle.index.proofs.Reading.{number-bytes}
use Rattle.index.proofs.table.u32_at.Goals as goal

pub returns : goal.returns
returns c = omega (arith, c.from_be_bytes.ensures, number-bytes c.args.group.now c.args.at)
