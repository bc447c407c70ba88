use Rattle.std.proofs.Common.{arith}
use Rattle.index.proofs.Replacing.{replaced-mid}
use Rattle.player.proofs.giving.entries.put_bytes.Goals as goal

pub returns : goal.returns
returns c = replaced-mid c.args.output.now c.copy_from_slice.new.self c.args.bytes.now c.args.at _ (omega arith) c.copy_from_slice.ensures.after
