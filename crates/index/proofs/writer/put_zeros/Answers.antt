use Rattle.index.specs.Bytes.{zeros}
use Rattle.index.proofs.writer.put_zeros.Goals as goal

pub returns : goal.returns
unfolding zeros
returns c = c.put_bytes.ensures
