use Rattle.index.proofs.Reread.{reread}
use Rattle.index.proofs.laws.bytes_stand.Goals as goal

pub returns : goal.returns
returns c = reread
