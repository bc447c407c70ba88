use Rattle.index.proofs.Laying.{opens-empty}
use Rattle.index.proofs.laws.writers_stand.Goals as goal

pub returns : goal.returns
returns c = opens-empty
