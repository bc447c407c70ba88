use Rattle.laying.proofs.Alone.{settled}
use Rattle.laying.proofs.laws.settled_stand.Goals as goal

pub returns : goal.returns
returns c = settled
