use Rattle.laying.proofs.Bounds.{stores-open}
use Rattle.laying.proofs.laws.groups_stand.Goals as goal

pub returns : goal.returns
returns c = stores-open
