use Rattle.laying.proofs.Bounds.{bound-free}
use Rattle.laying.proofs.laws.rests_stand.Goals as goal

pub returns : goal.returns
returns c = bound-free
