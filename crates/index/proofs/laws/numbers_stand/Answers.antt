use Rattle.index.proofs.Counting.{agreed}
use Rattle.index.proofs.laws.numbers_stand.Goals as goal

pub returns : goal.returns
returns c = agreed
