use Rattle.reading.proofs.Standing.{group-kept, group-unmixed}
use Rattle.reading.proofs.theorems.groups_stand.Goals as goal

pub returns : goal.returns
returns c = record { kept = group-kept; unmixed = group-unmixed }
