use Rattle.runs.proofs.Running.{staying}
use Rattle.runs.proofs.Closing.{standing}
use Rattle.runs.proofs.laws.runs_stand.Goals as goal

-- src/laws.rt:6:1
pub returns : goal.returns
returns c = record { staying = staying; standing = standing }
