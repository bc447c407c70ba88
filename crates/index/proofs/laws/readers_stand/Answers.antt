use Rattle.index.proofs.Grouping.{reads-group, reads_all}
use Rattle.index.proofs.laws.readers_stand.Goals as goal

pub returns : goal.returns
returns c = record { group = reads-group; all = reads_all }
