use Rattle.galois.proofs.PowerTables.{exps}
use Rattle.galois.proofs.Powers.{exps-at}
use Rattle.galois.proofs.field.listed_power.Goals as goal

pub returns : goal.returns
unfolding exps
returns c = exps-at c.args.i c.requires
