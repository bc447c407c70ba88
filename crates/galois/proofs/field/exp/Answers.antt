use Rattle.std.proofs.Common.{◌∙◌}
use Rattle.galois.proofs.Powers.{alpha-mod}
use Rattle.galois.proofs.field.exp.Goals as goal

pub returns : goal.returns
returns c = c.listed_power.ensures ∙ alpha-mod c.args.e
