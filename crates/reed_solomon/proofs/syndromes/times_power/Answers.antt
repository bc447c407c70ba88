use Rattle.std.proofs.Common.{rules}
use Rattle.galois.specs.Galois.{gmul, gpow, horner, xtime}
use Rattle.galois.proofs.PowerTables.{products}
use Rattle.galois.proofs.Powers.{products_at}
use Rattle.reed_solomon.proofs.syndromes.times_power.Goals as goal

pub returns : goal.returns
unfolding products gmul gpow horner xtime
returns c = products_at c.args.e c.args.x c.requires (search rules)
