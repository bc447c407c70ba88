use Rattle.std.proofs.Common.{rules}
use Rattle.galois.proofs.PowerTables.{logs}
use Rattle.galois.proofs.Powers.{logs_at, logs-lt}
use Rattle.galois.proofs.field.log.Goals as goal

pub returns : goal.returns
unfolding logs
returns c = record { below = logs-lt c.args.a (search rules); power = logs_at c.args.a c.requires (search rules) }
