use Rattle.std.proofs.Common.{◌∙◌}
use Rattle.index.proofs.Reading.{number-two}
use Rattle.index.proofs.table.u16_at.Goals as goal

pub returns : goal.returns
returns c = c.from_be_bytes.ensures ∙ number-two c.args.group.now c.args.at
