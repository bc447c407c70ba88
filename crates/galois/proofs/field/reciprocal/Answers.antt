use Rattle.std.proofs.Common.{sym, ap, ◌∙◌}
use Rattle.galois.specs.Galois.{ginv}
use Rattle.galois.proofs.Powers.{inv-alpha, inv-nought}
use Rattle.galois.proofs.field.reciprocal.Goals as goal

pub returns-then-a-eq0 : goal.returns-then-a-eq0
returns-then-a-eq0 c = sym (inv-nought c.args.a c.if-a-eq0.true)

pub returns-else-a-eq0 : goal.returns-else-a-eq0
returns-else-a-eq0 c = c.listed_power.ensures ∙ inv-alpha c.log.result c.log.ensures.below ∙ ap ginv c.log.ensures.power
