use Rattle.std.proofs.Common.{sym, ap, ◌∙◌}
use Rattle.galois.specs.Galois.{gpow}
use Rattle.galois.proofs.Powers.{gpow-nought, gpow-none}
use Rattle.galois.proofs.Powers.{alpha-mod-mul, gpow-mul}
use Rattle.galois.proofs.field.power.Goals as goal

pub returns-then-e-eq0 : goal.returns-then-e-eq0
returns-then-e-eq0 c = sym (gpow-none c.args.x c.args.e c.if-e-eq0.true)

pub returns-then-x-eq0 : goal.returns-then-x-eq0
returns-then-x-eq0 c = sym (gpow-nought c.args.x c.args.e c.if-x-eq0.true c.if-e-eq0.false)

pub returns-else-x-eq0 : goal.returns-else-x-eq0
returns-else-x-eq0 c =
    c.listed_power.ensures ∙ alpha-mod-mul c.log.result c.args.e ∙ gpow-mul 2 c.log.result c.args.e ∙ ap (λ z. gpow z c.args.e) c.log.ensures.power
