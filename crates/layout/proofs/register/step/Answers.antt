use Rattle.std.proofs.Common.{refl, arith}
use Rattle.layout.specs.Randomizer.{step}
use Rattle.layout.proofs.register.step.Goals as goal

pub returns : goal.returns
unfolding step
returns c = record { is = refl; below = omega arith }
