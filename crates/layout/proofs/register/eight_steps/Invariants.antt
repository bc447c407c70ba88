use Rattle.std.proofs.Common.{◌≡◌, ◌<◌}
use Rattle.layout.specs.Randomizer.{steps}
use Rattle.layout.proofs.register.eight_steps.Given as goal

abbrev pub invariant-loop-k : goal.invariant-loop-k
invariant-loop-k l = (l.after ≡ steps l.tap l.k l.bits) × (l.after < 32768)
