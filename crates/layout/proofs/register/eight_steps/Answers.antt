use Rattle.std.proofs.Common.{sym, refl, ap, ◌∙◌, add-one}
use Rattle.layout.specs.Randomizer.{step, steps}
use Rattle.layout.proofs.Outputs.{steps-more}
use Rattle.layout.proofs.register.eight_steps.Goals as goal

pub loop-k-init : goal.loop-k-init
unfolding steps
loop-k-init c = (refl, c.requires)

pub loop-k-preserved : goal.loop-k-preserved
loop-k-preserved c = (
  c.step-after.ensures.is ∙ ap (step c.args.tap) c.loop-k.invariant.0 ∙ sym (steps-more c.args.tap c.loop-k.k c.args.bits)
      ∙ ap (λ m. steps c.args.tap m c.args.bits) (sym (add-one c.loop-k.k)),
  c.step-after.ensures.below,
)
