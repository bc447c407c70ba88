use Rattle.std.proofs.Common.{ℕ, ◌+◌, ◌/◌, ◌∙◌, arith}
use Rattle.std.proofs.lemmas.List.{length-set}
use Rattle.std.proofs.lemmas.List.Edits.{fill_by_more}
use Rattle.channel.proofs.sheet.checking.plain_numbers.Goals as goal

pub loop-i-preserved : goal.loop-i-preserved
loop-i-preserved c = (
  length-set _ _ _ ∙ c.loop-i.invariant.0,
  fill_by_more (λ (k : ℕ). k / 2 + 1024) c.loop-i.number-items c.loop-i.i 0 (omega (arith, c.loop-i.invariant.0)) c.loop-i.invariant.1,
)
