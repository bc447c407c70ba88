use Rattle.std.proofs.Common.{sym, ◌∙◌, arith}
use Rattle.std.proofs.lemmas.List.{ext_get_or}
use Rattle.channel.proofs.sheet.checking.narrowed.Goals as goal

pub returns : goal.returns
returns c = (
  ext_get_or 0 c.loop-i.table c.args.numbers.now (c.loop-i.invariant.0 ∙ sym c.requires) (λ k l. c.loop-i.invariant.1 k (omega (arith, c.loop-i.invariant.0))),
  λ k l. c.loop-i.invariant.2 k (omega (arith, c.requires)),
)
