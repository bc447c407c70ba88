use Rattle.std.proofs.Common.{get_or, set, None, ap, ◌∙◌, arith}
use Rattle.std.proofs.lemmas.List.{length-set}
use Rattle.std.proofs.lemmas.List.Edits.{fill_by_more}
use Rattle.channel.specs.Codes.{plain_decode}
use Rattle.channel.proofs.sheet.checking.plain_bytes.Goals as goal

pub loop-word-preserved : goal.loop-word-preserved
loop-word-preserved c = (
  length-set _ _ _ ∙ c.loop-word.invariant.0,
  λ w l. ap (λ v. get_or (set c.loop-word.byte-items c.loop-word.word v) w None) c.decode.ensures
      ∙ fill_by_more plain_decode c.loop-word.byte-items c.loop-word.word None (omega (arith, c.loop-word.invariant.0)) c.loop-word.invariant.1 w l,
)
