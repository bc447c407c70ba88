use Rattle.playing.proofs.Promising.{promised}
use Rattle.playing.proofs.laws.promise_stands.Goals as goal

-- src/laws.rt:4:1
pub returns : goal.returns
returns c = promised
