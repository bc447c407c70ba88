use Rattle.std.proofs.Common.{arith}
use Rattle.recorder.proofs.Asking.{small_all}
use Rattle.recorder.proofs.list.carrying.are_bytes.Goals as goal

pub returns : goal.returns
returns c = small_all c.args.bytes.now (λ i. omega (arith, c.type_inv.bytes i))
