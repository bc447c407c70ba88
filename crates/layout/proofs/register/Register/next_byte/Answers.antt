use Rattle.std.proofs.Common.{sym, lit≤}
use Rattle.layout.proofs.Outputs.{out-low}
use Rattle.layout.proofs.register.Register.next_byte.Goals as goal

pub returns-clause-byte : goal.returns-clause-byte
returns-clause-byte c = sym (out-low c.args.self.now.tap 8 c.args.self.now.bits (lit≤ tt))
