use Rattle.std.proofs.Common.{arith}
use Rattle.writing.proofs.RowsMade.{rows_made}
use Rattle.writing.proofs.rows.make_rows.Goals as goal

pub returns : goal.returns
returns c =
    rows_made c.args.register.tap c.args.register.bits c.args.group.now c.make_pad.new.pad c.spread.new.rows c.put_c3.new.rows c.told-group
    (λ d h. c.make_pad.ensures d (omega (arith, c.make_pad.auto.pad, c.make_pad.auto.pad))) c.spread.ensures c.put_c3.ensures
