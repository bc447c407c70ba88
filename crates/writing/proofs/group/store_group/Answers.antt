use Rattle.writing.proofs.GroupMade.{group-made}
use Rattle.writing.proofs.group.store_group.Goals as goal

pub returns : goal.returns
returns g c =
    record {
      kept = c.store_rows.ensures.kept;
      tape =
          group-made c.args.register.tap c.args.register.bits c.args.group.now c.make_rows.new.rows c.make_rows.array_long c.make_rows.ensures
          (g.C.LineCode.line c.args.code.now) c.args.number (g.T.Playable.tracks c.args.tape.now)
          (g.T.Playable.tracks c.store_rows.new.tape) c.store_rows.ensures.tape;
    }
