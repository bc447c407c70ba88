use Rattle.std.proofs.Common.{length, arith, rules}
use Rattle.calls.specs.Held.{Held}
use Rattle.recorder.specs.Views.{book_of}
use Rattle.recorder.proofs.Desks.{group-taped}
use Rattle.recorder.proofs.ledger.Ledger.store.Goals as goal

pub returns : goal.returns
returns g c =
    let k = g.C.LineCode.line c.args.code.now in
    let l = c.args.self.now in
    let h : Held = record { book = book_of l; group = c.args.group.now } in
    let a = c.requires.admitted in
    let e = c.complete_group.ensures in
    let w = c.write_group.ensures in
    record {
      group = search rules;
      tape =
          group-taped k h (g.T.Playable.tracks c.args.tape.now) (g.T.Playable.tracks c.write_group.new.tape) c.args.last (length c.args.buffer.now) (length c.args.bench.now)
          c.complete_group.new.group c.complete_group.result c.write_group.result a.group l.warning l.fits a.tap a.start l.first
          (omega (arith, c.requires.tape, a.limit, l.within)) (omega arith) (omega arith) e.answer e.held c.complete_group.auto.group w.answer w.tape;
      kept = w.kept;
    }
