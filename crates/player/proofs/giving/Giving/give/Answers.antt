use Rattle.std.proofs.Common.{sym, ap, ◌∙◌, subst, arith}
use Rattle.index.specs.Bytes.{read_group}
use Rattle.index.specs.Cursors.{cursor_of}
use Rattle.player.specs.Shelves.{shelf, laid_all, Fits, size_in, finished_in}
use Rattle.player.proofs.Rooms.{no_output, no_rows, room, starts-sound, starts_with}
use Rattle.player.proofs.giving.Giving.give.Goals as goal

pub measure-bytes-requires : goal.measure-bytes-requires
measure-bytes-requires c = starts-sound c.args.group.now (cursor_of c.in-Some.reader) (omega arith) c.requires.few c.in-Some.ensures.1

pub returns-then-bytes-output : goal.returns-then-bytes-output
returns-then-bytes-output c =
    let s = shelf c.args.self.now c.args.output.now c.args.rows.now in
    let ps = (read_group c.args.group.now).entries in
    let e = starts_with c.args.group.now (cursor_of c.in-Some.reader) (omega arith) c.requires.few c.in-Some.ensures.1 in
    let b = c.measure-bytes.ensures.bytes ∙ ap size_in e in
    let g = no_output s ps (omega (arith, c.if-bytes-output.true, c.requires.roomy.bytes)) in
    record { answer = g.answer; given = g.then }

pub returns-then-items-rows : goal.returns-then-items-rows
returns-then-items-rows c =
    let s = shelf c.args.self.now c.args.output.now c.args.rows.now in
    let ps = (read_group c.args.group.now).entries in
    let e = starts_with c.args.group.now (cursor_of c.in-Some.reader) (omega arith) c.requires.few c.in-Some.ensures.1 in
    let b = c.measure-bytes.ensures.bytes ∙ ap size_in e in
    let f = c.measure-bytes.ensures.rows ∙ ap finished_in e in
    let g = no_rows s ps (omega (arith, c.if-bytes-output.false, c.requires.roomy.bytes)) (omega (arith, c.if-items-rows.true, c.requires.roomy.rows)) in
    record { answer = g.answer; given = g.then }

pub take_all-requires : goal.take_all-requires
take_all-requires c =
    let s = shelf c.args.self.now c.args.output.now c.args.rows.now in
    let e = starts_with c.args.group.now (cursor_of c.in-Some.reader) (omega arith) c.requires.few c.in-Some.ensures.1 in
    let b = c.measure-bytes.ensures.bytes ∙ ap size_in e in
    let f = c.measure-bytes.ensures.rows ∙ ap finished_in e in
    record {
      sound = starts-sound c.args.group.now (cursor_of c.in-Some.reader) (omega arith) c.requires.few c.in-Some.ensures.1;
      fits = subst (Fits s) (sym e) (c.requires.roomy.fits (omega (arith, c.if-bytes-output.false, c.requires.roomy.bytes)) (omega (arith, c.if-items-rows.false, c.requires.roomy.rows)));
    }

pub returns : goal.returns
returns c =
    let s = shelf c.args.self.now c.args.output.now c.args.rows.now in
    let ps = (read_group c.args.group.now).entries in
    let e = starts_with c.args.group.now (cursor_of c.in-Some.reader) (omega arith) c.requires.few c.in-Some.ensures.1 in
    let b = c.measure-bytes.ensures.bytes ∙ ap size_in e in
    let f = c.measure-bytes.ensures.rows ∙ ap finished_in e in
    let g = room s ps (omega (arith, c.if-bytes-output.false, c.requires.roomy.bytes)) (omega (arith, c.if-items-rows.false, c.requires.roomy.rows)) _ (c.take_all.ensures ∙ ap (laid_all s) e) in
    record { answer = g.answer; given = g.then }
