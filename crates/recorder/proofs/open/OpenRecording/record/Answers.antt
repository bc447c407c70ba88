use Rattle.std.proofs.Common.{◌≡◌, length, Ok, sym, ◌∙◌, arith}
use Rattle.runs.specs.Run.{Lent}
use Rattle.calls.specs.Laying.{desk}
use Rattle.calls.specs.Calls.{admits}
use Rattle.recorder.specs.Views.{held_in, book_of}
use Rattle.recorder.proofs.Desks.{admitted-track, admitted-bench, cleared-lent}
use Rattle.recorder.proofs.open.OpenRecording.record.Goals as goal

pub unwrap-buffer-requires : goal.unwrap-buffer-requires
unwrap-buffer-requires g c =
    let m : Lent = record { track = length c.args.buffer.now; bench = length c.args.bench.now } in
    c.as_mut_array-2.ensures.variant.1 (admitted-track m (length c.args.self.now.group.now) (book_of c.args.self.now.ledger) (sym c.test_lent.ensures ∙ c.in_ok-test_lent.was))

pub returns-clause-bench : goal.returns-clause-bench
returns-clause-bench g c =
    let m : Lent = record { track = length c.args.buffer.now; bench = length c.args.bench.now } in
    let a : admits m (desk (held_in c.args.self.now) (g.T.Playable.tracks c.args.tape.now)) ≡ Ok tt = sym c.test_lent.ensures ∙ c.in_ok-test_lent.was in
    let b = admitted-bench m (length c.args.self.now.group.now) (book_of c.args.self.now.ledger) a in
    cleared-lent (admits m (desk (held_in c.args.self.now) (g.T.Playable.tracks c.args.tape.now))) c.args.bench.now c.place_record-answer.new.bench 138048 a b (omega arith) c.fill.new.self
    (c.fill.ensures.after (λ y h. h))
