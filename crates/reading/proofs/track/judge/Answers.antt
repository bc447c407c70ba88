use Rattle.std.proofs.Common.{false, get_or, ap, ◌∙◌, subst, sym}
use lib.ListN.{get_or-replicate}
use Rattle.layout.specs.Group.{address}
use Rattle.reading.specs.Arrays.{at}
use Rattle.layout.specs.Reading.{reading}
use Rattle.reading.specs.Outcomes.{Judged}
use Rattle.reading.proofs.Marks.{taken_none}
use Rattle.reading.proofs.WholeTrack.{track-lost, track-unheaded, track-read}
use Rattle.reading.proofs.track.judge.Goals as goal

pub take_bytes-requires : goal.take_bytes-requires
take_bytes-requires g c = record {
  so_far = taken_none (g.C.LineCode.line c.args.code.now) (address c.args.position.group c.args.position.track) (at c.args.words.now) c.args.array.now c.new-lost.result.marks
      (λ k h. ap (λ z. get_or z k false) c.new-lost.ensures ∙ get_or-replicate 128 k false false h);
}

pub returns-then-is_some : goal.returns-then-is_some
returns-then-is_some g c =
    track-lost (g.C.LineCode.line c.args.code.now) (address c.args.position.group c.args.position.track) (at c.args.words.now)
    c.take_bytes.new.array c.correct-found.new.array c.take_bytes.new.lost.marks c.mark_unchecked.new.lost.marks c.correct-found.result c.take_bytes.ensures c.mark_unchecked.ensures
    c.correct-found.ensures c.if-is_some.ensures

pub returns-then-not-is_headed : goal.returns-then-not-is_headed
returns-then-not-is_headed g c =
    subst (Judged (reading (g.C.LineCode.line c.args.code.now) (address c.args.position.group c.args.position.track) (at c.args.words.now)) c.correct-found.new.array) (sym c.from.ensures)
    (track-unheaded (g.C.LineCode.line c.args.code.now) (address c.args.position.group c.args.position.track) (at c.args.words.now)
    c.take_bytes.new.array c.correct-found.new.array c.take_bytes.new.lost.marks c.mark_unchecked.new.lost.marks c.correct-found.result c.take_bytes.ensures c.mark_unchecked.ensures
    c.correct-found.ensures c.if-is_some.ensures c.if-not-is_headed.ensures)

pub returns : goal.returns
returns g c =
    track-read (g.C.LineCode.line c.args.code.now) (address c.args.position.group c.args.position.track) (at c.args.words.now)
    c.take_bytes.new.array c.correct-found.new.array c.take_bytes.new.lost.marks c.mark_unchecked.new.lost.marks c.correct-found.result c.take_bytes.ensures c.mark_unchecked.ensures
    c.correct-found.ensures c.if-is_some.ensures c.if-not-is_headed.ensures
