use Rattle.std.proofs.Common.{ℕ, length, get_or, ap, ◌∙◌, ap₂}
use Rattle.layout.specs.Group.{group_read}
use Rattle.layout.specs.Reading.{Outcome}
use Rattle.reading.specs.Groups.{outcomes, answer_of, group_after}
use Rattle.reading.proofs.WholeGroup.{found-is, sheet-is, zero-all}
use Rattle.reading.proofs.group.read_present.Goals as goal

pub read_tracks-requires : goal.read_tracks-requires
read_tracks-requires g c =
    record {
      group = c.requires.present;
      tape = c.requires.tape;
      zero = λ p. ap (λ z. get_or z p 0) (c.fill.ensures.after (λ y e. e)) ∙ zero-all (length c.unwrap.result.0.now) p;
    }

pub returns : goal.returns
unfolding group_read
returns g c =
    let o : ℕ → Outcome = outcomes (g.C.LineCode.line c.args.code.now) c.args.number (g.T.Playable.tracks c.args.tape.now) in
    let f = found-is c.args.register.tap c.args.register.bits o c.read_tracks.new.sheet.rows c.read_tracks.new.rows c.read_tracks.ensures in
    let s = sheet-is o c.read_tracks.new.sheet.rows c.read_tracks.new.rows c.read_tracks.ensures in
    record {
      answer = c.judge_group.ensures.answer ∙ ap₂ answer_of s f;
      bytes = c.judge_group.ensures.bytes ∙ ap (λ z. group_after z c.args.group.now) f;
      findings = s;
    }
