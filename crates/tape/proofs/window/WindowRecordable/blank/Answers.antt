use Rattle.std.proofs.Common.{◌+◌, ◌<◌, length, None, ap, ◌∙◌, arith}
use Rattle.tape.specs.Tape.{blanking}
use Rattle.tape.specs.Windows.{window_tracks}
use Rattle.tape.proofs.Windowing.{blanking-in, changed-in}
use Rattle.tape.proofs.window.WindowRecordable.blank.Goals as goal

pub returns-clause-tape : goal.returns-clause-tape
returns-clause-tape g c =
    let s = c.args.self.now in
    let k = c.args.track in
    let ts = g.T.Playable.tracks s.below in
    let h : k < length (window_tracks s.first s.count ts) = omega (arith, c.length.ensures.answer, c.in_ok-within.ensures.within) in
    ap (window_tracks s.first s.count) c.blank.ensures.tape
    ∙ (changed-in s.first s.count k ts h (blanking (length ts) (s.first + k)) None ∙ rw (blanking-in s.first s.count k ts h))
