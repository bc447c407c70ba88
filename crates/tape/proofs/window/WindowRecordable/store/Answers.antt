use Rattle.std.proofs.Common.{◌+◌, ◌<◌, length, Some, ap, ◌∙◌, arith}
use Rattle.tape.specs.Tape.{storing}
use Rattle.tape.specs.Windows.{window_tracks}
use Rattle.tape.proofs.Windowing.{storing-in, changed-in}
use Rattle.tape.proofs.window.WindowRecordable.store.Goals as goal

pub returns-clause-tape : goal.returns-clause-tape
returns-clause-tape g c =
    let s = c.args.self.now in
    let k = c.args.track in
    let b = c.args.buffer.now in
    let ts = g.T.Playable.tracks s.below in
    let h : k < length (window_tracks s.first s.count ts) = omega (arith, c.length.ensures.answer, c.in_ok-reach.ensures.within.1) in
    ap (window_tracks s.first s.count) c.store.ensures.tape
    ∙ (changed-in s.first s.count k ts h (storing (length ts) (s.first + k) b) (Some b) ∙ rw (storing-in s.first s.count k ts h b))
