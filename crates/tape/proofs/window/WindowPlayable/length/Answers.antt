use Rattle.std.proofs.Common.{rules, arith}
use Rattle.tape.proofs.Windowing.{window-length, window-sound}
use Rattle.tape.proofs.window.WindowPlayable.length.Goals as goal

pub returns : goal.returns
returns g c =
    let s = c.args.self.now in
    record {
      answer = simp window-length (search rules);
      sound = window-sound s.first s.count (g.T.Playable.tracks s.below) c.length.ensures.sound;
      place = λ k h. omega arith;
    }
