use Rattle.std.proofs.Common.{◌+◌, ◌*◌, length, get_or, arith}
use Rattle.std.proofs.lemmas.List.FromFn.{fill_by_all}
use Rattle.reed_solomon.specs.Interleaves.{interleaved}
use Rattle.reed_solomon.proofs.interleaved.Interleaving.gather.Goals as goal

pub returns : goal.returns
unfolding interleaved
returns c =
    fill_by_all (λ j. get_or c.args.memory.now (c.args.self.start + c.args.self.stride * j) 0) c.loop-j.word (length c.args.word.now) 0
    c.loop-j.auto.word (λ k h. c.loop-j.invariant k (omega arith))
