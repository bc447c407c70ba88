use Rattle.std.proofs.Common.{◌≡◌, ◌-◌}
use Rattle.layout.specs.Words.{Array}
use Rattle.layout.specs.Reading.{words_from}
use Rattle.losses.specs.Losses.{no_loss}
use Rattle.reading.specs.Arrays.{erased_in, array_in, Left, words_on}
use Rattle.reading.proofs.c2.correct.Given as goal

abbrev pub invariant-words : goal.invariant-words
invariant-words l = Left (erased_in l.lost.marks) (array_in l.initial.array) l.array l.m 0 (words_from l.m (4 - l.m)) × (l.found ≡ no_loss)

abbrev pub invariant-loop-n : goal.invariant-loop-n
invariant-loop-n l =
    ((x : Array) → Left (erased_in l.lost.marks) x l.initial.array l.m 0 (words_on l.m 0) → Left (erased_in l.lost.marks) x l.array l.m l.n (words_on l.m l.n))
    × (l.found ≡ no_loss)
