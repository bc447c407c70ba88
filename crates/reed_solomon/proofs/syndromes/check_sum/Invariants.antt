use Rattle.std.proofs.Common.{◌≡◌, ◌-◌, ◌*◌, length, get_or}
use Rattle.galois.specs.Galois.{gmul, alpha}
use Rattle.reed_solomon.specs.Words.{sum_to}
use Rattle.reed_solomon.proofs.syndromes.check_sum.Given as goal

abbrev pub invariant-loop-j : goal.invariant-loop-j
invariant-loop-j l = l.sum ≡ sum_to (λ j. gmul (get_or l.word j 0) (alpha (l.e * (length l.word - 1 - j)))) l.j
