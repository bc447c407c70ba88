use Rattle.std.proofs.Common.{length}
use Rattle.reed_solomon.proofs.filling.+solve.Given as goal

abbrev pub decreases-solve : goal.decreases-solve
decreases-solve l = length l.weights.now
