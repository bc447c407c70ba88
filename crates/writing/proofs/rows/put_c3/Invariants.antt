use Rattle.std.proofs.Common.{◌+◌, ◌/◌, ◌%◌}
use Rattle.layout.specs.Writing.{c3_checks}
use Rattle.writing.proofs.Passes.{Passed}
use Rattle.writing.proofs.rows.put_c3.Given as goal

abbrev pub invariant-loop-w : goal.invariant-loop-w
invariant-loop-w l = Passed 2 c3_checks 133952 2912 46 (λ p. (p % 2912 + 2910) % 2912) (λ p. p / 2912) (λ p. p % 2912) l.initial.bytes l.bytes l.w
