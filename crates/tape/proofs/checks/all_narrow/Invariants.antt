use Rattle.std.proofs.Common.{◌≡◌, true, ltb, take}
use Rattle.std.specs.List.{list_all}
use Rattle.tape.proofs.checks.all_narrow.Given as goal

abbrev pub invariant-loop-word : goal.invariant-loop-word
invariant-loop-word l = list_all (λ w. ltb w 1024) (take l.word-index l.words) ≡ true
