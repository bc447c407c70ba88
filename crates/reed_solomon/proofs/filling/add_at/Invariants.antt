use Rattle.std.proofs.Common.{◌≡◌, length, drop}
use Rattle.reed_solomon.specs.Steps.{patch}
use Rattle.reed_solomon.proofs.filling.add_at.Given as goal

abbrev pub invariant-loop-p : goal.invariant-loop-p
invariant-loop-p l = patch l.word (drop (length l.yielded) l.places) (drop (length l.yielded) l.values) ≡ patch l.initial.word l.places l.values
