use Rattle.reading.specs.Groups.{Spread}
use Rattle.reading.proofs.randomizer.put_bytes.Given as goal

abbrev pub invariant-loop-f : goal.invariant-loop-f
invariant-loop-f l = Spread l.rows l.initial.group l.group l.d l.mask l.f
