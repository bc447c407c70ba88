use Rattle.reading.specs.Groups.{Columns}
use Rattle.reading.proofs.c3.fill_words.Given as goal

abbrev pub invariant-loop-p : goal.invariant-loop-p
invariant-loop-p l = Columns l.lost l.initial.rows l.rows l.p
