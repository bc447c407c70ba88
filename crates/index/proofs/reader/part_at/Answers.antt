use Rattle.std.proofs.Common.{take, drop, sym, ap, ◌∙◌, arith, length-drop}
use native.Mathlib.Nat.{sub-zero}
use Rattle.std.proofs.lemmas.List.{take_rest, take_all, drop_all}
use Rattle.index.proofs.Reading.{take_none}
use Rattle.index.proofs.reader.part_at.Goals as goal

pub returns-then-place-group : goal.returns-then-place-group
returns-then-place-group c =
    sym (ap (take c.args.count) (drop_all c.args.place c.args.group.now (omega arith)) ∙ take_none c.args.count)

pub returns-then-count-rest : goal.returns-then-count-rest
returns-then-count-rest c = simp (sub-zero, take_rest)

pub returns-else-count-rest : goal.returns-else-count-rest
returns-else-count-rest c =
    take_rest c.args.group.now c.args.place
    ∙ sym (take_all c.args.count (drop c.args.place c.args.group.now) (omega (arith, length-drop c.args.place c.args.group.now)))
