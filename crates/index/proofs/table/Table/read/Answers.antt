use Rattle.std.proofs.Common.{◌≡◌, take, drop, ◌∙◌, arith, rules, length-drop, length-take}
use Rattle.std.proofs.lemmas.List.{get_or-take, get_or-drop}
use Rattle.index.specs.Bytes.{empty}
use Rattle.index.proofs.Reading.{empty-is}
use Rattle.index.proofs.table.Table.read.Goals as goal

pub returns : goal.returns
returns c =
    let g = c.args.group.now in
    let z : c.are_zeros.result ≡ empty g 126617 15 =
    empty-is g (take 15 (drop 126617 g)) 126617 15 c.are_zeros.result c.are_zeros.ensures (simp (length-take, length-drop) (omega arith))
    (λ k h. get_or-take 15 (drop 126617 g) k 0 h ∙ get_or-drop 126617 g k 0) in
    search rules
