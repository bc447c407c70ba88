use Rattle.std.proofs.Common.{◌≡◌, ℕ, ◌+◌, true, List, ap, ◌∙◌}
use Rattle.index.specs.declared.table.Table.{Table}
use Rattle.index.specs.Writing.{replaced, completed, table_of}
use Rattle.index.proofs.Laying.{group-completed, has_room}
use Rattle.index.proofs.writer.complete_group.Goals as goal

pub returns : goal.returns
returns c =
    let g = c.args.group.now in
    let f = c.args.fill in
    let t : Table = record { number = c.args.number; entries = f.entries + 1; counts = c.args.counts; last = c.args.last; zeros = true } in
    let h : c.put_table.new.group ≡ completed g f c.args.warned c.args.number c.args.counts c.args.last =
    c.put_table.ensures ∙ ap (λ (x : List ℕ). replaced x 126600 (table_of t)) c.in_ok-lay_entry.ensures.held in
    record {
      answer = c.in_ok-check_room.ensures;
      held = h;
      laid = λ ps k. h ∙ group-completed g f ps c.args.warned c.args.number c.args.counts c.args.last k (has_room g f 0 c.args.warned c.in_ok-check_room.ensures).2;
    }
