use Rattle.std.proofs.Common.{Err, Result, sym, ap, ◌∙◌, subst, arith}
use Rattle.std.proofs.lemmas.Result.{err_from_is_err_and}
use Rattle.index.specs.declared.fault.IndexFault.{IndexFault}
use Rattle.index.specs.declared.table.Table.{Table}
use Rattle.index.specs.declared.tally.Tally.{Tally}
use Rattle.index.specs.Walk.{next}
use Rattle.index.specs.Cursors.{Cursor, Sound, cursor_of}
use Rattle.index.specs.Counted.{Starts, opened, table_in, totals_checked}
use Rattle.index.proofs.Coming.{started-sound}
use Rattle.index.proofs.Grouping.{table-few, table-fault, table-right, entries-walked}
use Rattle.index.proofs.walk.groups.walk_group.Goals as goal

pub returns-in_err-check : goal.returns-in_err-check
returns-in_err-check c =
    let p = err_from_is_err_and c.from_residual.result c.from_residual.ensures.1 in
    p.1 ∙ (ap Err p.2
    ∙ table-fault c.args.number c.args.state c.args.counts c.args.group.now c.read-table.result _ c.read-table.ensures c.in_err-check.ensures)

pub overflow_sub-limit : goal.overflow_sub-limit
overflow_sub-limit c = omega (arith, table-few c.args.number c.read-table.result tt (sym c.in_ok-check.ensures))

pub walk_entries-requires : goal.walk_entries-requires
walk_entries-requires c =
    let f = table-few c.args.number c.read-table.result tt (sym c.in_ok-check.ensures) in
    let e = c.over-reader.ensures in
    record {
      sound = subst Sound (sym e) (started-sound c.read-table.result.entries c.args.group.now (omega arith) f);
      starts = subst (λ (x : Cursor). Starts (opened c.args.state c.args.counts) x.place) (sym e) c.requires;
    }

pub returns-in_err-tally : goal.returns-in_err-tally
returns-in_err-tally c =
    let p = err_from_is_err_and c.from_residual-in_err-tally.result c.from_residual-in_err-tally.ensures.1 in
    let g = c.args.group.now in
    let t = c.read-table.result in
    let e = entries-walked c.args.number c.args.state c.args.counts g t (cursor_of c.over-reader.result) _ (omega arith) c.read-table.ensures c.over-reader.ensures c.in_err-tally.ensures in
    p.1 ∙ (ap Err p.2
    ∙ (ap (λ (x : Result Tally IndexFault). next x (λ u. totals_checked (table_in g) u)) e
    ∙ table-right c.args.number c.args.state c.args.counts g t tt c.read-table.ensures c.in_ok-check.ensures))

pub returns : goal.returns
returns c =
    let g = c.args.group.now in
    let t = c.read-table.result in
    let e = entries-walked c.args.number c.args.state c.args.counts g t (cursor_of c.over-reader.result) _ (omega arith) c.read-table.ensures c.over-reader.ensures c.in_ok-tally.ensures in
    c.settle.ensures
    ∙ (ap (λ (x : Table). totals_checked x c.in_ok-tally.tally) c.read-table.ensures
    ∙ (ap (λ (x : Result Tally IndexFault). next x (λ u. totals_checked (table_in g) u)) e
    ∙ table-right c.args.number c.args.state c.args.counts g t tt c.read-table.ensures c.in_ok-check.ensures))
