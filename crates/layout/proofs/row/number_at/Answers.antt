use Rattle.std.proofs.Common.{◌+◌, ◌-◌, ◌*◌, ◌/◌, ◌%◌, Some, None, sym, ap, ◌∙◌}
use Rattle.std.proofs.lemmas.Bool.{cond-true, cond-false}
use Rattle.layout.specs.Placing.{is_occupied, number_at}
use Rattle.layout.proofs.row.number_at.Goals as goal

pub returns-then-not-is_occupied : goal.returns-then-not-is_occupied
returns-then-not-is_occupied c =
    let b = c.args.p / 32 in
    let s = c.args.p % 32 in
    sym (cond-false (is_occupied b s) (Some (number_at b s)) None (sym c.if-not-is_occupied.ensures))

pub returns : goal.returns
unfolding number_at
returns c =
    let b = c.args.p / 32 in
    let s = c.args.p % 32 in
    ap (λ z. Some (2 * (832 * (b % 2) + 52 * (2 * (s / 4) + s % 2) + z) + (1 - s / 2 % 2))) c.column.ensures.is
    ∙ sym (cond-true (is_occupied b s) (Some (number_at b s)) None (sym c.if-not-is_occupied.ensures))
