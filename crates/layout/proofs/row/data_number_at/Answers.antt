use Rattle.std.proofs.Common.{◌/◌, ◌%◌}
use Rattle.layout.specs.Placing.{is_data, is_occupied}
use Rattle.layout.proofs.Data.{data-found, data-low, data-high, data-none}
use Rattle.layout.proofs.row.data_number_at.Goals as goal

pub returns-in-Some : goal.returns-in-Some
unfolding is_data
returns-in-Some c = data-found (is_occupied (c.args.p / 32) (c.args.p % 32)) c.in-Some.q _ c.in-Some.ensures c.if-q-ge-DATA_START.true c.if-q-lt-DATA_END.true

pub returns-in_default : goal.returns-in_default
unfolding is_data
returns-in_default c = data-high (is_occupied (c.args.p / 32) (c.args.p % 32)) c.in-Some.q _ c.in-Some.ensures c.if-q-lt-DATA_END.false

pub returns-in_default-2 : goal.returns-in_default-2
unfolding is_data
returns-in_default-2 c = data-low (is_occupied (c.args.p / 32) (c.args.p % 32)) c.in-Some.q _ c.in-Some.ensures c.if-q-ge-DATA_START.false

pub returns-in_default-3 : goal.returns-in_default-3
unfolding is_data
returns-in_default-3 c = data-none (is_occupied (c.args.p / 32) (c.args.p % 32)) _ c.in_default.ensures
