use Rattle.std.proofs.Common.{◌≡◌, length, replicate, rules, Ok}
use Rattle.writing.specs.Groups.{lent}
use Rattle.writing.proofs.group.write_group.Goals as goal

pub returns-clause-bench : goal.returns-clause-bench
returns-clause-bench g c =
    let e : c.fill.new.self ≡ replicate (length c.args.bench.now) 0 = search rules in
    let l : lent (length c.args.buffer.now) c.args.settings.tap c.args.settings.start (length c.args.group.now) (length c.args.bench.now) ≡ Ok tt = search rules in
    rw l e
