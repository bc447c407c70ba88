use Rattle.std.proofs.Common.{◌≡◌, ◌-◌, ◌≤◌, ◌&&◌, eqb}
use Rattle.layout.specs.Counts.{count}
use Rattle.layout.specs.Group.{first_from}
use Rattle.reading.specs.Groups.{gone_in, third_in}
use Rattle.reading.proofs.c3.third_lost.Given as goal

abbrev pub invariant-loop-t : goal.invariant-loop-t
invariant-loop-t l =
    record {
      counted : l.count ≡ count (gone_in l.sheet.rows) l.t;
      few : l.count ≤ l.t;
      left : third_in l.sheet.rows ≡ first_from (λ k. gone_in l.sheet.rows k && eqb (count (gone_in l.sheet.rows) k) 2) l.t (46 - l.t);
    }
