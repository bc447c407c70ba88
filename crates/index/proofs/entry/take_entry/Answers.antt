use Rattle.std.proofs.Common.{ℕ, ◌+◌, ◌-◌, ◌≤◌, length, refl, arith, rules}
use Rattle.index.proofs.Reading.{number-three}
use Rattle.index.proofs.entry.take_entry.Goals as goal

pub returns : goal.returns
returns c =
    let n : ℕ = length c.args.index.now in
    let h : 4 ≤ n = search rules in
    record {
      long = h;
      flag = refl;
      count = omega (arith, c.from_be_bytes-count.ensures, number-three c.args.index.now (n - 4 + 1) (n - 3) (n - 2) (n - 1) (omega arith) (omega arith) (omega arith));
      rest = refl;
    }
