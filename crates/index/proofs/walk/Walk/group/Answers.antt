use Rattle.std.proofs.Common.{◌≡◌, ℕ, ◌+◌, Ok, Result, sym, arith, rules}
use Rattle.index.specs.declared.fault.GroupFault.{GroupFault}
use Rattle.index.specs.declared.succession.State.{State}
use Rattle.index.specs.declared.tally.Counts.{Counts}
use Rattle.index.specs.declared.walk.Ending.{Ending}
use Rattle.index.specs.declared.walk.Ending.TheVariants.{GoesOn, Last}
use Rattle.index.specs.Answers.{standing, answered, standing_after}
use Rattle.index.proofs.Grouping.{group-within}
use Rattle.index.proofs.Giving.{group-number, number-below, gave}
use Rattle.index.proofs.walk.Walk.group.Goals as goal

pub invariant_of-self : goal.invariant_of-self
invariant_of-self c =
    let w = c.args.self.now in
    let g = c.unwrap-group.result.now in
    let e = sym c.in_ok-tally.ensures in
    let l = group-within w.number w.state w.counts g c.in_ok-tally.tally (omega arith) e in
    let n = group-number w.number w.state w.counts g c.in_ok-tally.tally e in
    let b = number-below g 126600 (λ k. search rules) in
    record {
      counted = omega (arith, n, b);
      sum = omega (arith, l.sum, w.sum);
      items = omega (arith, l.items, w.items);
      ones = omega (arith, l.ones, w.ones);
      twos = omega (arith, l.twos, w.twos);
    }

pub returns-in_err-tally : goal.returns-in_err-tally
returns-in_err-tally c =
    let w = c.args.self.now in
    let g = c.args.group.now in
    let a : c.from_residual.result ≡ answered w g = search rules in
    let s : standing w ≡ standing_after w g = search rules in
    record { answer = a; after = s; walked = gave w g c.from_residual.result (standing w) a s }

pub returns-then-last-eq1 : goal.returns-then-last-eq1
returns-then-last-eq1 c =
    let w = c.args.self.now in
    let g = c.args.group.now in
    let t = c.in_ok-tally.tally in
    let a : ◌≡◌ {A = Result Ending GroupFault} (Ok Last) (answered w g) = search rules in
    let s : ◌≡◌ {A = ℕ × State × Counts} (w.number + 1, t.state, t.counts) (standing_after w g) = search rules in
    record { answer = a; after = s; walked = gave w g (Ok Last) (w.number + 1, t.state, t.counts) a s }

pub returns-else-last-eq1 : goal.returns-else-last-eq1
returns-else-last-eq1 c =
    let w = c.args.self.now in
    let g = c.args.group.now in
    let t = c.in_ok-tally.tally in
    let a : ◌≡◌ {A = Result Ending GroupFault} (Ok GoesOn) (answered w g) = search rules in
    let s : ◌≡◌ {A = ℕ × State × Counts} (w.number + 1, t.state, t.counts) (standing_after w g) = search rules in
    record { answer = a; after = s; walked = gave w g (Ok GoesOn) (w.number + 1, t.state, t.counts) a s }
