use Rattle.std.proofs.Common.{ℕ, ◌+◌, ◌-◌, ◌++◌, length, sym, ap, ◌∙◌, arith}
use Rattle.layout.specs.Counts.{which}
use Rattle.reading.proofs.Downwards.{passed, failed, over}
use Rattle.reading.proofs.passing.passing.Goals as goal
use Rattle.reading.proofs.passing.passing.Goals.{then-test, else-test}

pub loop-i-preserved : goal.loop-i-preserved
loop-i-preserved g c =
    let n : ℕ = g.row.N in
    let i = c.loop-i.i in
    elim c.if-test.branch [
      | then-test w ↦ record {
        few = omega (arith, ap (λ v. length v.items) w.found-is, w.push.ensures.len, c.loop-i.invariant.few);
        listed = λ p h.
            ap (λ v. v.items ++ which p (n - (i + 1))) w.found-is ∙ ap (λ z. z ++ which p (n - (i + 1))) w.push.ensures.items
            ∙ passed p n i c.loop-i.found.items (which p n) c.loop-i-test.true (sym (h (n - 1 - i) c.test.result (omega arith) c.test.ensures) ∙ w.if-test.true) (c.loop-i.invariant.listed p h);
      }
      | else-test w ↦ record {
        few = omega (arith, ap (λ v. length v.items) w.found-is, c.loop-i.invariant.few);
        listed = λ p h.
            ap (λ v. v.items ++ which p (n - (i + 1))) w.found-is
            ∙ failed p n i c.loop-i.found.items (which p n) c.loop-i-test.true (sym (h (n - 1 - i) c.test.result (omega arith) c.test.ensures) ∙ w.if-test.false) (c.loop-i.invariant.listed p h);
      }
    ]

pub returns : goal.returns
returns g c = λ p h. over p g.row.N c.loop-i.i c.loop-i.found.items (which p g.row.N) (omega arith) (c.loop-i.invariant.listed p h)
