use Rattle.std.proofs.Common.{◌≡◌, ℕ, Bool, true, false, cond, ◌&&◌, eqb, sym, refl, ap, ◌∙◌, ap₂, arith}
use Rattle.std.proofs.lemmas.Bool.{eq-eqb, ne_eqb}
use Rattle.layout.specs.Counts.{count}
use Rattle.reading.specs.Groups.{gone_in, third_in}
use Rattle.reading.proofs.Firsts.{first-here, first-later, first-over, count_next}
use Rattle.reading.proofs.c3.third_lost.Goals as goal
use Rattle.reading.proofs.c3.third_lost.Goals.{then-is_lost+else-count, else-is_lost}

pub loop-t-init : goal.loop-t-init
unfolding third_in count
loop-t-init c = record { counted = refl; few = omega arith; left = refl }

pub returns-then-count : goal.returns-then-count
returns-then-count c =
    let f : ℕ → Bool = gone_in c.args.sheet.now.rows in
    let gone : f c.loop-t.t ≡ true = sym c.is_lost.ensures ∙ c.if-is_lost.true in
    let two : eqb (count f c.loop-t.t) 2 ≡ true = eq-eqb _ 2 (sym c.loop-t.invariant.counted ∙ c.if-count.true) in
    sym (c.loop-t.invariant.left ∙ first-here (λ k. f k && eqb (count f k) 2) c.loop-t.t 46 c.loop-t-test.true (ap₂ ◌&&◌ gone two))

pub loop-t-preserved : goal.loop-t-preserved
loop-t-preserved c =
    let f : ℕ → Bool = gone_in c.args.sheet.now.rows in
    let t : ℕ = c.loop-t.t in
    let n : ℕ = c.loop-t.count in
    elim c.if-is_lost.branch [
      | then-is_lost+else-count w ↦
          let gone : f t ≡ true = sym c.is_lost.ensures ∙ w.if-is_lost.true in
          let two : eqb (count f t) 2 ≡ false = ne_eqb _ 2 (λ e. w.if-count.false (c.loop-t.invariant.counted ∙ e)) in
          let one : ◌≡◌ {A = ℕ} (cond (f t) 1 0) 1 = ap (λ b. cond b 1 0) gone in
          record {
            counted = count_next f t c.if-is_lost.count (omega (arith, w.count-is, one, c.loop-t.invariant.counted));
            few = omega (arith, w.count-is, c.loop-t.invariant.few);
            left = c.loop-t.invariant.left ∙ first-later (λ k. f k && eqb (count f k) 2) t 46 c.loop-t-test.true (ap₂ ◌&&◌ gone two);
          }
      | else-is_lost w ↦
          let kept : f t ≡ false = sym c.is_lost.ensures ∙ w.if-is_lost.false in
          let none : ◌≡◌ {A = ℕ} (cond (f t) 1 0) 0 = ap (λ b. cond b 1 0) kept in
          record {
            counted = count_next f t c.if-is_lost.count (omega (arith, w.count-is, none, c.loop-t.invariant.counted));
            few = omega (arith, w.count-is, c.loop-t.invariant.few);
            left = c.loop-t.invariant.left ∙ first-later (λ k. f k && eqb (count f k) 2) t 46 c.loop-t-test.true (ap (λ z. z && eqb (count f t) 2) kept);
          }
    ]

pub returns : goal.returns
returns c =
    let f : ℕ → Bool = gone_in c.args.sheet.now.rows in
    sym (c.loop-t.invariant.left ∙ first-over (λ k. f k && eqb (count f k) 2) c.loop-t.t 46 c.loop-t-test.false)
