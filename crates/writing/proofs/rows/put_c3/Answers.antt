use Rattle.std.proofs.Common.{◌≡◌, ℕ, ◌+◌, ◌/◌, ◌%◌, ◌<◌, get_or, OnOk, OnErr, refl, subst, arith, lit<, lit≤, rules}
use Rattle.reed_solomon.specs.Interleaves.{Refilled, Unfilled}
use Rattle.layout.specs.Counts.{which}
use Rattle.layout.specs.Writing.{c3_checks}
use Rattle.writing.specs.Rows.{c3_filled}
use Rattle.writing.proofs.Passes.{c3-split, c3-places, Passed, passed_none, one_more}
use Rattle.writing.proofs.rows.put_c3.Goals as goal

pub fill_interleaved-requires : goal.fill_interleaved-requires
unfolding c3_checks which
fill_interleaved-requires c =
    record {
      reaches = λ j h. omega arith;
      stride_nonzero = lit< tt;
      length_bound = lit< tt;
      places = c3-places;
      lost_len_bound = lit≤ tt;
    }

pub loop-w-init : goal.loop-w-init
loop-w-init c = passed_none 2 c3_checks 133952 2912 46 (λ p. (p % 2912 + 2910) % 2912) (λ p. p / 2912) (λ p. p % 2912) c.args.rows.now

pub loop-w-preserved : goal.loop-w-preserved
unfolding c3_checks which
loop-w-preserved c =
    let b : (i : ℕ) → get_or c.loop-w.bytes i 0 < 256 = λ i. search rules in
    let w = c.loop-w.w in
    let e : w + 2 ≡ (w + 2) % 2912 = omega arith in
    let l : w < 2912 = omega arith in
    one_more 2 c3_checks 133952 2912 2912 46 (λ p. (p % 2912 + 2910) % 2912) (λ p. p / 2912) (λ p. p % 2912) (λ w. (w + 2) % 2912) c3-split (lit≤ tt) c3-places refl
    c.args.rows.now c.loop-w.bytes c.fill_interleaved.new.memory w l (λ j h. omega arith) b c.loop-w.invariant
    c.fill_interleaved.result
    (subst (λ s. OnOk c.fill_interleaved.result (Refilled 2 c3_checks c.loop-w.bytes c.fill_interleaved.new.memory s 2912 46)) e c.fill_interleaved.ensures.ok)
    (subst (λ s. OnErr c.fill_interleaved.result (Unfilled 2 c3_checks c.loop-w.bytes c.fill_interleaved.new.memory s 2912 46)) e c.fill_interleaved.ensures.err)

pub returns : goal.returns
unfolding c3_filled
returns c =
    let e : c.loop-w.w ≡ 2878 = omega arith in
    subst (λ w. Passed 2 c3_checks 133952 2912 46 (λ p. (p % 2912 + 2910) % 2912) (λ p. p / 2912) (λ p. p % 2912) c.args.rows.now c.loop-w.bytes w) e c.loop-w.invariant
