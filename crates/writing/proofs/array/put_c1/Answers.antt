use Rattle.std.proofs.Common.{ℕ, ◌+◌, ◌*◌, ◌/◌, ◌%◌, ◌<◌, [], ◌∷◌, get_or, refl, arith, lit<, lit≤, rules}
use Rattle.layout.specs.Counts.{which}
use Rattle.layout.specs.Writing.{c1_checks}
use Rattle.writing.specs.Arrays.{c1_filled}
use Rattle.writing.proofs.Passes.{c1-split, c1-places, one_more}
use Rattle.writing.proofs.array.put_c1.Goals as goal

pub fill_interleaved-requires : goal.fill_interleaved-requires
unfolding c1_checks which
fill_interleaved-requires c =
    record {
      reaches = λ j h. omega arith;
      stride_nonzero = lit< tt;
      length_bound = lit< tt;
      places = c1-places;
      lost_len_bound = lit≤ tt;
    }

pub loop-w-preserved : goal.loop-w-preserved
unfolding c1_filled c1_checks which
loop-w-preserved c =
    let b : (i : ℕ) → get_or c.loop-w.bytes i 0 < 256 = λ i. search rules in
    one_more 4 (31 ∷ 30 ∷ 29 ∷ 28 ∷ []) 4096 128 2 32 (λ p. 2 * (p / 64) + p % 2) (λ p. p % 64 / 2) (λ p. 64 * (p / 64) + p % 2) (λ w. 64 * (w / 2) + w % 2) c1-split (lit≤ tt) c1-places refl
    c.args.array.now c.loop-w.bytes c.fill_interleaved.new.memory c.loop-w.w c.loop-w-test.true (λ j h. omega arith) b c.loop-w.invariant
    c.fill_interleaved.result c.fill_interleaved.ensures.ok c.fill_interleaved.ensures.err
