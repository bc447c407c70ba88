use Rattle.std.proofs.Common.{ℕ, ◌/◌, ◌%◌, ◌<◌, [], ◌∷◌, get_or, refl, arith, lit<, lit≤, rules}
use Rattle.layout.specs.Counts.{which}
use Rattle.layout.specs.Writing.{c2_checks}
use Rattle.writing.specs.Arrays.{c2_filled}
use Rattle.writing.proofs.Passes.{c2-split, c2-places, one_more}
use Rattle.writing.proofs.array.put_c2.Goals as goal

pub fill_interleaved-requires : goal.fill_interleaved-requires
unfolding c2_checks which
fill_interleaved-requires c =
    record {
      reaches = λ j h. omega arith;
      stride_nonzero = lit< tt;
      length_bound = lit< tt;
      places = c2-places;
      lost_len_bound = lit≤ tt;
    }

pub loop-c-preserved : goal.loop-c-preserved
unfolding c2_filled c2_checks which
loop-c-preserved c =
    let b : (i : ℕ) → get_or c.loop-c.bytes i 0 < 256 = λ i. search rules in
    one_more 6 (18 ∷ 17 ∷ 16 ∷ 15 ∷ 14 ∷ 13 ∷ []) 4096 128 128 32 (λ p. p % 128) (λ p. p / 128) (λ p. p % 128) (λ w. w) c2-split (lit≤ tt) c2-places refl
    c.args.array.now c.loop-c.bytes c.fill_interleaved.new.memory c.loop-c.c c.loop-c-test.true (λ j h. omega arith) b c.loop-c.invariant
    c.fill_interleaved.result c.fill_interleaved.ensures.ok c.fill_interleaved.ensures.err
