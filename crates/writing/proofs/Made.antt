-- The array that the passes make is the array of the row.
use Rattle.std.proofs.Common.{◌≡◌, ℕ, ◌+◌, ◌*◌, ◌/◌, ◌%◌, ◌<◌, List, get_or, ap, ◌∙◌, ap₂, arith}
use Rattle.reed_solomon.specs.Interleaves.{interleaved}
use Rattle.layout.specs.Counts.{listed}
use Rattle.layout.specs.Words.{Array, c1, c2, c1_block, c1_serial}
use Rattle.layout.specs.Reading.{filling, byte_at}
use Rattle.layout.specs.Writing.{c1_checks, c2_checks, laid, with_c2, with_c1, array_of}
use Rattle.layout.proofs.Counts.{listed_same}
use Rattle.writing.specs.Arrays.{array_in, c2_filled, c1_filled}

-- the words of an array in memory
module _ (xs : List ℕ) (x : Array) (same : (b s : ℕ) → b < 128 → s < 32 → array_in xs b s ≡ x b s) where
  pub c2-of : (m n : ℕ) → m < 4 → n < 32 → interleaved xs (32 * m + n) 128 32 ≡ c2 x m n
  unfolding interleaved c2 listed
  c2-of m n hm hn =
      listed_same (λ j. get_or xs (32 * m + n + 128 * j) 0) (λ j. x (m + 4 * j) n) 32
      (λ j h. let e : 32 * m + n + 128 * j ≡ 32 * (m + 4 * j) + n = omega arith in ap (λ p. get_or xs p 0) e ∙ same (m + 4 * j) n (omega arith) hn)

  pub c1-of : (h l : ℕ) → h < 64 → l < 2 → interleaved xs (64 * h + l) 2 32 ≡ c1 x h l
  unfolding interleaved c1 listed
  c1-of h l hh hl =
      listed_same (λ j. get_or xs (64 * h + l + 2 * j) 0) (λ j. x (c1_block h j) (c1_serial l j)) 32
      (λ j k.
      let e : 64 * h + l + 2 * j ≡ 32 * (2 * h + j / 16) + (l + 2 * (j % 16)) = omega arith in
      ap (λ p. get_or xs p 0) e ∙ same (2 * h + j / 16) (l + 2 * (j % 16)) (omega arith) (omega arith))

  c2-made : (b s : ℕ) → b < 128 → s < 32 → c2_filled xs (32 * b + s) ≡ with_c2 x b s
  unfolding c2_filled with_c2
  c2-made b s hb hs =
      let p : ℕ = 32 * b + s in
      let q : p / 128 ≡ b / 4 = omega arith in
      let r : p % 128 ≡ 32 * (b % 4) + s = omega arith in
      ap₂ (λ j a. byte_at j (filling 6 c2_checks (interleaved xs a 128 32))) q r ∙ ap (λ w. byte_at (b / 4) (filling 6 c2_checks w)) (c2-of (b % 4) s (omega arith) hs)

  c1-made : (b s : ℕ) → b < 128 → s < 32 → c1_filled xs (32 * b + s) ≡ with_c1 x b s
  unfolding c1_filled with_c1
  c1-made b s hb hs =
      let p : ℕ = 32 * b + s in
      let q : p % 64 / 2 ≡ 16 * (b % 2) + s / 2 = omega arith in
      let r : 64 * (p / 64) + p % 2 ≡ 64 * (b / 2) + s % 2 = omega arith in
      ap₂ (λ j a. byte_at j (filling 4 c1_checks (interleaved xs a 2 32))) q r
      ∙ ap (λ w. byte_at (16 * (b % 2) + s / 2) (filling 4 c1_checks w)) (c1-of (b / 2) (s % 2) (omega arith) (omega arith))

pub array_made : (row zs ys xs : List ℕ) → ((b s : ℕ) → b < 128 → s < 32 → array_in zs b s ≡ laid row b s)
    → ((p : ℕ) → p < 4096 → get_or ys p 0 ≡ c2_filled zs p) → ((p : ℕ) → p < 4096 → get_or xs p 0 ≡ c1_filled ys p)
    → (b s : ℕ) → b < 128 → s < 32 → array_in xs b s ≡ array_of row b s
unfolding array_of
array_made row zs ys xs first hy hx =
    let second : (b s : ℕ) → b < 128 → s < 32 → array_in ys b s ≡ with_c2 (laid row) b s = λ b s hb hs. hy (32 * b + s) (omega arith) ∙ c2-made zs (laid row) first b s hb hs in
    λ b s hb hs. hx (32 * b + s) (omega arith) ∙ c1-made ys (with_c2 (laid row)) second b s hb hs
