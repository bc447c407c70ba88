-- The rows on the bench are those of the group's tracks.
use Rattle.std.proofs.Common.{◌≡◌, ℕ, ◌+◌, ◌*◌, ◌/◌, ◌%◌, ◌<◌, ◌≤◌, cond, eqb, ltb, ◌⊎◌, List, length, get_or, drop, sym, ap, ◌∙◌, ap₂, inl, inr, arith, length-drop, length-take}
use lib.Bits.{bit_xor}
use Rattle.std.proofs.lemmas.List.{get_or-take, get_or-drop}
use Rattle.std.proofs.lemmas.Bool.{cond-true, cond-false, lt-ltb, le-ltb, cases_lt}
use Rattle.reed_solomon.specs.Interleaves.{interleaved}
use Rattle.layout.specs.Counts.{listed}
use Rattle.layout.specs.Words.{frame_byte}
use Rattle.layout.specs.Reading.{filling, byte_at}
use Rattle.layout.specs.Group.{part}
use Rattle.layout.specs.Writing.{c3_checks, data_at, c3_at, byte_of}
use Rattle.layout.proofs.Counts.{listed_same}
use Rattle.writing.specs.Rows.{pad_at, data_index, plain_at, c3_filled, HasRows}
use Rattle.layout.proofs.Outputs.{randomized-at}

module _ (tap start : ℕ) (group pad zs ys : List ℕ) (size : length group ≡ 126632) (pads : (d : ℕ) → d < 5756 → get_or pad d 0 ≡ pad_at tap start d)
    (spread : (p : ℕ) → p < 133952 → get_or zs p 0 ≡ plain_at group pad (p / 2912) (p % 2912)) (checked : (p : ℕ) → p < 133952 → get_or ys p 0 ≡ c3_filled zs p) where
  -- a data byte, randomized
  data-at : (k q : ℕ) → k < 44 → 2 ≤ q → q < 2880 → bit_xor (get_or group (5756 * (k / 2) + data_index k q) 0) (get_or pad (data_index k q) 0) ≡ data_at tap start group k q
  unfolding data_at pad_at
  data-at k q hk h2 hq =
      let d : ℕ = data_index k q in
      let f : ℕ = k / 2 in
      let hd : d < 5756 = omega arith in
      let l : length (part group f) ≡ 5756 = simp (length-take, length-drop) (omega arith) in
      let g : get_or (part group f) d 0 ≡ get_or group (5756 * f + d) 0 = get_or-take 5756 (drop (5756 * f) group) d 0 hd ∙ get_or-drop (5756 * f) group d 0 in
      ap₂ bit_xor (sym g) (pads d hd) ∙ sym (randomized-at tap start (part group f) d (omega arith))

  -- what stands at number q of row k, before C3
  before : (k q : ℕ) → k < 46 → q < 2912 → get_or zs (2912 * k + q) 0 ≡ plain_at group pad k q
  before k q hk hq =
      let p : ℕ = 2912 * k + q in
      let d : p / 2912 ≡ k = omega arith in
      let m : p % 2912 ≡ q = omega arith in
      spread p (omega arith) ∙ ap₂ (plain_at group pad) d m

  unchecked : (k q : ℕ) → k < 46 → 2 ≤ q → q < 2880 → get_or zs (q + 2912 * k) 0 ≡ cond (ltb k 44) (data_at tap start group k q) 0
  unchecked k q hk h2 hq =
      let e : q + 2912 * k ≡ 2912 * k + q = omega arith in
      let v : ℕ = bit_xor (get_or group (5756 * (k / 2) + data_index k q) 0) (get_or pad (data_index k q) 0) in
      ap (λ p. get_or zs p 0) e ∙ before k q hk (omega arith)
      ∙ cond-false (ltb q 2) (cond (eqb q 1) (frame_byte (k / 2 + 1)) 0) (cond (ltb q 2880) (cond (ltb k 44) v 0) 0) (le-ltb q 2 h2)
      ∙ cond-true (ltb q 2880) (cond (ltb k 44) v 0) 0 (lt-ltb q 2880 hq) ∙ go (cases_lt k 44)
    where
      go : (k < 44) ⊎ (44 ≤ k) → cond (ltb k 44) (bit_xor (get_or group (5756 * (k / 2) + data_index k q) 0) (get_or pad (data_index k q) 0)) 0 ≡ cond (ltb k 44) (data_at tap start group k q) 0
      go (inl h) = ap (λ v. cond (ltb k 44) v 0) (data-at k q h h2 hq)
      go (inr h) = cond-false (ltb k 44) _ 0 (le-ltb k 44 h) ∙ sym (cond-false (ltb k 44) (data_at tap start group k q) 0 (le-ltb k 44 h))

  word : (q : ℕ) → 2 ≤ q → q < 2880 → interleaved zs q 2912 46 ≡ listed (λ k. cond (ltb k 44) (data_at tap start group k q) 0) 46
  unfolding interleaved listed
  word q h2 hq = listed_same (λ k. get_or zs (q + 2912 * k) 0) (λ k. cond (ltb k 44) (data_at tap start group k q) 0) 46 (λ k hk. unchecked k q hk h2 hq)

  after : (k q : ℕ) → k < 46 → q < 2912
      → get_or ys (2912 * k + q) 0 ≡ cond (ltb ((q + 2910) % 2912) 2878) (byte_at k (filling 2 c3_checks (interleaved zs q 2912 46))) (plain_at group pad k q)
  unfolding c3_filled
  after k q hk hq =
      let p : ℕ = 2912 * k + q in
      let d : p / 2912 ≡ k = omega arith in
      let m : p % 2912 ≡ q = omega arith in
      checked p (omega arith)
      ∙ ap₂ (λ a b. cond (ltb ((b + 2910) % 2912) 2878) (byte_at a (filling 2 c3_checks (interleaved zs b 2912 46))) (get_or zs p 0)) d m
      ∙ ap (λ v. cond (ltb ((q + 2910) % 2912) 2878) (byte_at k (filling 2 c3_checks (interleaved zs q 2912 46))) v) (before k q hk hq)

  pub rows_made : HasRows tap start group ys
  unfolding byte_of c3_at
  rows_made k q hk hq = after k q hk hq ∙ go (cases_lt q 2) (cases_lt q 2880)
    where
      go : (q < 2) ⊎ (2 ≤ q) → (q < 2880) ⊎ (2880 ≤ q) → cond (ltb ((q + 2910) % 2912) 2878) (byte_at k (filling 2 c3_checks (interleaved zs q 2912 46))) (plain_at group pad k q) ≡ byte_of tap start group k q
      go (inl h) g =
          cond-false (ltb ((q + 2910) % 2912) 2878) _ (plain_at group pad k q) (le-ltb ((q + 2910) % 2912) 2878 (omega arith))
          ∙ cond-true (ltb q 2) (cond (eqb q 1) (frame_byte (k / 2 + 1)) 0) _ (lt-ltb q 2 h) ∙ sym (cond-true (ltb q 2) (cond (eqb q 1) (frame_byte (k / 2 + 1)) 0) _ (lt-ltb q 2 h))
      go (inr h) (inl g) =
          cond-true (ltb ((q + 2910) % 2912) 2878) _ (plain_at group pad k q) (lt-ltb ((q + 2910) % 2912) 2878 (omega arith))
          ∙ ap (λ w. byte_at k (filling 2 c3_checks w)) (word q h g)
          ∙ sym (cond-false (ltb q 2) (cond (eqb q 1) (frame_byte (k / 2 + 1)) 0) (cond (ltb q 2880) (c3_at tap start group k q) 0) (le-ltb q 2 h) ∙ cond-true (ltb q 2880) (c3_at tap start group k q) 0 (lt-ltb q 2880 g))
      go (inr h) (inr g) =
          cond-false (ltb ((q + 2910) % 2912) 2878) _ (plain_at group pad k q) (le-ltb ((q + 2910) % 2912) 2878 (omega arith))
          ∙ cond-false (ltb q 2) (cond (eqb q 1) (frame_byte (k / 2 + 1)) 0) _ (le-ltb q 2 h) ∙ cond-false (ltb q 2880) _ 0 (le-ltb q 2880 g)
          ∙ sym (cond-false (ltb q 2) (cond (eqb q 1) (frame_byte (k / 2 + 1)) 0) (cond (ltb q 2880) (c3_at tap start group k q) 0) (le-ltb q 2 h) ∙ cond-false (ltb q 2880) (c3_at tap start group k q) 0 (le-ltb q 2880 g))
