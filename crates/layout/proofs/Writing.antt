-- Every group has its arrays.
use Rattle.std.proofs.Common.{◌≡◌, ℕ, zero, suc, ◌+◌, ◌-◌, ◌*◌, ◌/◌, ◌%◌, ◌<◌, ◌≤◌, Bool, true, false, cond, not, ◌&&◌, ◌||◌, eqb, ltb, leb, ◌⊎◌, List, [], ◌∷◌, length, get_or, drop, Some, sym, refl, ap, ◌∙◌, subst, ap₂, subst₂, inl, inr, arith, length-drop, length-take}
use lib.Bits.{xor_lt}
use Rattle.std.proofs.lemmas.List.{ext_get_or}
use Rattle.std.proofs.ByRecursion.{All-take, All-drop}
use Rattle.std.proofs.lemmas.Bool.{and_parts, and_from, and_left, and_right, and_cases, or_cases, or_left, or_right, eqb-true, eqb-false, ne_eqb, lt-leb, lt-ltb, le-ltb, ltb-true, leb-false, cond-true, cond-false, cond_both, cases_lt}
use Rattle.reed_solomon.specs.Words.{Checks, Bytes}
use Rattle.reed_solomon.proofs.Distance.{distance, fillable}
use Rattle.reed_solomon.proofs.Patches.{byte-at}
use Rattle.layout.specs.Counts.{which, listed}
use Rattle.layout.specs.Randomizer.{randomized, output, steps}
use Rattle.layout.specs.Placing.{block, serial, block_at, serial_at, number_at, is_occupied, is_c1_check}
use Rattle.layout.specs.Words.{Array, c1_block, c1_serial, c1, c2, wide, row, Checked, frame_byte}
use Rattle.layout.specs.Reading.{filling, byte_at}
use Rattle.layout.specs.Group.{number_d, sign_d, part, c3, Written}
use Rattle.layout.specs.Writing.{c1_checks, c2_checks, c3_checks, laid, with_c2, with_c1, array_of, OneArray, data_at, c3_at, byte_of, arrays, WrittenOnce}
use Rattle.layout.proofs.Counts.{which-not, length-listed, slice_index-listed, listed_same, all_listed}
use Rattle.layout.proofs.Randomizer.{output-lt}
use Rattle.layout.proofs.Placing.{fits, back}
use Rattle.layout.proofs.Filling.{fills}
use Rattle.layout.proofs.Light.{off-listed, which-places, c1-block, c1-serial, occupied-wide}

-- a word whose r places that pass a test are filled
pub record Extended (r : ℕ) (p : ℕ → Bool) (n : ℕ) (f : ℕ → ℕ) : Type 0 where
  pub word : List ℕ
  pub is : filling r (which p n) (listed f n) ≡ Some word
  pub bytes : Bytes word
  pub size : length word ≡ n
  pub checks : Checks r word
  pub same : (k : ℕ) → k < n → p k ≡ false → get_or word k 0 ≡ f k

extend : (r : ℕ) (p : ℕ → Bool) (n : ℕ) (f : ℕ → ℕ) → n ≤ 255 → ((k : ℕ) → k < n → f k < 256) → length (which p n) ≡ r → Extended r p n f
extend r p n f small hf len =
    let hb : Bytes (listed f n) = all_listed (λ z. z < 256) f n hf in
    let l : length (listed f n) ≤ 255 = omega (arith, length-listed f n) in
    let u = fillable (which p n) (listed f n) l hb (which-places f p n) in
    let ch : Checks r u.0 = subst (λ r. Checks r u.0) len u.2.checks in
    record {
      word = u.0;
      is = fills r (which p n) (listed f n) u.0 l hb (which-places f p n) (omega (arith, len)) u.1 u.2.off ch;
      bytes = u.1;
      size = sym u.2.off.size ∙ length-listed f n;
      checks = ch;
      same = λ k h e. sym (u.2.off.same k (omega (arith, length-listed f n)) (which-not p n k e)) ∙ slice_index-listed f n k h;
    }

-- a list by its elements
pub listed-is : (f : ℕ → ℕ) (u : List ℕ) (n : ℕ) → length u ≡ n → ((k : ℕ) → k < n → f k ≡ get_or u k 0) → listed f n ≡ u
listed-is f u n e h =
    ext_get_or 0 (listed f n) u (length-listed f n ∙ sym e) (λ k l. let l' : k < n = subst (λ m. k < m) (length-listed f n) l in slice_index-listed f n k l' ∙ h k l')

-- ---- C2 over an array of bytes

-- ---- kinds of places

below-wide : (b s : ℕ) → s < 32 → is_c1_check b s ≡ false → s < wide (b % 4)
unfolding is_c1_check
below-wide b s hs n =
    cond_both (eqb (b % 4 % 2) 0) 32 24 (λ z. s < z) (λ e. hs)
    (λ e.
    elim (and_cases (eqb (b % 2) 1) (leb 24 s) n) [
      | inl n ↦ absurd (omega (arith, eqb-false (b % 2) 1 n, eqb-false (b % 4 % 2) 0 e))
      | inr n ↦ leb-false 24 s n
    ])

occupied-from : (b s : ℕ) → (ltb b 52 || ltb 75 b) ≡ true → is_c1_check b s ≡ false → is_occupied b s ≡ true
unfolding is_occupied
occupied-from b s o n = and_from (ltb b 52 || ltb 75 b) (not (is_c1_check b s)) o (ap not n)

outer : (m j : ℕ) → m < 4 → (leb 13 j && leb j 18) ≡ false → (ltb (m + 4 * j) 52 || ltb 75 (m + 4 * j)) ≡ true
outer m j h e =
    elim (and_cases (leb 13 j) (leb j 18) e) [
      | inl n ↦ or_left (ltb (m + 4 * j) 52) (ltb 75 (m + 4 * j)) (lt-ltb (m + 4 * j) 52 (omega (arith, leb-false 13 j n)))
      | inr n ↦ or_right (ltb (m + 4 * j) 52) (ltb 75 (m + 4 * j)) (lt-ltb 75 (m + 4 * j) (omega (arith, leb-false j 18 n)))
    ]

like-c1 : (b d s : ℕ) → d % 2 ≡ b % 2 → is_c1_check b s ≡ false → is_c1_check d s ≡ false
unfolding is_c1_check
like-c1 b d s e n = ap (λ z. eqb z 1 && leb 24 s) e ∙ n

-- the first 28 places of a C1 word
front : (h l j : ℕ) → l < 2 → j < 32 → leb 28 j ≡ false → is_c1_check (c1_block h j) (c1_serial l j) ≡ false
unfolding is_c1_check
front h l j hl hj e =
    let k : j < 28 = leb-false 28 j e in
    elim (cases_lt j 16) [
      | inl a ↦ and_left (eqb (c1_block h j % 2) 1) (leb 24 (c1_serial l j)) (ne_eqb (c1_block h j % 2) 1 (λ q. omega (arith, q)))
      | inr a ↦ and_right (eqb (c1_block h j % 2) 1) (leb 24 (c1_serial l j)) (lt-leb 24 (c1_serial l j) (omega arith))
    ]

module _ (x : Array) (bytes : (b s : ℕ) → x b s < 256) where
  c2-extended : (m n : ℕ) → Extended 6 (λ j. leb 13 j && leb j 18) 32 (λ j. x (m + 4 * j) n)
  c2-extended m n = extend 6 (λ j. leb 13 j && leb j 18) 32 (λ j. x (m + 4 * j) n) (omega arith) (λ k h. bytes (m + 4 * k) n) (unfold which in refl)

  c2-at : (b s : ℕ) → with_c2 x b s ≡ get_or (c2-extended (b % 4) s).word (b / 4) 0
  unfolding with_c2 c2 c2_checks
  c2-at b s = ap (byte_at (b / 4)) (c2-extended (b % 4) s).is

  c2-bytes : (b s : ℕ) → with_c2 x b s < 256
  c2-bytes b s = subst (λ z. z < 256) (sym (c2-at b s)) (byte-at (c2-extended (b % 4) s).word (c2-extended (b % 4) s).bytes (b / 4))

  c2-made : (m n : ℕ) → m < 4 → Checks 6 (c2 (with_c2 x) m n)
  unfolding c2
  c2-made m n h =
      subst (Checks 6) (sym (listed-is (λ j. with_c2 x (m + 4 * j) n) (c2-extended m n).word 32 (c2-extended m n).size
      (λ j l.
      let p : (m + 4 * j) % 4 ≡ m = omega arith in
      let q : (m + 4 * j) / 4 ≡ j = omega arith in
      c2-at (m + 4 * j) n ∙ ap₂ (λ m j. get_or (c2-extended m n).word j 0) p q))) (c2-extended m n).checks

  c2-kept : (b s : ℕ) → b < 128 → (b < 52) ⊎ (75 < b) → with_c2 x b s ≡ x b s
  c2-kept b s h o =
      let e : b % 4 + 4 * (b / 4) ≡ b = omega arith in
      c2-at b s ∙ (c2-extended (b % 4) s).same (b / 4) (omega arith) (outside o) ∙ ap (λ b. x b s) e
    where
      outside : (b < 52) ⊎ (75 < b) → (leb 13 (b / 4) && leb (b / 4) 18) ≡ false
      outside (inl l) = and_left (leb 13 (b / 4)) (leb (b / 4) 18) (lt-leb 13 (b / 4) (omega arith))
      outside (inr l) = and_right (leb 13 (b / 4)) (leb (b / 4) 18) (lt-leb (b / 4) 18 (omega arith))

  -- ---- C1

  c1-extended : (h l : ℕ) → Extended 4 (λ j. leb 28 j) 32 (λ j. x (c1_block h j) (c1_serial l j))
  c1-extended h l = extend 4 (λ j. leb 28 j) 32 (λ j. x (c1_block h j) (c1_serial l j)) (omega arith) (λ k m. bytes (c1_block h k) (c1_serial l k)) (unfold which in refl)

  c1-at : (b s : ℕ) → with_c1 x b s ≡ get_or (c1-extended (b / 2) (s % 2)).word (16 * (b % 2) + s / 2) 0
  unfolding with_c1 c1 c1_checks
  c1-at b s = ap (byte_at (16 * (b % 2) + s / 2)) (c1-extended (b / 2) (s % 2)).is

  c1-bytes : (b s : ℕ) → with_c1 x b s < 256
  c1-bytes b s = subst (λ z. z < 256) (sym (c1-at b s)) (byte-at (c1-extended (b / 2) (s % 2)).word (c1-extended (b / 2) (s % 2)).bytes (16 * (b % 2) + s / 2))

  c1-made : (h l : ℕ) → l < 2 → Checks 4 (c1 (with_c1 x) h l)
  unfolding c1
  c1-made h l hl =
      subst (Checks 4) (sym (listed-is (λ j. with_c1 x (c1_block h j) (c1_serial l j)) (c1-extended h l).word 32 (c1-extended h l).size
      (λ j hj.
      let p : c1_block h j / 2 ≡ h = omega arith in
      let q : c1_serial l j % 2 ≡ l = omega arith in
      let i : 16 * (c1_block h j % 2) + c1_serial l j / 2 ≡ j = omega arith in
      c1-at (c1_block h j) (c1_serial l j) ∙ ap₂ (λ a e. get_or (c1-extended a e).word (16 * (c1_block h j % 2) + c1_serial l j / 2) 0) p q
      ∙ ap (λ i. get_or (c1-extended h l).word i 0) i))) (c1-extended h l).checks

  c1-kept : (b s : ℕ) → s < 32 → s < wide (b % 4) → with_c1 x b s ≡ x b s
  c1-kept b s hs hw =
      c1-at b s ∙ (c1-extended (b / 2) (s % 2)).same (16 * (b % 2) + s / 2) (omega arith) (lt-leb 28 (16 * (b % 2) + s / 2) before)
      ∙ ap₂ x (c1-block b s hs) (c1-serial b s hs)
    where
      before : 16 * (b % 2) + s / 2 < 28
      before =
          cond_both (eqb (b % 4 % 2) 0) 32 24 (λ z. s < z → 16 * (b % 2) + s / 2 < 28) (λ e h. omega (arith, eqb-true (b % 4 % 2) 0 e)) (λ e h. omega arith) hw

-- ---- the array of a row

laid-bytes : (r : List ℕ) → Bytes r → (b s : ℕ) → laid r b s < 256
unfolding laid
laid-bytes r h b s = cond_both (is_occupied b s) (get_or r (number_at b s) 0) 0 (λ z. z < 256) (λ e. byte-at r h (number_at b s)) (λ e. omega arith)

occupied-block : (b s : ℕ) → is_occupied b s ≡ true → (b < 52) ⊎ (75 < b)
unfolding is_occupied
occupied-block b s o =
    elim (or_cases (ltb b 52) (ltb 75 b) (and_parts (ltb b 52 || ltb 75 b) (not (is_c1_check b s)) o).0) [
      | inl e ↦ inl (ltb-true b 52 e)
      | inr e ↦ inr (ltb-true 75 b e)
    ]

wide-le : (m : ℕ) → wide m ≤ 32
wide-le m = cond_both (eqb (m % 2) 0) 32 24 (λ z. z ≤ 32) (λ e. omega arith) (λ e. omega arith)

module _ (r : List ℕ) (len : length r ≡ 2912) (hr : Bytes r) where
  both_bytes : (b s : ℕ) → with_c2 (laid r) b s < 256
  both_bytes b s = c2-bytes (laid r) (laid-bytes r hr) b s

  array-checked : Checked (array_of r)
  unfolding array_of c2
  array-checked = record {
    bytes = c1-bytes (with_c2 (laid r)) both_bytes;
    c1s = λ h l hh hl. c1-made (with_c2 (laid r)) both_bytes h l hl;
    c2s = λ m n hm hn.
        subst (Checks 6)
        (listed_same (λ j. with_c2 (laid r) (m + 4 * j) n) (λ j. array_of r (m + 4 * j) n) 32
        (λ j hj.
        let q : m ≡ (m + 4 * j) % 4 = omega arith in
        sym (c1-kept (with_c2 (laid r)) both_bytes (m + 4 * j) n (omega (arith, wide-le m)) (subst (λ z. n < wide z) q hn))))
        (c2-made (laid r) (laid-bytes r hr) m n hm);
  }

  array_at : (b s : ℕ) → b < 128 → s < 32 → is_occupied b s ≡ true → array_of r b s ≡ get_or r (number_at b s) 0
  unfolding array_of laid
  array_at b s hb hs o =
      c1-kept (with_c2 (laid r)) both_bytes b s hs (occupied-wide b s hs o) ∙ c2-kept (laid r) (laid-bytes r hr) b s hb (occupied-block b s o)
      ∙ cond-true (is_occupied b s) (get_or r (number_at b s) 0) 0 o

  array-number : (q : ℕ) → q < 2912 → array_of r (block_at q) (serial_at q) ≡ get_or r q 0
  array-number q h = let f = fits q h in array_at (block_at q) (serial_at q) f.0 f.1 f.2 ∙ ap (λ i. get_or r i 0) f.3

  array_row : row (array_of r) ≡ r
  unfolding row
  array_row = listed-is (λ q. array_of r (block_at q) (serial_at q)) r 2912 len array-number

-- ---- no other array

module _ (x y : Array) (cx : Checked x) (cy : Checked y) (same : row x ≡ row y) where
  same-occupied : (b s : ℕ) → b < 128 → s < 32 → is_occupied b s ≡ true → x b s ≡ y b s
  unfolding row
  same-occupied b s hb hs o =
      let k = back b s hb hs o in
      let f : ℕ → ℕ = λ q. x (block_at q) (serial_at q) in
      let g : ℕ → ℕ = λ q. y (block_at q) (serial_at q) in
      subst₂ (λ b s. x b s ≡ y b s) k.1 k.2
      (sym (slice_index-listed f 2912 (number_at b s) k.0) ∙ ap (λ z. get_or z (number_at b s) 0) same ∙ slice_index-listed g 2912 (number_at b s) k.0)

  -- all but the C1 checks
  same-c2 : (b s : ℕ) → b < 128 → s < 32 → is_c1_check b s ≡ false → x b s ≡ y b s
  unfolding c2
  same-c2 b s hb hs n =
      let p : ℕ → Bool = λ j. leb 13 j && leb j 18 in
      let f : ℕ → ℕ = λ j. x (b % 4 + 4 * j) s in
      let g : ℕ → ℕ = λ j. y (b % 4 + 4 * j) s in
      let e : b % 4 + 4 * (b / 4) ≡ b = omega arith in
      let w : s < wide (b % 4) = below-wide b s hs n in
      let k : listed f 32 ≡ listed g 32 =
      distance 6 (which p 32) (listed f 32) (listed g 32) (omega (arith, length-listed f 32)) (all_listed (λ z. z < 256) f 32 (λ k h. cx.bytes (b % 4 + 4 * k) s))
      (all_listed (λ z. z < 256) g 32 (λ k h. cy.bytes (b % 4 + 4 * k) s)) (which-places f p 32) (unfold which in omega arith)
      (off-listed f g p 32 (λ k h o. same-occupied (b % 4 + 4 * k) s (omega arith) hs (occupied-from (b % 4 + 4 * k) s (outer (b % 4) k (omega arith) o) (like-c1 b (b % 4 + 4 * k) s (omega arith) n))))
      (cx.c2s (b % 4) s (omega arith) w) (cy.c2s (b % 4) s (omega arith) w) in
      subst (λ b. x b s ≡ y b s) e (sym (slice_index-listed f 32 (b / 4) (omega arith)) ∙ ap (λ z. get_or z (b / 4) 0) k ∙ slice_index-listed g 32 (b / 4) (omega arith))

  same-all : (b s : ℕ) → b < 128 → s < 32 → x b s ≡ y b s
  unfolding c1
  same-all b s hb hs =
      let p : ℕ → Bool = λ j. leb 28 j in
      let f : ℕ → ℕ = λ j. x (c1_block (b / 2) j) (c1_serial (s % 2) j) in
      let g : ℕ → ℕ = λ j. y (c1_block (b / 2) j) (c1_serial (s % 2) j) in
      let i : ℕ = 16 * (b % 2) + s / 2 in
      let hi : i < 32 = omega arith in
      let k : listed f 32 ≡ listed g 32 =
      distance 4 (which p 32) (listed f 32) (listed g 32) (omega (arith, length-listed f 32))
      (all_listed (λ z. z < 256) f 32 (λ k h. cx.bytes (c1_block (b / 2) k) (c1_serial (s % 2) k)))
      (all_listed (λ z. z < 256) g 32 (λ k h. cy.bytes (c1_block (b / 2) k) (c1_serial (s % 2) k))) (which-places f p 32) (unfold which in omega arith)
      (off-listed f g p 32 (λ k h o. same-c2 (c1_block (b / 2) k) (c1_serial (s % 2) k) (omega arith) (omega arith) (front (b / 2) (s % 2) k (omega arith) h o)))
      (cx.c1s (b / 2) (s % 2) (omega arith) (omega arith)) (cy.c1s (b / 2) (s % 2) (omega arith) (omega arith)) in
      subst₂ (λ b s. x b s ≡ y b s) (c1-block b s hs) (c1-serial b s hs)
      (sym (slice_index-listed f 32 i hi) ∙ ap (λ z. get_or z i 0) k ∙ slice_index-listed g 32 i hi)

pub one-array : OneArray
one-array = record { made = λ r l h. (array-checked r l h, array_row r l h); only = same-all }

-- ---- the arrays of a group

randomized-length : (tap reg : ℕ) (xs : List ℕ) → length (randomized tap reg xs) ≡ length xs
unfolding randomized
randomized-length tap reg [] = refl
randomized-length tap reg (x ∷ xs) = ap suc (randomized-length tap (steps tap 8 reg) xs)

randomized-bytes : (tap reg : ℕ) (xs : List ℕ) → Bytes xs → Bytes (randomized tap reg xs)
unfolding randomized
randomized-bytes tap reg [] h = tt
randomized-bytes tap reg (x ∷ xs) h = (xor_lt 8 x (output tap 8 reg) h.0 (output-lt tap 8 reg), randomized-bytes tap (steps tap 8 reg) xs h.1)

-- the number of a D byte in its sub-group, from its track and its number in the row
abbrev d_of : ℕ → ℕ → ℕ
d_of k q = 4 * (q / 2 - 1) + 2 * ((k % 2 + q / 2) % 2) + q % 2

parity : (k i : ℕ) → 2 * (k / 2) + ((k % 2 + i) % 2 + i) % 2 ≡ k
parity k i = let e : ((k % 2 + i) % 2 + i) % 2 ≡ k % 2 = omega arith in omega (arith, e)

module _ (k q : ℕ) (h2 : 2 ≤ q) where
  d-number : number_d (d_of k q) ≡ q
  d-number = omega arith

  d-track : 2 * (k / 2) + sign_d (d_of k q) ≡ k
  d-track =
      let word : d_of k q / 4 + 1 ≡ q / 2 = omega arith in
      let channel : d_of k q % 4 / 2 ≡ (k % 2 + q / 2) % 2 = omega arith in
      ap₂ (λ a i. 2 * (k / 2) + (a + i) % 2) channel word ∙ parity k (q / 2)

d-back : (f d : ℕ) → d_of (2 * f + sign_d d) (number_d d) ≡ d
d-back f d = omega arith

-- where word 0 stands
at_first : (block_at 1 ≡ 0) × (serial_at 1 ≡ 0) × (block_at 0 ≡ 0) × (serial_at 0 ≡ 2)
unfolding block_at serial_at block serial
at_first = (refl, refl, refl, refl)

module _ (tap start : ℕ) (group : List ℕ) (len : length group ≡ 22 * 5756) (hb : Bytes group) where
  data-lt : (k q : ℕ) → data_at tap start group k q < 256
  unfolding data_at
  data-lt k q =
      byte-at (randomized tap start (part group (k / 2)))
      (randomized-bytes tap start (part group (k / 2)) (All-take (λ z. z < 256) 5756 (drop (5756 * (k / 2)) group) (All-drop (λ z. z < 256) (5756 * (k / 2)) group hb))) (d_of k q)

  c3-extended : (q : ℕ) → Extended 2 (λ k. leb 44 k) 46 (λ k. cond (ltb k 44) (data_at tap start group k q) 0)
  c3-extended q =
      extend 2 (λ k. leb 44 k) 46 (λ k. cond (ltb k 44) (data_at tap start group k q) 0) (omega arith)
      (λ k h. cond_both (ltb k 44) (data_at tap start group k q) 0 (λ z. z < 256) (λ e. data-lt k q) (λ e. omega arith)) (unfold which in refl)

  c3-at : (k q : ℕ) → c3_at tap start group k q ≡ get_or (c3-extended q).word k 0
  unfolding c3_at c3_checks
  c3-at k q = ap (byte_at k) (c3-extended q).is

  byte_of-lt : (k q : ℕ) → k < 46 → byte_of tap start group k q < 256
  unfolding byte_of
  byte_of-lt k q h =
      cond_both (ltb q 2) (cond (eqb q 1) (frame_byte (k / 2 + 1)) 0) (cond (ltb q 2880) (c3_at tap start group k q) 0) (λ z. z < 256)
      (λ e.
      cond_both (eqb q 1) (frame_byte (k / 2 + 1)) 0 (λ z. z < 256)
      (λ e. cond_both (eqb (k / 2 + 1) 23) 215 (k / 2 + 1) (λ z. z < 256) (λ e. omega arith) (λ e. omega arith)) (λ e. omega arith))
      (λ e.
      cond_both (ltb q 2880) (c3_at tap start group k q) 0 (λ z. z < 256)
      (λ e. subst (λ z. z < 256) (sym (c3-at k q)) (byte-at (c3-extended q).word (c3-extended q).bytes k)) (λ e. omega arith))

  row-bytes : (k : ℕ) → k < 46 → Bytes (listed (byte_of tap start group k) 2912)
  row-bytes k h = all_listed (λ z. z < 256) (byte_of tap start group k) 2912 (λ q l. byte_of-lt k q h)

  arrays-at : (k q : ℕ) → k < 46 → q < 2912 → arrays tap start group k (block_at q) (serial_at q) ≡ byte_of tap start group k q
  unfolding arrays
  arrays-at k q h l =
      array-number (listed (byte_of tap start group k) 2912) (length-listed (byte_of tap start group k) 2912) (row-bytes k h) q l
      ∙ slice_index-listed (byte_of tap start group k) 2912 q l

  byte_of-data : (k q : ℕ) → 2 ≤ q → q < 2880 → byte_of tap start group k q ≡ get_or (c3-extended q).word k 0
  unfolding byte_of
  byte_of-data k q h2 hq =
      cond-false (ltb q 2) (cond (eqb q 1) (frame_byte (k / 2 + 1)) 0) (cond (ltb q 2880) (c3_at tap start group k q) 0) (le-ltb q 2 h2)
      ∙ cond-true (ltb q 2880) (c3_at tap start group k q) 0 (lt-ltb q 2880 hq) ∙ c3-at k q

  byte_of-zero : (k q : ℕ) → 2880 ≤ q → byte_of tap start group k q ≡ 0
  unfolding byte_of
  byte_of-zero k q h =
      cond-false (ltb q 2) (cond (eqb q 1) (frame_byte (k / 2 + 1)) 0) (cond (ltb q 2880) (c3_at tap start group k q) 0) (le-ltb q 2 (omega arith))
      ∙ cond-false (ltb q 2880) (c3_at tap start group k q) 0 (le-ltb q 2880 h)

  arrays-c3 : (q : ℕ) → 2 ≤ q → q < 2880 → Checks 2 (c3 (arrays tap start group) q)
  unfolding c3
  arrays-c3 q h2 hq =
      subst (Checks 2)
      (sym (listed-is (λ k. arrays tap start group k (block_at q) (serial_at q)) (c3-extended q).word 46 (c3-extended q).size (λ k h. arrays-at k q h (omega arith) ∙ byte_of-data k q h2 hq)))
      (c3-extended q).checks

  part_length : (f : ℕ) → f < 22 → length (part group f) ≡ 5756
  part_length f h = omega (arith, len, length-take 5756 (drop (5756 * f) group), length-drop (5756 * f) group)

  data-held : (f : ℕ) → f < 22
      → listed (λ d. arrays tap start group (2 * f + sign_d d) (block_at (number_d d)) (serial_at (number_d d))) 5756 ≡ randomized tap start (part group f)
  unfolding data_at
  data-held f h =
      listed-is (λ d. arrays tap start group (2 * f + sign_d d) (block_at (number_d d)) (serial_at (number_d d))) (randomized tap start (part group f)) 5756
      (randomized-length tap start (part group f) ∙ part_length f h) (λ d hd. each d hd)
    where
      each : (d : ℕ) → d < 5756 → arrays tap start group (2 * f + sign_d d) (block_at (number_d d)) (serial_at (number_d d)) ≡ get_or (randomized tap start (part group f)) d 0
      each d hd =
          let k : ℕ = 2 * f + sign_d d in
          let q : ℕ = number_d d in
          let ef : k / 2 ≡ f = omega arith in
          arrays-at k q (omega arith) (omega arith) ∙ byte_of-data k q (omega arith) (omega arith)
          ∙ (c3-extended q).same k (omega arith) (lt-leb 44 k (omega arith))
          ∙ cond-true (ltb k 44) (data_at tap start group k q) 0 (lt-ltb k 44 (omega arith))
          ∙ ap₂ (λ f d. get_or (randomized tap start (part group f)) d 0) ef (d-back f d)

  arrays-upper : (k : ℕ) → k < 46 → arrays tap start group k 0 0 ≡ frame_byte (k / 2 + 1)
  unfolding byte_of
  arrays-upper k h = subst₂ (λ b s. arrays tap start group k b s ≡ frame_byte (k / 2 + 1)) at_first.0 at_first.1 (arrays-at k 1 h (omega arith))

  arrays-lower : (k : ℕ) → k < 46 → arrays tap start group k 0 2 ≡ 0
  unfolding byte_of
  arrays-lower k h = subst₂ (λ b s. arrays tap start group k b s ≡ 0) at_first.2 at_first.3 (arrays-at k 0 h (omega arith))

  made : Written tap start group (arrays tap start group)
  unfolding arrays
  made = record {
    size = len;
    checked = λ k h. array-checked (listed (byte_of tap start group k) 2912) (length-listed (byte_of tap start group k) 2912) (row-bytes k h);
    headed = λ k h. record { upper = arrays-upper k h; lower = arrays-lower k h };
    zeros = λ k q h l m. arrays-at k q h m ∙ byte_of-zero k q l;
    c3s = arrays-c3;
    held = data-held;
  }

-- ---- no other arrays

module _ (tap start : ℕ) (group : List ℕ) (x y : ℕ → Array) (wx : Written tap start group x) (wy : Written tap start group y) where
  abbrev Same : ℕ → ℕ → Type 0
  Same k q = x k (block_at q) (serial_at q) ≡ y k (block_at q) (serial_at q)

  same-data : (k q : ℕ) → k < 44 → 2 ≤ q → q < 2880 → Same k q
  same-data k q hk h2 hq =
      let d : ℕ = d_of k q in
      let f : ℕ → ℕ = λ d. x (2 * (k / 2) + sign_d d) (block_at (number_d d)) (serial_at (number_d d)) in
      let g : ℕ → ℕ = λ d. y (2 * (k / 2) + sign_d d) (block_at (number_d d)) (serial_at (number_d d)) in
      let hd : d < 5756 = omega arith in
      subst₂ Same (d-track k q h2) (d-number k q h2)
      (sym (slice_index-listed f 5756 d hd) ∙ ap (λ z. get_or z d 0) (wx.held (k / 2) (omega arith) ∙ sym (wy.held (k / 2) (omega arith))) ∙ slice_index-listed g 5756 d hd)

  same-c3 : (k q : ℕ) → k < 46 → 2 ≤ q → q < 2880 → Same k q
  unfolding c3
  same-c3 k q hk h2 hq =
      let p : ℕ → Bool = λ k. leb 44 k in
      let f : ℕ → ℕ = λ k. x k (block_at q) (serial_at q) in
      let g : ℕ → ℕ = λ k. y k (block_at q) (serial_at q) in
      let e : listed f 46 ≡ listed g 46 =
      distance 2 (which p 46) (listed f 46) (listed g 46) (omega (arith, length-listed f 46)) (all_listed (λ z. z < 256) f 46 (λ k h. (wx.checked k h).bytes (block_at q) (serial_at q)))
      (all_listed (λ z. z < 256) g 46 (λ k h. (wy.checked k h).bytes (block_at q) (serial_at q))) (which-places f p 46) (unfold which in omega arith)
      (off-listed f g p 46 (λ k h o. same-data k q (leb-false 44 k o) h2 hq)) (wx.c3s q h2 hq) (wy.c3s q h2 hq) in
      sym (slice_index-listed f 46 k hk) ∙ ap (λ z. get_or z k 0) e ∙ slice_index-listed g 46 k hk

  same_number : (k q : ℕ) → k < 46 → q < 2912 → Same k q
  same_number k zero hk hq =
      subst₂ (λ b s. x k b s ≡ y k b s) (sym at_first.2) (sym at_first.3) ((wx.headed k hk).lower ∙ sym (wy.headed k hk).lower)
  same_number k (suc zero) hk hq =
      subst₂ (λ b s. x k b s ≡ y k b s) (sym at_first.0) (sym at_first.1) ((wx.headed k hk).upper ∙ sym (wy.headed k hk).upper)
  same_number k (suc (suc q)) hk hq =
      elim (cases_lt (suc (suc q)) 2880) [
        | inl l ↦ same-c3 k (suc (suc q)) hk (omega arith) l
        | inr l ↦ wx.zeros k (suc (suc q)) hk l hq ∙ sym (wy.zeros k (suc (suc q)) hk l hq)
      ]

  only : (k b s : ℕ) → k < 46 → b < 128 → s < 32 → x k b s ≡ y k b s
  unfolding row
  only k b s hk hb hs =
      same-all (x k) (y k) (wx.checked k hk) (wy.checked k hk)
      (listed_same (λ q. x k (block_at q) (serial_at q)) (λ q. y k (block_at q) (serial_at q)) 2912 (λ q h. same_number k q hk h)) b s hb hs

pub written_once : WrittenOnce
written_once = record { made = made; only = only }
