-- A lightly damaged track reads as it was written.
use Rattle.std.proofs.Common.{◌≡◌, ℕ, zero, suc, ◌+◌, ◌*◌, ◌/◌, ◌%◌, ◌<◌, ◌≤◌, Bool, true, false, not, ◌&&◌, ◌||◌, eqb, ltb, leb, List, [], ◌∷◌, map, length, get_or, Some, None, Option, sym, refl, ap, ◌∙◌, subst, subst₂, inl, inr, arith}
use lib.Bits.{bit_xor}
use Rattle.std.specs.List.{range_with_len, AllByRecursion}
use Rattle.std.proofs.ByRecursion.{All-append, All-map}
use Rattle.std.proofs.lemmas.Bool.{and_parts, and_from, and_cases, or_from, eqb-true, eqb-false, eq-eqb, le-leb, ltb-false, leb-false, cond-true, cond_both, cases_Bool, both_ways, not-true, not-false, not_from_true, not_from_false}
use Rattle.reed_solomon.specs.Words.{Checks, Places, Off}
use Rattle.reed_solomon.proofs.Distance.{distance}
use Rattle.layout.specs.Counts.{which, listed}
use Rattle.layout.specs.Placing.{block_at, serial_at, is_occupied, is_c1_check}
use Rattle.layout.specs.Words.{Array, c1_block, c1_serial, c1, c2, wide, row, Checked, frame_byte}
use Rattle.channel.specs.Line.{Code, Lawful}
use Rattle.layout.specs.Line.{Address, Valid, label, content, channel}
use Rattle.layout.specs.Reading
use Rattle.channel.specs.Listed.{or_zero, is_lost}
use Rattle.layout.specs.Reading.{is_byte, byte_at, cause_of, read, lost, words_from, order}
use Rattle.layout.specs.Damage.{changed, changed_bytes, changed_frame, touched, Light, LightReads}
use Rattle.layout.proofs.Counts.{every-from, length-which, which-below, which-distinct, which-else, count_none, count-more, all-counting, length-listed, slice_index-listed, listed_same, all_listed}
use Rattle.layout.proofs.Placing.{fits}
use Rattle.layout.proofs.Filling.{checks-true, checks-from, fills}
use Rattle.layout.proofs.Stored.{stored-byte, stored-sync}

-- two lists made from functions that agree but at the places that pass a test
pub off-listed : (f g : ℕ → ℕ) (p : ℕ → Bool) (n : ℕ) → ((k : ℕ) → k < n → p k ≡ false → f k ≡ g k) → Off (which p n) (listed f n) (listed g n)
off-listed f g p n h = record {
  size = length-listed f n ∙ sym (length-listed g n);
  same = λ k l a. let l' : k < n = subst (λ m. k < m) (length-listed f n) l in slice_index-listed f n k l' ∙ h k l' (which-else p n k l' a) ∙ sym (slice_index-listed g n k l');
}

pub which-places : (f : ℕ → ℕ) (p : ℕ → Bool) (n : ℕ) → Places (length (listed f n)) (which p n)
which-places f p n = record { within = which-below p n (length (listed f n)) (omega (arith, length-listed f n)); once = which-distinct p n }

same_word : (v w : ℕ → ℕ) (i : ℕ) → changed v w i ≡ false → w i ≡ v i
unfolding changed
same_word v w i e = eqb-true (w i) (v i) (not-false (eqb (w i) (v i)) e)

is-byte : (x : ℕ) (o : Option ℕ) → o ≡ Some x → is_byte x o ≡ true
is-byte x o e = ap (is_byte x) e ∙ eq-eqb x x refl

-- the place of a byte in its C1 word
pub c1-block : (b s : ℕ) → s < 32 → c1_block (b / 2) (16 * (b % 2) + s / 2) ≡ b
c1-block b s h = omega arith

pub c1-serial : (b s : ℕ) → s < 32 → c1_serial (s % 2) (16 * (b % 2) + s / 2) ≡ s
c1-serial b s h = omega arith

module _ (c : Code) (t : Address) (w : ℕ → ℕ) (lawful : Lawful c) where
  pub value-lt : (b s : ℕ) → Reading.value c t w b s < 256
  unfolding Reading.value
  value-lt b s = go (c.decode (w (36 * b + (4 + s)))) refl
    where
      go : (o : Option ℕ) → c.decode (w (36 * b + (4 + s))) ≡ o → or_zero o < 256
      go None e = omega arith
      go (Some y) e = lawful.bytes (w (36 * b + (4 + s))) y e

module _ (c : Code) (t : Address) (x : Array) (w : ℕ → ℕ) (lawful : Lawful c) (real : Valid t) (checked : Checked x) (light : Light (channel c t x) w) where
  stored : (b p : ℕ) → b < 128 → 0 < p → p < 36 → w (36 * b + p) ≡ channel c t x (36 * b + p) → c.decode (w (36 * b + p)) ≡ Some (content t x b p)
  stored b p hb h0 hp e = ap c.decode e ∙ stored-byte c t x lawful real checked.bytes b p hb h0 hp

  -- a byte word as it was stored
  byte-found : (b s : ℕ) → b < 128 → s < 32 → w (36 * b + (4 + s)) ≡ channel c t x (36 * b + (4 + s)) → c.decode (w (36 * b + (4 + s))) ≡ Some (x b s)
  unfolding content
  byte-found b s hb hs e =
      stored b (4 + s) hb (omega arith) (omega arith) e ∙ let q : 4 + s ≡ suc (suc (suc (suc s))) = omega arith in ap (λ p. Some (content t x b p)) q

  value_found : (b s : ℕ) → b < 128 → s < 32 → w (36 * b + (4 + s)) ≡ channel c t x (36 * b + (4 + s)) → Reading.value c t w b s ≡ x b s
  unfolding Reading.value
  value_found b s hb hs e = ap or_zero (byte-found b s hb hs e)

  block-found : (b : ℕ) → b < 128 → ((j : ℕ) → j < 4 → w (36 * b + j) ≡ channel c t x (36 * b + j)) → Reading.block_lost c t w b ≡ false
  unfolding Reading.block_lost content
  block-found b hb h =
      let z : 36 * b + 0 ≡ 36 * b = omega arith in
      let sync : w (36 * b) ≡ channel c t x (36 * b) = subst (λ i. w i ≡ channel c t x i) z (h 0 (omega arith)) in
      not_from_true _
      (and_from _ _
      (and_from _ _
      (and_from _ _ (subst (λ z. (eqb z 273 || eqb z 785) ≡ true) (sym sync) (stored-sync c t x lawful real checked.bytes b))
      (is-byte (label t b) (c.decode (w (36 * b + 1))) (stored b 1 hb (omega arith) (omega arith) (h 1 (omega arith)))))
      (is-byte b (c.decode (w (36 * b + 2))) (stored b 2 hb (omega arith) (omega arith) (h 2 (omega arith)))))
      (is-byte (bit_xor (label t b) b) (c.decode (w (36 * b + 3))) (stored b 3 hb (omega arith) (omega arith) (h 3 (omega arith)))))

  -- ---- C1 words

  -- one that is not touched is read
  c1-untouched : (h l : ℕ) → h < 64 → l < 2 → touched (channel c t x) w h l ≡ false → Reading.c1_read c t w h l ≡ true
  unfolding Reading.c1_read touched changed_bytes changed_frame c1 Reading.byte_lost
  c1-untouched h l hh hl e =
      and_from _ _ (every-from (λ j. not (Reading.byte_lost c t w (c1_block h j) (c1_serial l j))) 32 found)
      (checks-from 4 (c1 (Reading.value c t w) h l) (subst (Checks 4) same (checked.c1s h l hh hl)))
    where
      none : changed_bytes (channel c t x) w h l + changed_frame (channel c t x) w h ≤ 0
      none = ltb-false 0 (changed_bytes (channel c t x) w h l + changed_frame (channel c t x) w h) e

      bytes_same : (j : ℕ) → j < 32 → w (36 * c1_block h j + (4 + c1_serial l j)) ≡ channel c t x (36 * c1_block h j + (4 + c1_serial l j))
      bytes_same j hj =
          same_word (channel c t x) w (36 * c1_block h j + (4 + c1_serial l j))
          (count_none (λ j. changed (channel c t x) w (36 * c1_block h j + (4 + c1_serial l j))) 32 (omega (arith, none)) j hj)

      frame_same : (j : ℕ) → j < 8 → w (36 * (2 * h + j / 4) + j % 4) ≡ channel c t x (36 * (2 * h + j / 4) + j % 4)
      frame_same j hj =
          same_word (channel c t x) w (36 * (2 * h + j / 4) + j % 4)
          (count_none (λ j. changed (channel c t x) w (36 * (2 * h + j / 4) + j % 4)) 8 (omega (arith, none)) j hj)

      -- word k of the first or the second block
      lead : (a k : ℕ) → a < 2 → k < 4 → w (36 * (2 * h + a) + k) ≡ channel c t x (36 * (2 * h + a) + k)
      lead a k ha hk =
          let p : (4 * a + k) / 4 ≡ a = omega arith in
          let q : (4 * a + k) % 4 ≡ k = omega arith in
          subst₂ (λ a k. w (36 * (2 * h + a) + k) ≡ channel c t x (36 * (2 * h + a) + k)) p q (frame_same (4 * a + k) (omega arith))

      found : (j : ℕ) → j < 32 → not (Reading.byte_lost c t w (c1_block h j) (c1_serial l j)) ≡ true
      found j hj =
          not_from_false _
          (or_from _ _ (block-found (c1_block h j) (omega arith) (λ k hk. lead (j / 16) k (omega arith) hk))
          (ap is_lost (byte-found (c1_block h j) (c1_serial l j) (omega arith) (omega arith) (bytes_same j hj))))

      same : c1 x h l ≡ c1 (Reading.value c t w) h l
      same =
          listed_same (λ j. x (c1_block h j) (c1_serial l j)) (λ j. Reading.value c t w (c1_block h j) (c1_serial l j)) 32
          (λ j hj. sym (value_found (c1_block h j) (c1_serial l j) (omega arith) (omega arith) (bytes_same j hj)))

  -- one that is read is as it was
  c1-right : (h l : ℕ) → h < 64 → l < 2 → Reading.c1_read c t w h l ≡ true → c1 (Reading.value c t w) h l ≡ c1 x h l
  unfolding Reading.c1_read changed_bytes c1
  c1-right h l hh hl e =
      distance 4 (which test 32) (listed f 32) (listed g 32) (omega (arith, length-listed f 32)) (all_listed (λ z. z < 256) f 32 (λ k hk. value-lt c t w lawful (c1_block h k) (c1_serial l k)))
      (all_listed (λ z. z < 256) g 32 (λ k hk. checked.bytes (c1_block h k) (c1_serial l k))) (which-places f test 32)
      (omega (arith, length-which test 32, light.few h l hh hl))
      (off-listed f g test 32
      (λ k hk n.
      value_found (c1_block h k) (c1_serial l k) (omega arith) (omega arith) (same_word (channel c t x) w (36 * c1_block h k + (4 + c1_serial l k)) n)))
      (checks-true 4 (listed f 32) (and_parts _ _ e).1) (checked.c1s h l hh hl)
    where
      f : ℕ → ℕ
      f j = Reading.value c t w (c1_block h j) (c1_serial l j)

      g : ℕ → ℕ
      g j = x (c1_block h j) (c1_serial l j)

      test : ℕ → Bool
      test j = changed (channel c t x) w (36 * c1_block h j + (4 + c1_serial l j))

  -- a byte that is not lost is right, and one that is lost is in a touched word
  right : (b s : ℕ) → b < 128 → s < 32 → Reading.erased c t w b s ≡ false → Reading.value c t w b s ≡ x b s
  unfolding Reading.erased c1
  right b s hb hs e =
      let j : ℕ = 16 * (b % 2) + s / 2 in
      let hj : j < 32 = omega arith in
      let k = c1-right (b / 2) (s % 2) (omega arith) (omega arith) (not-false (Reading.c1_read c t w (b / 2) (s % 2)) e) in
      let f : ℕ → ℕ = λ j. Reading.value c t w (c1_block (b / 2) j) (c1_serial (s % 2) j) in
      let g : ℕ → ℕ = λ j. x (c1_block (b / 2) j) (c1_serial (s % 2) j) in
      let here : f j ≡ g j = sym (slice_index-listed f 32 j hj) ∙ ap (λ z. get_or z j 0) k ∙ slice_index-listed g 32 j hj in
      subst₂ (λ b s. Reading.value c t w b s ≡ x b s) (c1-block b s hs) (c1-serial b s hs) here

  gone-touched : (b s : ℕ) → b < 128 → s < 32 → Reading.erased c t w b s ≡ true → touched (channel c t x) w (b / 2) (s % 2) ≡ true
  unfolding Reading.erased
  gone-touched b s hb hs e =
      elim (cases_Bool (touched (channel c t x) w (b / 2) (s % 2))) [
        | inl t ↦ t
        | inr u ↦ absurd (both_ways (Reading.c1_read c t w (b / 2) (s % 2)) (not-true (Reading.c1_read c t w (b / 2) (s % 2)) e) (c1-untouched (b / 2) (s % 2) (omega arith) (omega arith) u))
      ]

  -- ---- C2 words

  wide-le : (m : ℕ) → wide m ≤ 32
  wide-le m = cond_both (eqb (m % 2) 0) 32 24 (λ z. z ≤ 32) (λ e. omega arith) (λ e. omega arith)

  few-holes : (m n : ℕ) → m < 4 → n < wide m → length (Reading.erasures (Reading.erased c t w) (Reading.value c t w) m n) ≤ 6
  unfolding Reading.erasures
  few-holes m n hm hn =
      omega (
        arith,
        length-which (λ j. Reading.erased c t w (m + 4 * j) n) 32,
        count-more (λ j. Reading.erased c t w (m + 4 * j) n) (λ j. touched (channel c t x) w ((m + 4 * j) / 2) (n % 2)) 32
            (λ j hj. gone-touched (m + 4 * j) n (omega arith) (omega (arith, wide-le m))),
        light.thin m n hm hn,
      )

  c2-filled : (m n : ℕ) → m < 4 → n < wide m → Reading.filled (Reading.erased c t w) (Reading.value c t w) m n ≡ Some (c2 x m n)
  unfolding Reading.filled Reading.erasures c2
  c2-filled m n hm hn =
      fills 6 (which test 32) (listed f 32) (listed g 32) (omega (arith, length-listed f 32)) (all_listed (λ z. z < 256) f 32 (λ k hk. value-lt c t w lawful (m + 4 * k) n))
      (which-places f test 32) (few-holes m n hm hn) (all_listed (λ z. z < 256) g 32 (λ k hk. checked.bytes (m + 4 * k) n))
      (off-listed f g test 32 (λ k hk e. right (m + 4 * k) n (omega arith) (omega (arith, wide-le m)) e)) (checked.c2s m n hm hn)
    where
      f : ℕ → ℕ
      f j = Reading.value c t w (m + 4 * j) n

      g : ℕ → ℕ
      g j = x (m + 4 * j) n

      test : ℕ → Bool
      test j = Reading.erased c t w (m + 4 * j) n

  no-cause : (m n : ℕ) → m < 4 → n < wide m → Reading.cause (Reading.erased c t w) (Reading.value c t w) m n ≡ 0
  unfolding Reading.cause
  no-cause m n hm hn =
      cond-true (leb (length (Reading.erasures (Reading.erased c t w) (Reading.value c t w) m n)) 6) (cause_of (Reading.filled (Reading.erased c t w) (Reading.value c t w) m n)) 2 (le-leb (length (Reading.erasures (Reading.erased c t w) (Reading.value c t w) m n)) 6 (few-holes m n hm hn))
      ∙ ap cause_of (c2-filled m n hm hn)

  mended-right : (b s : ℕ) → b < 128 → s < wide (b % 4) → Reading.corrected (Reading.erased c t w) (Reading.value c t w) b s ≡ x b s
  unfolding Reading.corrected c2
  mended-right b s hb hs =
      let e : b % 4 + 4 * (b / 4) ≡ b = omega arith in
      ap (byte_at (b / 4)) (c2-filled (b % 4) s (omega arith) hs) ∙ slice_index-listed (λ j. x (b % 4 + 4 * j) s) 32 (b / 4) (omega arith) ∙ ap (λ b. x b s) e

  -- ---- the track

  judged-all : (ps : List (ℕ × ℕ)) → AllByRecursion (λ p. (p.0 < 4) × (p.1 < wide p.0)) ps → Reading.judged (Reading.erased c t w) (Reading.value c t w) t.frame ps ≡ Reading.judged (Reading.erased c t w) (Reading.value c t w) t.frame []
  unfolding Reading.judged
  judged-all [] a = refl
  judged-all (p ∷ ps) a =
      cond-true (eqb (Reading.cause (Reading.erased c t w) (Reading.value c t w) p.0 p.1) 0) (Reading.judged (Reading.erased c t w) (Reading.value c t w) t.frame ps) (lost (Reading.cause (Reading.erased c t w) (Reading.value c t w) p.0 p.1) p.0 p.1)
      (eq-eqb (Reading.cause (Reading.erased c t w) (Reading.value c t w) p.0 p.1) 0 (no-cause p.0 p.1 a.0.0 a.0.1))
      ∙ judged-all ps a.1

pub occupied-wide : (b s : ℕ) → s < 32 → is_occupied b s ≡ true → s < wide (b % 4)
unfolding is_occupied is_c1_check
occupied-wide b s hs o =
    cond_both (eqb (b % 4 % 2) 0) 32 24 (λ z. s < z) (λ e. hs)
    (λ e.
    elim (and_cases (eqb (b % 2) 1) (leb 24 s) (not-true (is_c1_check b s) (and_parts (ltb b 52 || ltb 75 b) (not (is_c1_check b s)) o).1)) [
      | inl n ↦ absurd (omega (arith, eqb-false (b % 2) 1 n, eqb-false (b % 4 % 2) 0 e))
      | inr n ↦ leb-false 24 s n
    ])

abbrev pub IsWord : ℕ × ℕ → Type 0
IsWord p = (p.0 < 4) × (p.1 < wide p.0)

pub words-from : (m k : ℕ) → m + k ≤ 4 → AllByRecursion IsWord (words_from m k)
unfolding words_from
words-from m zero h = tt
words-from m (suc k) h =
    All-append IsWord (map (λ n. (m, n)) (range_with_len 0 (wide m))) (words_from (m + 1) k)
    (All-map IsWord (λ n. (m, n)) (range_with_len 0 (wide m)) (all-counting (λ n. (m < 4) × (n < wide m)) 0 (wide m) (λ n a b. (omega arith, omega arith))))
    (words-from (m + 1) k (omega arith))

pub light-reads : LightReads
unfolding Reading.reading Reading.judged row
light-reads c t x w lawful real checked headed light =
    judged-all c t x w lawful real checked light order (words-from 0 4 (omega arith))
    ∙ cond-true (eqb (Reading.corrected (Reading.erased c t w) (Reading.value c t w) 0 0) (frame_byte t.frame) && eqb (Reading.corrected (Reading.erased c t w) (Reading.value c t w) 0 2) 0) (read (row (Reading.corrected (Reading.erased c t w) (Reading.value c t w)))) (lost 4 0 0)
    (and_from _ _ (eq-eqb _ _ (mended-right c t x w lawful real checked light 0 0 (omega arith) (omega arith) ∙ headed.upper))
    (eq-eqb _ _ (mended-right c t x w lawful real checked light 0 2 (omega arith) (omega arith) ∙ headed.lower)))
    ∙ ap read
    (listed_same (λ q. Reading.corrected (Reading.erased c t w) (Reading.value c t w) (block_at q) (serial_at q)) (λ q. x (block_at q) (serial_at q)) 2912
    (λ q h. let f = fits q h in mended-right c t x w lawful real checked light (block_at q) (serial_at q) f.0 (occupied-wide (block_at q) (serial_at q) f.1 f.2)))
