-- A pass over memory that fills word after word, where each place is in one word.
use Rattle.std.proofs.Common.{◌≡◌, ℕ, ◌+◌, ◌*◌, ◌/◌, ◌%◌, ◌<◌, ◌≤◌, cond, ◌&&◌, ltb, leb, ◌≢◌, ◌⊎◌, List, length, get_or, Some, Ok, Err, Result, OnOk, OnErr, sym, refl, ap, ◌∙◌, subst, inl, inr, zero-add, arith, lit≤}
use native.Mathlib.Decide.{ℕ_discrete}
use Rattle.std.proofs.lemmas.List.FromFn.{length-map-range_with_len, get_or-map-range_with_len}
use Rattle.std.proofs.lemmas.List.{ext_get_or}
use Rattle.std.proofs.ByRecursion.{All-from_get_or}
use Rattle.std.proofs.lemmas.Bool.{lt-ltb, le-ltb, cases_lt, cond-true, cond-false}
use Rattle.reed_solomon.specs.declared.fault.Unfillable.{Unfillable}
use Rattle.reed_solomon.specs.Words.{Bytes, Places, Filled}
use Rattle.reed_solomon.specs.Interleaves.{interleaved, Refilled, Unfilled}
use Rattle.reed_solomon.proofs.Distance.{fillable}
use Rattle.layout.specs.Reading.{filling, byte_at}
use Rattle.layout.specs.Writing.{c1_checks, c2_checks, c3_checks}
use Rattle.layout.proofs.Counts.{which-below, which-distinct}
use Rattle.layout.proofs.Filling.{fills}

pub length-interleaved : (xs : List ℕ) (start stride n : ℕ) → length (interleaved xs start stride n) ≡ n
unfolding interleaved
length-interleaved xs start stride n = length-map-range_with_len (λ j. get_or xs (start + stride * j) 0) 0 n

pub slice_index-interleaved : (xs : List ℕ) (start stride n j : ℕ) → j < n → get_or (interleaved xs start stride n) j 0 ≡ get_or xs (start + stride * j) 0
unfolding interleaved
slice_index-interleaved xs start stride n j h = get_or-map-range_with_len (λ j. get_or xs (start + stride * j) 0) 0 n j j 0 h (zero-add j)

pub same-interleaved : (xs ys : List ℕ) (start stride n : ℕ) → ((j : ℕ) → j < n → get_or xs (start + stride * j) 0 ≡ get_or ys (start + stride * j) 0)
    → interleaved xs start stride n ≡ interleaved ys start stride n
same-interleaved xs ys start stride n h =
    ext_get_or 0 (interleaved xs start stride n) (interleaved ys start stride n) (length-interleaved xs start stride n ∙ sym (length-interleaved ys start stride n))
    (λ j l.
    let k : j < n = subst (λ m. j < m) (length-interleaved xs start stride n) l in
    slice_index-interleaved xs start stride n j k ∙ h j k ∙ sym (slice_index-interleaved ys start stride n j k))

bytes-interleaved : (xs : List ℕ) (start stride n : ℕ) → ((i : ℕ) → get_or xs i 0 < 256) → Bytes (interleaved xs start stride n)
bytes-interleaved xs start stride n h =
    All-from_get_or (λ x. x < 256) (interleaved xs start stride n) 0
    (λ j l.
    let k : j < n = subst (λ m. j < m) (length-interleaved xs start stride n) l in
    subst (λ z. z < 256) (sym (slice_index-interleaved xs start stride n j k)) (h (start + stride * j)))

-- the places below size are split into words: place p is byte pos p of its word, which begins at first p; word w begins at start w
pub record Split (size many stride n : ℕ) (word pos first start : ℕ → ℕ) : Type 0 where
  pub begins : (p : ℕ) → p < size → start (word p) ≡ first p
  pub here : (p : ℕ) → p < size → first p + stride * pos p ≡ p
  pub below : (p : ℕ) → p < size → pos p < n
  pub back : (w j : ℕ) → j < n → w < many → word (start w + stride * j) ≡ w

-- the words before w are filled in zs, which was xs
abbrev pub Passed : ℕ → List ℕ → ℕ → ℕ → ℕ → (ℕ → ℕ) → (ℕ → ℕ) → (ℕ → ℕ) → List ℕ → List ℕ → ℕ → Type 0
Passed r ps size stride n word pos first xs zs w =
    (p : ℕ) → p < size → get_or zs p 0 ≡ cond (ltb (word p) w) (byte_at (pos p) (filling r ps (interleaved xs (first p) stride n))) (get_or xs p 0)

pub passed_none : (r : ℕ) (ps : List ℕ) (size stride n : ℕ) (word pos first : ℕ → ℕ) (xs : List ℕ) → Passed r ps size stride n word pos first xs xs 0
passed_none r ps size stride n word pos first xs p h =
    sym (cond-false (ltb (word p) 0) (byte_at (pos p) (filling r ps (interleaved xs (first p) stride n))) (get_or xs p 0) (le-ltb (word p) 0 (omega arith)))

module _ (r : ℕ) (ps : List ℕ) (size many stride n : ℕ) (word pos first start : ℕ → ℕ) (split : Split size many stride n word pos first start)
    (small : n ≤ 255) (places : Places n ps) (all : length ps ≡ r) (xs zs ys : List ℕ) (w : ℕ) (within : w < many)
    (reach : (j : ℕ) → j < n → start w + stride * j < size) (bz : (i : ℕ) → get_or zs i 0 < 256)
    (inv : Passed r ps size stride n word pos first xs zs w) where
  -- the word to be filled is as it was
  fresh : interleaved zs (start w) stride n ≡ interleaved xs (start w) stride n
  fresh =
      same-interleaved zs xs (start w) stride n
      (λ j h.
      let p : ℕ = start w + stride * j in
      let e : word p ≡ w = split.back w j h within in
      inv p (reach j h) ∙ cond-false (ltb (word p) w) _ (get_or xs p 0) (le-ltb (word p) w (omega arith)))

  found : (u : List ℕ) → Bytes u → Filled r ps (interleaved zs (start w) stride n) u → filling r ps (interleaved xs (start w) stride n) ≡ Some u
  found u bu f =
      let l : length (interleaved zs (start w) stride n) ≡ n = length-interleaved zs (start w) stride n in
      subst (λ b. filling r ps b ≡ Some u) fresh
      (fills r ps (interleaved zs (start w) stride n) u (omega arith) (bytes-interleaved zs (start w) stride n bz)
      (subst (λ m. Places m ps) (sym l) places) (omega arith) bu f.off f.checks)

  pub filled-word : Refilled r ps zs ys (start w) stride n → Passed r ps size stride n word pos first xs ys (w + 1)
  filled-word f p h = go (ℕ_discrete (word p) w)
    where
      go : Dec (word p ≡ w) → get_or ys p 0 ≡ cond (ltb (word p) (w + 1)) (byte_at (pos p) (filling r ps (interleaved xs (first p) stride n))) (get_or xs p 0)
      go (yes e) =
          let s : start w ≡ first p = ap start (sym e) ∙ split.begins p h in
          let at : start w + stride * pos p ≡ p = ap (λ a. a + stride * pos p) s ∙ split.here p h in
          ap (λ q. get_or ys q 0) (sym at) ∙ f.put.word (pos p) (split.below p h)
          ∙ ap (byte_at (pos p)) (sym (found f.found f.bytes f.filled))
          ∙ ap (λ a. byte_at (pos p) (filling r ps (interleaved xs a stride n))) s
          ∙ sym (cond-true (ltb (word p) (w + 1)) _ (get_or xs p 0) (lt-ltb (word p) (w + 1) (omega arith)))
      go (no d) =
          let else : (j : ℕ) → j < n → p ≢ start w + stride * j =
          λ j k e. d (ap word e ∙ split.back w j k within) in
          f.put.others p else ∙ inv p h
          ∙ ap (λ t. cond t (byte_at (pos p) (filling r ps (interleaved xs (first p) stride n))) (get_or xs p 0)) (same_test (cases_lt (word p) w))
        where
          same_test : (word p < w) ⊎ (w ≤ word p) → ltb (word p) w ≡ ltb (word p) (w + 1)
          same_test (inl l) = lt-ltb (word p) w l ∙ sym (lt-ltb (word p) (w + 1) (omega arith))
          same_test (inr g) = le-ltb (word p) w g ∙ sym (le-ltb (word p) (w + 1) (omega arith))

  never : Unfilled r ps zs ys (start w) stride n → ⊥
  never f =
      let l : length (interleaved zs (start w) stride n) ≡ n = length-interleaved zs (start w) stride n in
      let u = fillable ps (interleaved zs (start w) stride n) (omega arith) (bytes-interleaved zs (start w) stride n bz) (subst (λ m. Places m ps) (sym l) places) in
      f.none u.0 u.1 (subst (λ m. Filled m ps (interleaved zs (start w) stride n) u.0) all u.2)

  pub one_more : (a : Result (Unit {0}) Unfillable) → OnOk a (Refilled r ps zs ys (start w) stride n) → OnErr a (Unfilled r ps zs ys (start w) stride n) → Passed r ps size stride n word pos first xs ys (w + 1)
  one_more (Ok _) f e = filled-word f
  one_more (Err _) f e = absurd (never e)

-- ---- the words of an array

pub c2-split : Split 4096 128 128 32 (λ p. p % 128) (λ p. p / 128) (λ p. p % 128) (λ w. w)
c2-split = record { begins = λ p h. refl; here = λ p h. omega arith; below = λ p h. omega arith; back = λ w j h l. omega arith }

pub c1-split : Split 4096 128 2 32 (λ p. 2 * (p / 64) + p % 2) (λ p. p % 64 / 2) (λ p. 64 * (p / 64) + p % 2) (λ w. 64 * (w / 2) + w % 2)
c1-split =
    record { begins = λ p h. omega arith; here = λ p h. omega arith; below = λ p h. omega arith; back = λ w j h l. omega arith }

-- ---- the places of the check bytes

pub c2-places : Places 32 c2_checks
unfolding c2_checks
c2-places = record { within = which-below (λ j. leb 13 j && leb j 18) 32 32 (lit≤ tt); once = which-distinct (λ j. leb 13 j && leb j 18) 32 }

pub c1-places : Places 32 c1_checks
unfolding c1_checks
c1-places = record { within = which-below (λ j. leb 28 j) 32 32 (lit≤ tt); once = which-distinct (λ j. leb 28 j) 32 }

-- ---- the C3 words of the data, which begin at the places 2 to 2,879 of a row

pub c3-split : Split 133952 2912 2912 46 (λ p. (p % 2912 + 2910) % 2912) (λ p. p / 2912) (λ p. p % 2912) (λ w. (w + 2) % 2912)
c3-split =
    record { begins = λ p h. omega arith; here = λ p h. omega arith; below = λ p h. omega arith; back = λ w j h l. omega arith }

pub c3-places : Places 46 c3_checks
unfolding c3_checks
c3-places = record { within = which-below (λ k. leb 44 k) 46 46 (lit≤ tt); once = which-distinct (λ k. leb 44 k) 46 }
