-- Laws of tests over the numbers below a bound.
use Rattle.std.proofs.Common.{◌≡◌, ℕ, zero, suc, ◌+◌, ◌<◌, ◌≤◌, Bool, true, false, cond, ◌≢◌, ◌⊎◌, List, [], ◌∷◌, map, length, get_or, sym, refl, ap, ◌∙◌, subst, ap₂, inl, inr, le_of_suc-le-suc, not-suc-le-zero, eq-or-lt_of_le, arith}
use Rattle.std.specs.List.{AllByRecursion, range_with_len}
use Rattle.std.proofs.ByRecursion.{All-map}
use Rattle.std.proofs.lemmas.Bool.{and_parts, and_from, both_ways}
use Rattle.reed_solomon.specs.Words.{Distinct}
use Rattle.std.proofs.lemmas.List.FromFn.{length-map-range_with_len, get_or-map-range_with_len}
use Rattle.layout.specs.Counts.{every, count, which, listed}

module _ (f : ℕ → Bool) where
  pub every-at : (n : ℕ) → every f n ≡ true → (k : ℕ) → k < n → f k ≡ true
  unfolding every
  every-at zero t k h = absurd (not-suc-le-zero h)
  every-at (suc n) t k h =
      elim (eq-or-lt_of_le (le_of_suc-le-suc h)) [
        | inl e ↦ ap f e ∙ (and_parts (f n) (every f n) t).0
        | inr l ↦ every-at n (and_parts (f n) (every f n) t).1 k l
      ]

  pub every-from : (n : ℕ) → ((k : ℕ) → k < n → f k ≡ true) → every f n ≡ true
  unfolding every
  every-from zero h = refl
  every-from (suc n) h = and_from (f n) (every f n) (h n (omega arith)) (every-from n (λ k l. h k (omega arith)))

  -- what `which` lists
  pub length-which : (n : ℕ) → length (which f n) ≡ count f n
  unfolding which count
  length-which zero = refl
  length-which (suc n) = go (f n) (length-which n)
    where
      go : (t : Bool) → length (which f n) ≡ count f n → length (cond t (n ∷ which f n) (which f n)) ≡ cond t 1 0 + count f n
      go true e = omega (arith, e)
      go false e = omega (arith, e)

  pub which-below : (n k : ℕ) → n ≤ k → AllByRecursion (λ p. p < k) (which f n)
  unfolding which
  which-below zero k h = tt
  which-below (suc n) k h = go (f n) (which-below n k (omega arith))
    where
      go : (t : Bool) → AllByRecursion (λ p. p < k) (which f n) → AllByRecursion (λ p. p < k) (cond t (n ∷ which f n) (which f n))
      go true a = (h, a)
      go false a = a

  apart : (n : ℕ) (ps : List ℕ) → AllByRecursion (λ p. p < n) ps → AllByRecursion (λ p. p ≢ n) ps
  apart n [] a = tt
  apart n (p ∷ ps) a = (let l : p < n = a.0 in λ e. omega arith, apart n ps a.1)

  pub which-distinct : (n : ℕ) → Distinct (which f n)
  unfolding which
  which-distinct zero = tt
  which-distinct (suc n) = go (f n) (apart n (which f n) (which-below n n (omega arith))) (which-distinct n)
    where
      go : (t : Bool) → AllByRecursion (λ p. p ≢ n) (which f n) → Distinct (which f n) → Distinct (cond t (n ∷ which f n) (which f n))
      go true a d = (a, d)
      go false a d = d

  -- what is not listed fails the test
  pub which-else : (n k : ℕ) → k < n → AllByRecursion (λ p. k ≢ p) (which f n) → f k ≡ false
  unfolding which
  which-else zero k h a = absurd (not-suc-le-zero h)
  which-else (suc n) k h a = go (f n) refl a (eq-or-lt_of_le (le_of_suc-le-suc h)) (which-else n k)
    where
      go : (t : Bool) → f n ≡ t → AllByRecursion (λ p. k ≢ p) (cond t (n ∷ which f n) (which f n)) → (k ≡ n) ⊎ (k < n)
          → (k < n → AllByRecursion (λ p. k ≢ p) (which f n) → f k ≡ false) → f k ≡ false
      go true e a (inl i) ih = absurd (a.0 i)
      go true e a (inr l) ih = ih l a.1
      go false e a (inl i) ih = ap f i ∙ e
      go false e a (inr l) ih = ih l a

  pub count_none : (n : ℕ) → count f n ≡ 0 → (k : ℕ) → k < n → f k ≡ false
  unfolding count
  count_none zero e k h = absurd (not-suc-le-zero h)
  count_none (suc n) e k h = go (f n) refl e (eq-or-lt_of_le (le_of_suc-le-suc h)) (λ e. count_none n e k)
    where
      go : (t : Bool) → f n ≡ t → cond t 1 0 + count f n ≡ 0 → (k ≡ n) ⊎ (k < n) → (count f n ≡ 0 → k < n → f k ≡ false) → f k ≡ false
      go true e z c ih = absurd (omega (arith, z))
      go false e z (inl i) ih = ap f i ∙ e
      go false e z (inr l) ih = ih (omega (arith, z)) l

  -- what fails the test is not listed
  pub which-not : (n k : ℕ) → f k ≡ false → AllByRecursion (λ p. k ≢ p) (which f n)
  unfolding which
  which-not zero k e = tt
  which-not (suc n) k e = go (f n) refl (which-not n k e)
    where
      go : (t : Bool) → f n ≡ t → AllByRecursion (λ p. k ≢ p) (which f n) → AllByRecursion (λ p. k ≢ p) (cond t (n ∷ which f n) (which f n))
      go true i a = (λ q. both_ways (f n) (ap f (sym q) ∙ e) i, a)
      go false i a = a

  pub count-upto : (d m n : ℕ) → m + d ≡ n → count f m ≤ count f n
  unfolding count
  count-upto zero m n e = let q : m ≡ n = omega arith in subst (λ k. count f m ≤ count f k) q (omega arith)
  count-upto (suc d) m n e =
      let l : count f m ≤ count f (m + d) = count-upto d m (m + d) refl in
      let q : suc (m + d) ≡ n = omega arith in
      subst (λ k. count f m ≤ count f k) q (omega (arith, l))

-- a test that passes wherever another does passes as often at least
pub count-more : (f g : ℕ → Bool) (n : ℕ) → ((k : ℕ) → k < n → f k ≡ true → g k ≡ true) → count f n ≤ count g n
unfolding count
count-more f g zero h = omega arith
count-more f g (suc n) h = go (f n) (g n) (h n (omega arith)) (count-more f g n (λ k l. h k (omega arith)))
  where
    go : (s t : Bool) → (s ≡ true → t ≡ true) → count f n ≤ count g n → cond s 1 0 + count f n ≤ cond t 1 0 + count g n
    go true true i l = omega (arith, l)
    go true false i l = absurd (both_ways false refl (i refl))
    go false true i l = omega (arith, l)
    go false false i l = omega (arith, l)

-- ---- a list made from a function

pub all-counting : (P : ℕ → Type 0) (a n : ℕ) → ((k : ℕ) → a ≤ k → k < a + n → P k) → AllByRecursion P (range_with_len a n)
all-counting P a zero h = tt
all-counting P a (suc n) h = (h a (omega arith) (omega arith), all-counting P (a + 1) n (λ k l m. h k (omega arith) (omega arith)))

map_same : (f g : ℕ → ℕ) (a n : ℕ) → ((k : ℕ) → a ≤ k → k < a + n → f k ≡ g k) → map f (range_with_len a n) ≡ map g (range_with_len a n)
map_same f g a zero h = refl
map_same f g a (suc n) h = ap₂ (λ y ys. y ∷ ys) (h a (omega arith) (omega arith)) (map_same f g (a + 1) n (λ k l m. h k (omega arith) (omega arith)))

pub length-listed : (f : ℕ → ℕ) (n : ℕ) → length (listed f n) ≡ n
unfolding listed
length-listed f n = length-map-range_with_len f 0 n

pub slice_index-listed : (f : ℕ → ℕ) (n k : ℕ) → k < n → get_or (listed f n) k 0 ≡ f k
unfolding listed
slice_index-listed f n k h = get_or-map-range_with_len f 0 n k k 0 h (omega arith)

pub listed_same : (f g : ℕ → ℕ) (n : ℕ) → ((k : ℕ) → k < n → f k ≡ g k) → listed f n ≡ listed g n
unfolding listed
listed_same f g n h = map_same f g 0 n (λ k l m. h k (omega arith))

pub all_listed : (P : ℕ → Type 0) (f : ℕ → ℕ) (n : ℕ) → ((k : ℕ) → k < n → P (f k)) → AllByRecursion P (listed f n)
unfolding listed
all_listed P f n h = All-map P f (range_with_len 0 n) (all-counting (λ k. P (f k)) 0 n (λ k l m. h k (omega arith)))
