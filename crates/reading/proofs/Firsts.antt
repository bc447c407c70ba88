-- The first number that passes a test, and the places of D bytes.
use Rattle.std.proofs.Common.{◌≡◌, ℕ, zero, suc, ◌+◌, ◌-◌, ◌*◌, ◌/◌, ◌%◌, ◌<◌, ◌≤◌, Bool, true, false, cond, ◌&&◌, ltb, leb, Some, None, sym, refl, ap, ◌∙◌, subst, ap₂, arith}
use Rattle.std.proofs.lemmas.Bool.{cond-true, cond-false, and_from, and_left, and_right, and_parts, le-leb, lt-leb, lt-ltb, le-ltb, leb-true, ltb-true}
use Rattle.layout.specs.Counts.{count}
use Rattle.layout.specs.Group.{first_from}
use Rattle.layout.specs.Placing.{number_at, is_occupied, is_data, block_at, serial_at}
use Rattle.layout.proofs.Placing.{back, fits}

module _ (f : ℕ → Bool) (a n : ℕ) where
  -- one number less, or the answer
  pub first-later : a < n → f a ≡ false → first_from f a (n - a) ≡ first_from f (a + 1) (n - (a + 1))
  unfolding first_from
  first-later h e = let k : n - a ≡ suc (n - (a + 1)) = omega arith in ap (first_from f a) k ∙ cond-false (f a) (Some a) (first_from f (a + 1) (n - (a + 1))) e

  pub first-here : a < n → f a ≡ true → first_from f a (n - a) ≡ Some a
  unfolding first_from
  first-here h e = let k : n - a ≡ suc (n - (a + 1)) = omega arith in ap (first_from f a) k ∙ cond-true (f a) (Some a) (first_from f (a + 1) (n - (a + 1))) e

  pub first-over : n ≤ a → first_from f a (n - a) ≡ None
  unfolding first_from
  first-over h = let k : n - a ≡ 0 = omega arith in ap (first_from f a) k

pub first-same : (f g : ℕ → Bool) (n a : ℕ) → ((k : ℕ) → a ≤ k → k < a + n → f k ≡ g k) → first_from f a n ≡ first_from g a n
unfolding first_from
first-same f g zero a h = refl
first-same f g (suc n) a h =
    ap₂ (λ t o. cond t (Some a) o) (h a (omega arith) (omega arith)) (first-same f g n (a + 1) (λ k l m. h k (omega arith) (omega arith)))

-- what is first lies in the range
pub first_below : (f : ℕ → Bool) (n a k : ℕ) → first_from f a n ≡ Some k → k < a + n
unfolding first_from
first_below f zero a k e = let z : ◌≡◌ {A = ℕ} 0 1 = cc in absurd (omega arith)
first_below f (suc n) a k e = go (f a) e (first_below f n (a + 1) k)
  where
    go : (t : Bool) → cond t (Some a) (first_from f (a + 1) n) ≡ Some k → (first_from f (a + 1) n ≡ Some k → k < a + 1 + n) → k < a + suc n
    go true e ih = let q : a ≡ k = cc in omega arith
    go false e ih = omega (arith, ih e)

pub count_same : (f g : ℕ → Bool) (n : ℕ) → ((k : ℕ) → k < n → f k ≡ g k) → count f n ≡ count g n
unfolding count
count_same f g zero h = refl
count_same f g (suc n) h = ap₂ (λ t m. cond t 1 0 + m) (h n (omega arith)) (count_same f g n (λ k l. h k (omega arith)))

pub count_next : (f : ℕ → Bool) (n m : ℕ) → m ≡ cond (f n) 1 0 + count f n → m ≡ count f (n + 1)
unfolding count
count_next f n m e = let k : suc n ≡ n + 1 = omega arith in e ∙ ap (count f) k

-- ---- data places

module _ (b s : ℕ) where
  pub no-data : is_occupied b s ≡ false → None ≡ cond (is_data b s) (Some (number_at b s)) None
  unfolding is_data
  no-data e = sym (cond-false (is_data b s) (Some (number_at b s)) None (and_left (is_occupied b s) (leb 2 (number_at b s) && ltb (number_at b s) 2880) e))

  pub low-data : (q : ℕ) → q ≡ number_at b s → q < 2 → None ≡ cond (is_data b s) (Some (number_at b s)) None
  unfolding is_data
  low-data q e h =
      sym (cond-false (is_data b s) (Some (number_at b s)) None
      (and_right (is_occupied b s) (leb 2 (number_at b s) && ltb (number_at b s) 2880) (and_left (leb 2 (number_at b s)) (ltb (number_at b s) 2880) (lt-leb 2 (number_at b s) (omega (arith, e))))))

  pub high-data : (q : ℕ) → q ≡ number_at b s → 2880 ≤ q → None ≡ cond (is_data b s) (Some (number_at b s)) None
  unfolding is_data
  high-data q e h =
      sym (cond-false (is_data b s) (Some (number_at b s)) None
      (and_right (is_occupied b s) (leb 2 (number_at b s) && ltb (number_at b s) 2880) (and_right (leb 2 (number_at b s)) (ltb (number_at b s) 2880) (le-ltb (number_at b s) 2880 (omega (arith, e))))))

  data-from : is_occupied b s ≡ true → 2 ≤ number_at b s → number_at b s < 2880 → is_data b s ≡ true
  unfolding is_data
  data-from o l h =
      and_from (is_occupied b s) (leb 2 (number_at b s) && ltb (number_at b s) 2880) o
      (and_from (leb 2 (number_at b s)) (ltb (number_at b s) 2880) (le-leb 2 (number_at b s) l) (lt-ltb (number_at b s) 2880 h))

  pub is-data : (q : ℕ) → is_occupied b s ≡ true → q ≡ number_at b s → 2 ≤ q → q < 2880 → Some q ≡ cond (is_data b s) (Some (number_at b s)) None
  is-data q o e l h = ap Some e ∙ sym (cond-true (is_data b s) (Some (number_at b s)) None (data-from o (omega (arith, e)) (omega (arith, e))))

  pub data-parts : is_data b s ≡ true → (is_occupied b s ≡ true) × (2 ≤ number_at b s) × (number_at b s < 2880)
  unfolding is_data
  data-parts e =
      let p = and_parts (is_occupied b s) (leb 2 (number_at b s) && ltb (number_at b s) 2880) e in
      let r = and_parts (leb 2 (number_at b s)) (ltb (number_at b s) 2880) p.1 in
      (p.0, leb-true 2 (number_at b s) r.0, ltb-true (number_at b s) 2880 r.1)

  -- what a place answers
  pub some-data : (q : ℕ) → Some q ≡ cond (is_data b s) (Some (number_at b s)) None → (is_data b s ≡ true) × (q ≡ number_at b s)
  some-data q e = go (is_data b s) refl e
    where
      go : (t : Bool) → is_data b s ≡ t → Some q ≡ cond t (Some (number_at b s)) None → (is_data b s ≡ true) × (q ≡ number_at b s)
      go true i e = (i, cc)
      go false i e = let z : ◌≡◌ {A = ℕ} 0 1 = cc in absurd (omega arith)

  pub none-data : None ≡ cond (is_data b s) (Some (number_at b s)) None → is_data b s ≡ false
  none-data e = go (is_data b s) refl e
    where
      go : (t : Bool) → is_data b s ≡ t → None ≡ cond t (Some (number_at b s)) None → is_data b s ≡ false
      go true i e = let z : ◌≡◌ {A = ℕ} 0 1 = cc in absurd (omega arith)
      go false i e = i

-- two places have two numbers
pub apart : (i p : ℕ) → i < 4096 → p < 4096 → is_data (i / 32) (i % 32) ≡ true → is_data (p / 32) (p % 32) ≡ true → number_at (i / 32) (i % 32) ≡ number_at (p / 32) (p % 32) → i ≡ p
apart i p hi hp di dp e =
    let a = back (i / 32) (i % 32) (omega arith) (omega arith) (data-parts (i / 32) (i % 32) di).0 in
    let b = back (p / 32) (p % 32) (omega arith) (omega arith) (data-parts (p / 32) (p % 32) dp).0 in
    let u : i / 32 ≡ p / 32 = sym a.1 ∙ ap block_at e ∙ b.1 in
    let v : i % 32 ≡ p % 32 = sym a.2 ∙ ap serial_at e ∙ b.2 in
    omega arith

-- the place of a number
pub data-at : (q : ℕ) → 2 ≤ q → q < 2880
    → (p : ℕ) × (p < 4096) × (is_data (p / 32) (p % 32) ≡ true) × (number_at (p / 32) (p % 32) ≡ q)
data-at q l h =
    let f = fits q (omega arith) in
    let hb : block_at q < 128 = f.0 in
    let hs : serial_at q < 32 = f.1 in
    let u : (32 * block_at q + serial_at q) / 32 ≡ block_at q = omega arith in
    let v : (32 * block_at q + serial_at q) % 32 ≡ serial_at q = omega arith in (
      32 * block_at q + serial_at q,
      omega arith,
      ap₂ is_data u v ∙ data-from (block_at q) (serial_at q) f.2 (subst (λ z. 2 ≤ z) (sym f.3) l) (subst (λ z. z < 2880) (sym f.3) h),
      ap₂ number_at u v ∙ f.3,
    )
