-- The placing is a bijection, by computed tests.
use Rattle.std.proofs.Common.{◌≡◌, ℕ, ◌+◌, ◌-◌, ◌*◌, ◌/◌, ◌%◌, ◌<◌, Bool, true, not, ◌&&◌, ◌||◌, eqb, ltb, refl, ap, subst, ap₂, subst₂, inl, inr, arith}
use Rattle.std.proofs.lemmas.Bool.{and_parts, or_cases, eqb-true, ltb-true, both_ways, not-true}
use Rattle.layout.specs.Counts.{every}
use Rattle.layout.specs.Placing.{sign, block, serial, place, place_d, Place, block_at, serial_at, number_at, is_c1_check, is_c2_check, is_occupied, is_header, is_data, is_zero, one, Places-fit, Bijection}
use Rattle.layout.proofs.Counts.{every-at}

-- each number of a row
fit_test : ℕ → Bool
fit_test q = ltb (block_at q) 128 && ltb (serial_at q) 32 && is_occupied (block_at q) (serial_at q) && eqb (number_at (block_at q) (serial_at q)) q

-- each place
back_test : ℕ → Bool
back_test p =
    (not (is_occupied (p / 32) (p % 32))
    || (ltb (number_at (p / 32) (p % 32)) 2912 && eqb (block_at (number_at (p / 32) (p % 32))) (p / 32) && eqb (serial_at (number_at (p / 32) (p % 32))) (p % 32)))
    && eqb (one (is_header (p / 32) (p % 32)) + one (is_data (p / 32) (p % 32)) + one (is_zero (p / 32) (p % 32)) + one (is_c2_check (p / 32) (p % 32)) + one (is_c1_check (p / 32) (p % 32))) 1

fit-test : every fit_test 2912 ≡ true
unfolding every fit_test block_at serial_at number_at is_occupied block serial is_c1_check
fit-test = refl

back-test : every back_test 4096 ≡ true
unfolding every back_test block_at serial_at number_at is_occupied block serial is_c1_check is_header is_data is_zero is_c2_check
back-test = refl

pub fits : (q : ℕ) → q < 2912 → (block_at q < 128) × (serial_at q < 32) × (is_occupied (block_at q) (serial_at q) ≡ true) × (number_at (block_at q) (serial_at q) ≡ q)
unfolding fit_test
fits q h =
    let b : ℕ = block_at q in
    let s : ℕ = serial_at q in
    let t = and_parts (ltb b 128 && ltb s 32 && is_occupied b s) (eqb (number_at b s) q) (every-at fit_test 2912 fit-test q h) in
    let t1 = and_parts (ltb b 128 && ltb s 32) (is_occupied b s) t.0 in
    let t2 = and_parts (ltb b 128) (ltb s 32) t1.0 in
    (ltb-true b 128 t2.0, ltb-true s 32 t2.1, t1.1, eqb-true (number_at b s) q t.1)

-- the place of number 32b + s
both-tests : (b s : ℕ) → b < 128 → s < 32
    → ((not (is_occupied b s) || (ltb (number_at b s) 2912 && eqb (block_at (number_at b s)) b && eqb (serial_at (number_at b s)) s)) ≡ true)
    × (eqb (one (is_header b s) + one (is_data b s) + one (is_zero b s) + one (is_c2_check b s) + one (is_c1_check b s)) 1 ≡ true)
unfolding back_test
both-tests b s hb hs =
    let eb : (32 * b + s) / 32 ≡ b = omega arith in
    let es : (32 * b + s) % 32 ≡ s = omega arith in
    subst₂ (λ b s.
    ((not (is_occupied b s) || (ltb (number_at b s) 2912 && eqb (block_at (number_at b s)) b && eqb (serial_at (number_at b s)) s)) ≡ true)
    × (eqb (one (is_header b s) + one (is_data b s) + one (is_zero b s) + one (is_c2_check b s) + one (is_c1_check b s)) 1 ≡ true)) eb es
    (and_parts _ _ (every-at back_test 4096 back-test (32 * b + s) (omega arith)))

pub kinds : (b s : ℕ) → b < 128 → s < 32 → one (is_header b s) + one (is_data b s) + one (is_zero b s) + one (is_c2_check b s) + one (is_c1_check b s) ≡ 1
kinds b s hb hs = eqb-true (one (is_header b s) + one (is_data b s) + one (is_zero b s) + one (is_c2_check b s) + one (is_c1_check b s)) 1 (both-tests b s hb hs).1

pub back : (b s : ℕ) → b < 128 → s < 32 → is_occupied b s ≡ true → (number_at b s < 2912) × (block_at (number_at b s) ≡ b) × (serial_at (number_at b s) ≡ s)
back b s hb hs o =
    let q : ℕ = number_at b s in
    let all : (ltb q 2912 && eqb (block_at q) b && eqb (serial_at q) s) ≡ true =
    elim (or_cases (not (is_occupied b s)) (ltb q 2912 && eqb (block_at q) b && eqb (serial_at q) s) (both-tests b s hb hs).0) [
      | inl e ↦ absurd (both_ways (is_occupied b s) (not-true (is_occupied b s) e) o)
      | inr e ↦ e
    ] in
    let t = and_parts (ltb q 2912 && eqb (block_at q) b) (eqb (serial_at q) s) all in
    let t1 = and_parts (ltb q 2912) (eqb (block_at q) b) t.0 in
    (ltb-true q 2912 t1.0, eqb-true (block_at q) b t1.1, eqb-true (serial_at q) s t.1)

pub places-fit : Places-fit
unfolding place_d place sign block serial
places-fit = record { fits = fits; back = back; kinds = kinds; first = refl; last = refl }

number-block : (i u : ℕ) → u < 2 → block_at (2 * i + (1 - u)) ≡ block i
unfolding block_at
number-block i u h = let e : (2 * i + (1 - u)) / 2 ≡ i = omega arith in ap block e

number-serial : (i u : ℕ) → u < 2 → serial_at (2 * i + (1 - u)) ≡ serial i u
unfolding serial_at
number-serial i u h =
    let e : (2 * i + (1 - u)) / 2 ≡ i = omega arith in
    let d : 1 - (2 * i + (1 - u)) % 2 ≡ u = omega arith in
    ap₂ serial e d

into : (i a u : ℕ) → i < 1456 → a < 2 → u < 2 → (sign i a < 2) × (block i < 128) × (serial i u < 32) × (is_occupied (block i) (serial i u) ≡ true)
unfolding sign
into i a u hi ha hu =
    let f = fits (2 * i + (1 - u)) (omega arith) in
    let eb = number-block i u hu in
    let es = number-serial i u hu in
    (omega arith, subst (λ b. b < 128) eb f.0, subst (λ s. s < 32) es f.1, subst₂ (λ b s. is_occupied b s ≡ true) eb es f.2)

number_of : (i u : ℕ) → i < 1456 → u < 2 → number_at (block i) (serial i u) ≡ 2 * i + (1 - u)
number_of i u hi hu =
    subst₂ (λ b s. number_at b s ≡ 2 * i + (1 - u)) (number-block i u hu) (number-serial i u hu) (fits (2 * i + (1 - u)) (omega arith)).3

again : (i a u : ℕ) → i < 1456 → a < 2 → u < 2
    → (number_at (block i) (serial i u) / 2 ≡ i) × (1 - number_at (block i) (serial i u) % 2 ≡ u) × ((sign i a + number_at (block i) (serial i u) / 2) % 2 ≡ a)
unfolding sign
again i a u hi ha hu =
    let e = number_of i u hi hu in
    (omega (arith, e), omega (arith, e), omega (arith, e))

same_place : {g g' b b' s s' : ℕ} → g ≡ g' → b ≡ b' → s ≡ s' → ◌≡◌ {A = Place} (record { sign = g; block = b; serial = s }) (record { sign = g'; block = b'; serial = s' })
same_place p q r = λ i. record { sign = p i; block = q i; serial = r i }

onto : (g b s : ℕ) → g < 2 → b < 128 → s < 32 → is_occupied b s ≡ true
    → (i : ℕ) × (a : ℕ) × (u : ℕ) × (i < 1456) × (a < 2) × (u < 2) × (place i a u ≡ record { sign = g; block = b; serial = s })
unfolding place sign block_at serial_at
onto g b s hg hb hs o =
    let q : ℕ = number_at b s in
    let f = back b s hb hs o in
    (q / 2, (g + q / 2) % 2, 1 - q % 2, omega (arith, f.0), omega arith, omega arith, same_place (omega arith) f.1 f.2)

pub bijection : Bijection
bijection = record { into = into; back = again; onto = onto }
