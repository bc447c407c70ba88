-- A rule for every number below a bound, by one test that antt computes: the answer `refl`.
use Rattle.std.proofs.Common.{◌≡◌, ℕ, ◌<◌, true, eqb, ltb}
use Rattle.std.proofs.lemmas.Bool.{agree_below, agree_below_at, eqb-true, ltb-true}

pub at-eq : (f g : ℕ → ℕ) (n : ℕ) → agree_below (λ k. eqb (f k) (g k)) (λ _. true) n ≡ true → (k : ℕ) → k < n → f k ≡ g k
at-eq f g n t k h = eqb-true (f k) (g k) (agree_below_at (λ k. eqb (f k) (g k)) (λ _. true) n k t h)

pub at-lt : (f g : ℕ → ℕ) (n : ℕ) → agree_below (λ k. ltb (f k) (g k)) (λ _. true) n ≡ true → (k : ℕ) → k < n → f k < g k
at-lt f g n t k h = ltb-true (f k) (g k) (agree_below_at (λ k. ltb (f k) (g k)) (λ _. true) n k t h)
