-- The D byte at a place.
use Rattle.std.proofs.Common.{◌≡◌, ℕ, ◌<◌, ◌≤◌, Bool, true, false, cond, ◌&&◌, ltb, leb, Some, None, refl, arith}
use Rattle.std.proofs.lemmas.Bool.Decides.{nat_tests}

-- whether a byte of a row stands there, its number n, and what was answered
pub data-found : (o : Bool) (q n : ℕ) → Some q ≡ cond o (Some n) None → 2 ≤ q → q < 2880 → Some q ≡ cond (o && (leb 2 n && ltb n 2880)) (Some n) None
data-found true q n e l h = let i : q ≡ n = cc in grind (arith, nat_tests)
data-found false q n e l h = cc

pub data-low : (o : Bool) (q n : ℕ) → Some q ≡ cond o (Some n) None → q < 2 → None ≡ cond (o && (leb 2 n && ltb n 2880)) (Some n) None
data-low true q n e l = let i : q ≡ n = cc in grind (arith, nat_tests)
data-low false q n e l = refl

pub data-high : (o : Bool) (q n : ℕ) → Some q ≡ cond o (Some n) None → 2880 ≤ q → None ≡ cond (o && (leb 2 n && ltb n 2880)) (Some n) None
data-high true q n e l = let i : q ≡ n = cc in grind (arith, nat_tests)
data-high false q n e l = refl

pub data-none : (o : Bool) (n : ℕ) → None ≡ cond o (Some n) None → None ≡ cond (o && (leb 2 n && ltb n 2880)) (Some n) None
data-none true n e = let z : ◌≡◌ {A = ℕ} 0 1 = cc in absurd (omega arith)
data-none false n e = refl
