-- Tests over the numbers below a bound.
use Rattle.std.specs.Prelude.{ℕ, zero, suc, ◌+◌, Bool, true, cond, ◌&&◌, List, [], ◌∷◌, map}
use Rattle.std.specs.List.{range_with_len}

-- the test passes at each number below n
unfoldable pub every : (ℕ → Bool) → ℕ → Bool
every f zero = true
every f (suc n) = f n && every f n

-- at how many numbers below n it passes
unfoldable pub count : (ℕ → Bool) → ℕ → ℕ
count f zero = 0
count f (suc n) = cond (f n) 1 0 + count f n

-- at which, the greatest first
unfoldable pub which : (ℕ → Bool) → ℕ → List ℕ
which f zero = []
which f (suc n) = cond (f n) (n ∷ which f n) (which f n)

-- f at each number below n
unfoldable pub listed : (ℕ → ℕ) → ℕ → List ℕ
listed f n = map f (range_with_len 0 n)
