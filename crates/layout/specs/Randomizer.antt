-- The randomizer: a register of 15 bits whose output is XORed to the bytes of a sub-group.
use Rattle.std.specs.Prelude.{◌≡◌, ℕ, zero, suc, ◌+◌, ◌*◌, ◌/◌, ◌%◌, ◌<◌, Bool, ◌&&◌, List, [], ◌∷◌, bit_and, bit_xor, count_ones, nat_le}

-- both settings are below 32,768
abbrev pub small : ℕ → ℕ → Bool
small tap start = nat_le tap 32767 && nat_le start 32767

-- one step: the lowest bit goes out, and 16,384 comes in if the register AND the tap has an odd count of ones
unfoldable pub step : ℕ → ℕ → ℕ
step tap reg = reg / 2 + 16384 * (count_ones (bit_and reg tap) % 2)

unfoldable pub steps : ℕ → ℕ → ℕ → ℕ
steps tap zero reg = reg
steps tap (suc k) reg = steps tap k (step tap reg)

-- the number whose k bits, the lowest first, are the next k that go out
unfoldable pub output : ℕ → ℕ → ℕ → ℕ
output tap zero reg = 0
output tap (suc k) reg = reg % 2 + 2 * output tap k (step tap reg)

-- bytes XORed with the register's output, from this register on
unfoldable pub randomized : ℕ → ℕ → List ℕ → List ℕ
randomized tap reg [] = []
randomized tap reg (x ∷ xs) = bit_xor x (output tap 8 reg) ∷ randomized tap (steps tap 8 reg) xs

pub record Randomizes : Type 0 where
  pub twice : (tap start : ℕ) (xs : List ℕ) → randomized tap start (randomized tap start xs) ≡ xs
  pub bytes : (tap reg : ℕ) → output tap 8 reg < 256
  pub example : randomized 3 1 (0 ∷ 0 ∷ []) ≡ 1 ∷ 128 ∷ []
