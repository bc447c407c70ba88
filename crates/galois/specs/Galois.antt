-- The field of 256 elements: a byte is a polynomial over {0, 1} of degree below 8, bit i the coefficient of x^i.
-- Products are reduced modulo x^8 + x^4 + x^3 + x^2 + 1 (0x11D), and the sum is bitXor.
use Rattle.std.specs.Prelude.{◌≡◌, ℕ, zero, suc, ◌*◌, ◌/◌, ◌%◌, ◌<◌, cond, ◌⊎◌, bit_xor, nat_lt}

-- x times a polynomial of degree below 8: shifted left by one; if x^8 arises, x^4 + x^3 + x^2 + 1 (29) stands for it
unfoldable pub xtime : ℕ → ℕ
xtime a = bit_xor (a * 2 % 256) (a / 128 % 2 * 29)

-- the sum of x^i * a over the k low bits i of b that are set, by Horner's rule
unfoldable pub horner : ℕ → ℕ → ℕ → ℕ
horner zero a b = 0
horner (suc k) a b = bit_xor (b % 2 * a) (xtime (horner k a (b / 2)))

-- the product of two bytes (of greater numbers: of their low bytes)
unfoldable pub gmul : ℕ → ℕ → ℕ
gmul a b = horner 8 (a % 256) (b % 256)

-- x to the power e
unfoldable pub gpow : ℕ → ℕ → ℕ
gpow x zero = 1
gpow x (suc e) = gmul x (gpow x e)

-- the powers of the polynomial x, the byte 2
abbrev pub alpha : ℕ → ℕ
alpha e = gpow 2 e

-- the inverse of a byte other than 0; 0 at 0
unfoldable pub ginv : ℕ → ℕ
ginv a = gpow a 254

-- the bytes are a field, and 2 has 255 powers in it, all its elements but 0
pub record Field : Type 0 where
  pub closed : (a b : ℕ) → gmul a b < 256
  pub comm : (a b : ℕ) → gmul a b ≡ gmul b a
  pub assoc : (a b c : ℕ) → gmul (gmul a b) c ≡ gmul a (gmul b c)
  pub distrib : (a b c : ℕ) → gmul a (bit_xor b c) ≡ bit_xor (gmul a b) (gmul a c)
  pub unit : (a : ℕ) → a < 256 → gmul 1 a ≡ a
  pub nought : (a : ℕ) → gmul 0 a ≡ 0
  pub inverse : (a : ℕ) → 0 < a → a < 256 → (ginv a < 256) × (gmul a (ginv a) ≡ 1)
  pub whole : (a b : ℕ) → a < 256 → b < 256 → gmul a b ≡ 0 → (a ≡ 0) ⊎ (b ≡ 0)
  pub shift : (a : ℕ) → a < 256 → gmul 2 a ≡ cond (nat_lt a 128) (a * 2) (bit_xor (a * 2) 0x11D)
  pub reduced : alpha 8 ≡ 29
  pub cycle : alpha 255 ≡ 1
  pub distinct : (i j : ℕ) → i < 255 → j < 255 → alpha i ≡ alpha j → i ≡ j
  pub reaches : (a : ℕ) → 0 < a → a < 256 → (i : ℕ) × (i < 255) × (alpha i ≡ a)
