-- What a track reads as.
use Rattle.std.specs.Prelude.{◌≡◌, ℕ, zero, suc, ◌+◌, ◌*◌, ◌/◌, ◌%◌, ◌≤◌, Bool, false, cond, not, ◌&&◌, ◌||◌, List, [], ◌∷◌, ◌++◌, map, length, Some, None, Option, ◌==◌, bit_xor, nat_eq, nat_le, slice_index, slice_set}
use Rattle.std.specs.List.{range_with_len}
use Rattle.reed_solomon.specs.Words.{syndrome, Checks, Bytes, Places, Off}
use Rattle.layout.specs.Counts.{every, which}
use Rattle.layout.specs.Words.{Array, c1, c2, c1_block, c1_serial, wide, row, frame_byte}
use Rattle.channel.specs.Line.{Code}
use Rattle.channel.specs.Listed.{or_zero, is_lost}
use Rattle.layout.specs.Line.{Address, label}

-- ---- filling: the bytes at the places ps with which the word checks to r, if there are any

unfoldable pub checks : ℕ → List ℕ → Bool
checks r b = every (λ e. nat_eq (syndrome e b) 0) r

abbrev pub or_else : {X : Type 0} → Option X → Option X → Option X
or_else None y = y
or_else (Some x) y = Some x

-- an answer at a number below n, if there is one
unfoldable pub any_of : {X : Type 0} → (ℕ → Option X) → ℕ → Option X
any_of f zero = None
any_of f (suc n) = or_else (f n) (any_of f n)

unfoldable pub filling : ℕ → List ℕ → List ℕ → Option (List ℕ)
filling r [] b = cond (checks r b) (Some b) None
filling r (p ∷ ps) b = any_of (λ v. filling r ps (slice_set b p v)) 256

abbrev pub FillingLaw : Type 0
FillingLaw = (r : ℕ) (ps b u : List ℕ) → length b ≤ 255 → Bytes b → Places (length b) ps → length ps ≤ r
    → ((filling r ps b ≡ Some u) → Bytes u × Off ps b u × Checks r u) × (Bytes u → Off ps b u → Checks r u → filling r ps b ≡ Some u)

-- ---- the words of a track

abbrev pub is_byte : ℕ → Option ℕ → Bool
is_byte x None = false
is_byte x (Some y) = y == x

abbrev pub byte_at : ℕ → Option (List ℕ) → ℕ
byte_at j None = 0
byte_at j (Some u) = slice_index u j

abbrev pub cause_of : Option (List ℕ) → ℕ
cause_of None = 3
cause_of (Some u) = 0

pub data Outcome : Type 0 where
  read : List ℕ → Outcome
  lost : ℕ → ℕ → ℕ → Outcome

-- the C2 words of k values of m from m on, in order of m, then n
unfoldable pub words_from : ℕ → ℕ → List (ℕ × ℕ)
words_from m zero = []
words_from m (suc k) = map (λ n. (m, n)) (range_with_len 0 (wide m)) ++ words_from (m + 1) k

abbrev pub order : List (ℕ × ℕ)
order = words_from 0 4

-- w has the words of a track
module _ (c : Code) (t : Address) (w : ℕ → ℕ) where
  unfoldable pub block_lost : ℕ → Bool
  block_lost b =
      not ((w (36 * b) == 273 || w (36 * b) == 785) && is_byte (label t b) (c.decode (w (36 * b + 1))) && is_byte b (c.decode (w (36 * b + 2)))
      && is_byte (bit_xor (label t b) b) (c.decode (w (36 * b + 3))))

  unfoldable pub byte_lost : ℕ → ℕ → Bool
  byte_lost b s = block_lost b || is_lost (c.decode (w (36 * b + (4 + s))))

  -- the byte of a word, 0 if it gives none
  unfoldable pub value : Array
  value b s = or_zero (c.decode (w (36 * b + (4 + s))))

  -- C1 word (2h, l) has no lost byte, and checks
  unfoldable pub c1_read : ℕ → ℕ → Bool
  c1_read h l = every (λ j. not (byte_lost (c1_block h j) (c1_serial l j))) 32 && checks 4 (c1 value h l)

  unfoldable pub erased : ℕ → ℕ → Bool
  erased b s = not (c1_read (b / 2) (s % 2))

-- the array x, of which the bytes that are isErased are lost
module _ (isErased : ℕ → ℕ → Bool) (x : Array) where
  -- the lost places of C2 word (m, n), and its filling
  unfoldable pub erasures : ℕ → ℕ → List ℕ
  erasures m n = which (λ j. isErased (m + 4 * j) n) 32

  unfoldable pub filled : ℕ → ℕ → Option (List ℕ)
  filled m n = filling 6 (erasures m n) (c2 x m n)

  -- the array after filling, where it was filled
  unfoldable pub corrected : Array
  corrected b s = byte_at (b / 4) (filled (b % 4) s)

  -- the cause of a C2 word that is not filled, or 0
  unfoldable pub cause : ℕ → ℕ → ℕ
  cause m n = cond (nat_le (length (erasures m n)) 6) (cause_of (filled m n)) 2

  -- the first C2 word of a list that is not filled; else word 0 is judged
  unfoldable pub judged : ℕ → List (ℕ × ℕ) → Outcome
  judged f [] = cond (corrected 0 0 == frame_byte f && corrected 0 2 == 0) (read (row corrected)) (lost 4 0 0)
  judged f (p ∷ ps) = cond (cause p.0 p.1 == 0) (judged f ps) (lost (cause p.0 p.1) p.0 p.1)

-- what a track with the words w reads as
unfoldable pub reading : Code → Address → (ℕ → ℕ) → Outcome
reading c t w = judged (erased c t w) (value c t w) t.frame order
