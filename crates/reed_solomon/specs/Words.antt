-- Words of a Reed-Solomon code, and the filling of their lost bytes.
use Rattle.std.specs.Prelude.{◌≡◌, ℕ, zero, suc, ◌-◌, ◌*◌, ◌<◌, ◌≤◌, ◌≢◌, ◌⊎◌, List, [], ◌∷◌, length, Ok, Err, Result, bit_xor, slice_index}
use Rattle.std.specs.List.{AllByRecursion}
use Rattle.reed_solomon.specs.declared.fault.FillFault.{FillFault}
use Rattle.reed_solomon.specs.declared.fault.FillFault.TheVariants.{WordLength, NotAPlace, PlaceTwice, TooManyLost, NoFilling}
use Rattle.galois.specs.Galois.{gmul, alpha}

-- the check sum of the word b_0 .. b_(n-1) at the exponent e: the sum over j of b_j * alpha^(e * (n - 1 - j)), where n - 1 - j bytes stand behind b_j
unfoldable pub syndrome : ℕ → List ℕ → ℕ
syndrome e [] = 0
syndrome e (b ∷ bs) = bit_xor (gmul b (alpha (e * length bs))) (syndrome e bs)

-- the word checks to r: its first r check sums are 0
abbrev pub Checks : ℕ → List ℕ → Type 0
Checks r b = (e : ℕ) → e < r → syndrome e b ≡ 0

abbrev pub Bytes : List ℕ → Type 0
Bytes b = AllByRecursion (λ x. x < 256) b

-- each of these is a place of a word of n bytes
abbrev pub Within : ℕ → List ℕ → Type 0
Within n ps = AllByRecursion (λ p. p < n) ps

-- each of these is named once
abbrev pub Distinct : List ℕ → Type 0
Distinct [] = Unit {0}
Distinct (p ∷ ps) = AllByRecursion (λ q. q ≢ p) ps × Distinct ps

-- places of a word of n bytes, each named once
pub record Places (n : ℕ) (ps : List ℕ) : Type 0 where
  pub within : Within n ps
  pub once : Distinct ps

-- u and v are as long, and differ at most at the places ps
pub record Off (ps u v : List ℕ) : Type 0 where
  pub size : length u ≡ length v
  pub same : (k : ℕ) → k < length u → AllByRecursion (λ p. k ≢ p) ps → slice_index u k ≡ slice_index v k

-- u is b with other bytes at the places ps at most, and checks to r
pub record Filled (r : ℕ) (ps b u : List ℕ) : Type 0 where
  pub off : Off ps b u
  pub checks : Checks r u

-- u is b as it was, since no bytes at the places ps make it check to r
pub record Refused (r : ℕ) (ps b u : List ℕ) : Type 0 where
  pub same : u ≡ b
  pub none : (w : List ℕ) → Bytes w → Filled r ps b w → ⊥

-- the bytes of b at the places ps can be filled, if there are values for them
pub record Fit (r : ℕ) (ps b : List ℕ) : Type 0 where
  pub size : length b ≤ 255
  pub places : Places (length b) ps
  pub few : length ps ≤ r

-- the filling of the places ps of the word b to r: what each answer says of b, and of the word u that it leaves.
-- The declines are in the order of checking.
abbrev pub Fills : ℕ → List ℕ → List ℕ → List ℕ → Result (Unit {0}) FillFault → Type 0
Fills r ps b u (Ok _) = Fit r ps b × Filled r ps b u
Fills r ps b u (Err WordLength) = (255 < length b) × (u ≡ b)
Fills r ps b u (Err NotAPlace) = (length b ≤ 255) × (Within (length b) ps → ⊥) × (u ≡ b)
Fills r ps b u (Err PlaceTwice) = (length b ≤ 255) × Within (length b) ps × (Distinct ps → ⊥) × (u ≡ b)
Fills r ps b u (Err TooManyLost) = (length b ≤ 255) × Places (length b) ps × (r < length ps) × (u ≡ b)
Fills r ps b u (Err NoFilling) = Fit r ps b × Refused r ps b u

-- the same for a code with words of n bytes: another length is declined first
abbrev pub CodeFills : ℕ → ℕ → List ℕ → List ℕ → List ℕ → Result (Unit {0}) FillFault → Type 0
CodeFills n r ps b u a = ((length b ≢ n) × (a ≡ Err WordLength) × (u ≡ b)) ⊎ ((length b ≡ n) × Fills r ps b u a)

-- ---- theorems

-- the sum of f over the numbers below n
unfoldable pub sum_to : (ℕ → ℕ) → ℕ → ℕ
sum_to f zero = 0
sum_to f (suc n) = bit_xor (sum_to f n) (f n)

-- a check sum is the sum over the places
abbrev pub ByPlaces : Type 0
ByPlaces = (e : ℕ) (b : List ℕ) → syndrome e b ≡ sum_to (λ j. gmul (slice_index b j) (alpha (e * (length b - 1 - j)))) (length b)

-- two words that check to r and differ at r places at most are equal
abbrev pub Distance : Type 0
Distance = (r : ℕ) (ps u v : List ℕ) → length u ≤ 255 → Bytes u → Bytes v → Places (length u) ps → length ps ≤ r → Off ps u v → Checks r u → Checks r v → u ≡ v

-- a filling is unique
abbrev pub Unique : Type 0
Unique = (r : ℕ) (ps b u v : List ℕ) → Fit r ps b → Bytes u → Bytes v → Filled r ps b u → Filled r ps b v → u ≡ v

-- at exactly r lost places there is always a filling
abbrev pub Fillable : Type 0
Fillable = (ps b : List ℕ) → length b ≤ 255 → Bytes b → Places (length b) ps → (u : List ℕ) × Bytes u × Filled (length ps) ps b u
