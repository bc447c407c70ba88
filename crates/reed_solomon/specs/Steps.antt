-- What the steps of a filling compute.
use Rattle.std.specs.Prelude.{◌≡◌, ℕ, suc, ◌<◌, List, [], ◌∷◌, length, bit_xor, slice_index, slice_index_or, slice_set}
use Rattle.galois.specs.Galois.{gmul, gpow}

-- the sum of the values
unfoldable pub xsum : List ℕ → ℕ
xsum [] = 0
xsum (v ∷ vs) = bit_xor v (xsum vs)

-- the sum of v * x^e over the weights xs and the values vs, place by place
unfoldable pub vsum : ℕ → List ℕ → List ℕ → ℕ
vsum e [] vs = 0
vsum e (x ∷ xs) [] = 0
vsum e (x ∷ xs) (v ∷ vs) = bit_xor (gmul v (gpow x e)) (vsum e xs vs)

-- the values vs are added at the places ps
unfoldable pub patch : List ℕ → List ℕ → List ℕ → List ℕ
patch b [] vs = b
patch b (p ∷ ps) [] = b
patch b (p ∷ ps) (v ∷ vs) = patch (slice_set b p (bit_xor (slice_index b p) v)) ps vs

-- each but the first has x times the one before it added
pub record Swept (x : ℕ) (s s' : List ℕ) : Type 0 where
  pub head : slice_index_or s' 0 0 ≡ slice_index s 0
  pub tail : (e : ℕ) → suc e < length s → slice_index s' (suc e) ≡ bit_xor (slice_index s (suc e)) (gmul x (slice_index s e))
