use Rattle.std.specs.Prelude.{ℕ, Bool, true, false, List, [], ◌∷◌, map, Some, None, Option}
use Rattle.channel.specs.declared.state.State.{State}

-- The words of bytes in their order, each coded in the state that the word before it left.
abbrev pub encode_all : (State → ℕ → ℕ × State) → State → List ℕ → List ℕ
encode_all f s [] = []
encode_all f s (b ∷ bs) = (f s b).0 ∷ encode_all f (f s b).1 bs

-- The state after the last of these bytes.
abbrev pub state_after : (State → ℕ → ℕ × State) → State → List ℕ → State
state_after f s [] = s
state_after f s (b ∷ bs) = state_after f (f s b).1 bs

-- A byte, or 0 where there is none.
abbrev pub or_zero : Option ℕ → ℕ
or_zero None = 0
or_zero (Some b) = b

-- Whether there is no byte.
abbrev pub is_lost : Option ℕ → Bool
is_lost None = true
is_lost (Some b) = false

-- The bytes of words, 0 for a word that gives none.
abbrev pub decode_all : (ℕ → Option ℕ) → List ℕ → List ℕ
decode_all g ws = map (λ w. or_zero (g w)) ws

-- Which words give no byte.
abbrev pub lost_of : (ℕ → Option ℕ) → List ℕ → List Bool
lost_of g ws = map (λ w. is_lost (g w)) ws
