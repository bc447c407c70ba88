-- The randomizer undoes itself.
use Rattle.std.proofs.Common.{◌≡◌, ℕ, zero, suc, ◌^◌, ◌<◌, List, [], ◌∷◌, refl, ap, ◌∙◌, ap₂, pow-suc, arith}
use lib.Bits.{bit_xor, xor_assoc, xor_self, xor_zero_r}
use lib.Count.{ones}
use Rattle.layout.specs.Randomizer.{step, steps, output, randomized, Randomizes}

xor-back : (x m : ℕ) → bit_xor (bit_xor x m) m ≡ x
xor-back x m = xor_assoc x m m ∙ ap (bit_xor x) (xor_self m) ∙ xor_zero_r x

pub twice : (tap reg : ℕ) (xs : List ℕ) → randomized tap reg (randomized tap reg xs) ≡ xs
unfolding randomized
twice tap reg [] = refl
twice tap reg (x ∷ xs) = ap₂ (λ y ys. y ∷ ys) (xor-back x (output tap 8 reg)) (twice tap (steps tap 8 reg) xs)

pub output-lt : (tap k reg : ℕ) → output tap k reg < 2 ^ k
unfolding output
output-lt tap zero reg = omega arith
output-lt tap (suc k) reg = let h : output tap k (step tap reg) < 2 ^ k = output-lt tap k (step tap reg) in simp pow-suc (omega (arith, h))

pub randomizes : Randomizes
unfolding randomized output step steps ones
randomizes = record { twice = twice; bytes = λ tap reg. output-lt tap 8 reg; example = refl }
