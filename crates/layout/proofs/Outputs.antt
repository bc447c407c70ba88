-- The register, byte by byte: what goes out next is its low bits.
use Rattle.std.proofs.Common.{◌≡◌, ℕ, zero, suc, ◌+◌, ◌-◌, ◌*◌, ◌/◌, ◌%◌, ◌^◌, ◌<◌, ◌≤◌, List, [], ◌∷◌, length, get_or, sym, refl, ap, ◌∙◌, mul_assoc, pow-suc, arith, lit<, pow_pos, pow-add}
use native.Mathlib.Nat.{mod-one, add-mul-mod_self_left}
use lib.Arith.{mod-mul}
use lib.Bits.{bit_xor, bit_and}
use lib.Count.{ones}
use Rattle.layout.specs.Randomizer.{step, steps, output, randomized}

pub steps-more : (tap k reg : ℕ) → steps tap (suc k) reg ≡ step tap (steps tap k reg)
unfolding steps
steps-more tap zero reg = refl
steps-more tap (suc k) reg = steps-more tap k (step tap reg)

pub steps-add : (tap k n reg : ℕ) → steps tap k (steps tap n reg) ≡ steps tap (n + k) reg
unfolding steps
steps-add tap zero n reg = let e : n ≡ n + 0 = omega arith in ap (λ m. steps tap m reg) e
steps-add tap (suc k) n reg =
    let e : suc n + k ≡ n + suc k = omega arith in
    ap (steps tap k) (sym (steps-more tap n reg)) ∙ steps-add tap k (suc n) reg ∙ ap (λ m. steps tap m reg) e

-- a bit that comes in is not among the next fourteen to go out
out-more : (tap reg k m c : ℕ) → 0 < m → 16384 ≡ m * c → ((r : ℕ) → output tap k r ≡ r % m) → output tap (suc k) reg ≡ reg % (m * 2)
unfolding output step
out-more tap reg k m c h e low =
    let b : ℕ = ones (bit_and reg tap) % 2 in
    let s : 16384 * b ≡ m * (c * b) = ap (λ z. z * b) e ∙ mul_assoc m c b in
    let r : output tap k (reg / 2 + 16384 * b) ≡ reg / 2 % m = low (reg / 2 + 16384 * b) ∙ ap (λ z. (reg / 2 + z) % m) s ∙ add-mul-mod_self_left (reg / 2) m (c * b) in
    let d : reg % (m * 2) ≡ (reg / 2 % m) * 2 + reg % 2 = mod-mul reg h (lit< tt) in
    omega (arith, r, d)

pub out-low : (tap k reg : ℕ) → k ≤ 14 → output tap k reg ≡ reg % 2 ^ k
unfolding output
out-low tap zero reg h = sym (mod-one reg)
out-low tap (suc k) reg h =
    let n : k + (14 - k) ≡ 14 = omega arith in
    out-more tap reg k (2 ^ k) (2 ^ (14 - k)) (pow_pos k) (ap (λ z. 2 ^ z) (sym n) ∙ pow-add 2 k (14 - k)) (λ r. out-low tap k r (omega arith))
    ∙ ap (λ z. reg % z) (sym (pow-suc 2 k))

pub no_steps : (tap reg : ℕ) → reg ≡ steps tap (8 * 0) reg
unfolding steps
no_steps tap reg = refl

-- byte d of a randomized list
pub randomized-at : (tap reg : ℕ) (xs : List ℕ) (d : ℕ) → d < length xs → get_or (randomized tap reg xs) d 0 ≡ bit_xor (get_or xs d 0) (output tap 8 (steps tap (8 * d) reg))
unfolding randomized
randomized-at tap reg [] d h = absurd (omega arith)
randomized-at tap reg (x ∷ xs) zero h = ap (λ r. bit_xor x (output tap 8 r)) (no_steps tap reg)
randomized-at tap reg (x ∷ xs) (suc d) h =
    let e : 8 + 8 * d ≡ 8 * suc d = omega arith in
    randomized-at tap (steps tap 8 reg) xs d (omega arith)
    ∙ ap (λ r. bit_xor (get_or xs d 0) (output tap 8 r)) (steps-add tap (8 * d) 8 reg ∙ ap (λ m. steps tap m reg) e)
