-- The check sums repeat after 255 exponents, so that 255 of them are all.
use Rattle.std.proofs.Common.{◌≡◌, ℕ, ◌*◌, ◌%◌, ◌<◌, min, List, [], ◌∷◌, length, sym, refl, ap, ◌∙◌, ap₂, mod-lt, mul_comm, arith, lit<}
use native.Mathlib.Decide.{dec_lt}
use lib.Bits.{bit_xor}
use Rattle.galois.specs.Galois.{gmul, alpha}
use Rattle.reed_solomon.specs.Words.{syndrome, Checks, Filled, Refused}
use Rattle.galois.proofs.Powers.{alpha-mod, alpha-mod-mul}

pub syndrome-mod : (e : ℕ) (b : List ℕ) → syndrome (e % 255) b ≡ syndrome e b
unfolding syndrome
syndrome-mod e [] = refl
syndrome-mod e (x ∷ xs) =
    let n : ℕ = length xs in
    ap₂ (λ w s. bit_xor (gmul x w) s)
    (ap alpha (mul_comm (e % 255) n) ∙ sym (alpha-mod (n * (e % 255))) ∙ alpha-mod-mul n e ∙ ap alpha (mul_comm n e)) (syndrome-mod e xs)

pub checks-all : (r : ℕ) (b : List ℕ) → Checks (min r 255) b → Checks r b
checks-all r b c e h = go (dec_lt r 255)
  where
    go : Dec (r < 255) → syndrome e b ≡ 0
    go (yes l) = c e (omega arith)
    go (no g) = let m : e % 255 < 255 = mod-lt e (lit< tt) in sym (syndrome-mod e b) ∙ c (e % 255) (omega arith)

pub checks-less : (r : ℕ) (b : List ℕ) → Checks r b → Checks (min r 255) b
checks-less r b c e h = c e (omega arith)

pub filled-all : (r : ℕ) (ps b u : List ℕ) → Filled (min r 255) ps b u → Filled r ps b u
filled-all r ps b u f = record { off = f.off; checks = checks-all r u f.checks }

pub refused_all : (r : ℕ) (ps b u : List ℕ) → Refused (min r 255) ps b u → Refused r ps b u
refused_all r ps b u f = record { same = f.same; none = λ w h g. f.none w h (record { off = g.off; checks = checks-less r w g.checks }) }
