-- The laws of the field of 256 elements.
use Rattle.std.proofs.Common.{◌≡◌, ℕ, zero, suc, ◌*◌, ◌/◌, ◌%◌, ◌<◌, ◌≢◌, ◌⊎◌, sym, refl, ap, ◌∙◌, subst, ap₂, inl, inr, add-zero, mod-lt, mod-eq_of_lt, one-mul, mul-zero, zero-mul, arith, lit<}
use lib.Bits.{bit_xor, xor_lt, xor_mod, xor_shr, xor_block, xor_assoc, xor_comm, xor_self, xor_zero_r}
use Rattle.galois.specs.Galois.{xtime, horner, gmul}
use Rattle.galois.proofs.Below.{at-eq}

-- ---- xor

pub xor-swap : (a b c d : ℕ) → bit_xor (bit_xor a b) (bit_xor c d) ≡ bit_xor (bit_xor a c) (bit_xor b d)
xor-swap a b c d =
    xor_assoc a b (bit_xor c d)
    ∙ ap (λ x. bit_xor a x) (sym (xor_assoc b c d) ∙ ap (λ x. bit_xor x d) (xor_comm b c) ∙ xor_assoc c b d)
    ∙ sym (xor_assoc a c (bit_xor b d))

xor-dbl : (a b : ℕ) → bit_xor a b * 2 ≡ bit_xor (a * 2) (b * 2)
xor-dbl a b =
    sym (add-zero (bit_xor a b * 2)) ∙ sym (xor_block 1 a b 0 0 (lit< tt) (lit< tt))
    ∙ ap₂ bit_xor (add-zero (a * 2)) (add-zero (b * 2))

pub xor-back : (a b : ℕ) → bit_xor (bit_xor a b) b ≡ a
xor-back a b = xor_assoc a b b ∙ ap (bit_xor a) (xor_self b) ∙ xor_zero_r a

pub xor-cancel : (a b c : ℕ) → bit_xor a c ≡ bit_xor b c → a ≡ b
xor-cancel a b c e = sym (xor-back a c) ∙ ap (λ x. bit_xor x c) e ∙ xor-back b c

pub xor_same : (a b : ℕ) → bit_xor a b ≡ 0 → a ≡ b
xor_same a b e = xor-cancel a b b (e ∙ sym (xor_self b))

pub xor-differ : (a b : ℕ) → a ≢ b → 0 < bit_xor a b
xor-differ a b h = go (bit_xor a b) refl
  where
    go : (x : ℕ) → bit_xor a b ≡ x → 0 < x
    go zero e = absurd (h (xor_same a b e))
    go (suc x) e = omega arith

-- ---- a bit times a number

-- a bit is 0 or 1
bit : (c : ℕ) → (c % 2 ≡ 0) ⊎ (c % 2 ≡ 1)
bit c = go (c % 2) (mod-lt c (lit< tt))
  where
    go : (d : ℕ) → d < 2 → (d ≡ 0) ⊎ (d ≡ 1)
    go zero h = inl refl
    go (suc d) h = inr (omega arith)

-- what holds of 0 and 1 holds of a bit
bit-ind : (P : ℕ → Type 0) (c : ℕ) → P 0 → P 1 → P (c % 2)
bit-ind P c p q = elim (bit c) [ inl e ↦ subst P (sym e) p | inr e ↦ subst P (sym e) q ]

bit-xor-l : (c a b : ℕ) → c % 2 * bit_xor a b ≡ bit_xor (c % 2 * a) (c % 2 * b)
bit-xor-l c a b =
    bit-ind (λ (x : ℕ). x * bit_xor a b ≡ bit_xor (x * a) (x * b)) c
    (simp zero-mul) (simp one-mul)

bit-xor-r : (c d a : ℕ) → bit_xor (c % 2) (d % 2) * a ≡ bit_xor (c % 2 * a) (d % 2 * a)
bit-xor-r c d a =
    bit-ind (λ (x : ℕ). bit_xor x (d % 2) * a ≡ bit_xor (x * a) (d % 2 * a)) c
    (simp zero-mul)
    (bit-ind (λ (y : ℕ). bit_xor 1 y * a ≡ bit_xor (1 * a) (y * a)) d
    (simp (one-mul, zero-mul, xor_zero_r)) (simp (one-mul, zero-mul, xor_self)))

-- ---- xtime

pub xtime-xor : (a b : ℕ) → xtime (bit_xor a b) ≡ bit_xor (xtime a) (xtime b)
unfolding xtime
xtime-xor a b =
    ap₂ bit_xor
    (ap (λ (x : ℕ). x % 256) (xor-dbl a b) ∙ xor_mod (a * 2) (b * 2) 8)
    (ap (λ (x : ℕ). x % 2 * 29) (xor_shr a b 7) ∙ ap (λ (x : ℕ). x * 29) (xor_mod (a / 128) (b / 128) 1) ∙ bit-xor-r (a / 128) (b / 128) 29)
    ∙ xor-swap (a * 2 % 256) (b * 2 % 256) (a / 128 % 2 * 29) (b / 128 % 2 * 29)

pub xtime-lt : (a : ℕ) → xtime a < 256
unfolding xtime
xtime-lt a = xor_lt 8 (a * 2 % 256) (a / 128 % 2 * 29) (mod-lt (a * 2) (lit< tt)) (bit-ind (λ (x : ℕ). x * 29 < 256) (a / 128) (lit< tt) (lit< tt))

xtime-zero : xtime 0 ≡ 0
unfolding xtime
xtime-zero = refl

bit-xtime : (c a : ℕ) → c % 2 * xtime a ≡ xtime (c % 2 * a)
bit-xtime c a = bit-ind (λ (x : ℕ). x * xtime a ≡ xtime (x * a)) c (simp (zero-mul, xtime-zero)) (simp one-mul)

-- ---- horner

pub horner-lt : (k a b : ℕ) → a < 256 → horner k a b < 256
unfolding horner
horner-lt zero a b h = lit< tt
horner-lt (suc k) a b h =
    xor_lt 8 (b % 2 * a) (xtime (horner k a (b / 2))) (bit-ind (λ (x : ℕ). x * a < 256) b (rw zero-mul (lit< tt)) (rw one-mul h)) (xtime-lt (horner k a (b / 2)))

pub horner-xor : (k a b c : ℕ) → horner k (bit_xor a b) c ≡ bit_xor (horner k a c) (horner k b c)
unfolding horner
horner-xor zero a b c = refl
horner-xor (suc k) a b c =
    ap₂ bit_xor (bit-xor-l c a b) (ap xtime (horner-xor k a b (c / 2)) ∙ xtime-xor (horner k a (c / 2)) (horner k b (c / 2)))
    ∙ xor-swap (c % 2 * a) (c % 2 * b) (xtime (horner k a (c / 2))) (xtime (horner k b (c / 2)))

pub horner-zero : (k c : ℕ) → horner k 0 c ≡ 0
unfolding horner
horner-zero zero c = refl
horner-zero (suc k) c = ap₂ bit_xor (mul-zero (c % 2)) (ap xtime (horner-zero k (c / 2)) ∙ xtime-zero)

pub horner-xtime : (k a c : ℕ) → horner k (xtime a) c ≡ xtime (horner k a c)
unfolding horner
horner-xtime zero a c = sym xtime-zero
horner-xtime (suc k) a c =
    ap₂ bit_xor (bit-xtime c a) (ap xtime (horner-xtime k a (c / 2)))
    ∙ sym (xtime-xor (c % 2 * a) (xtime (horner k a (c / 2))))

horner-bit : (k d a c : ℕ) → horner k (d % 2 * a) c ≡ d % 2 * horner k a c
horner-bit k d a c = bit-ind (λ (x : ℕ). horner k (x * a) c ≡ x * horner k a c) d (simp (zero-mul, horner-zero)) (simp one-mul)

-- two products by numbers on the right go in either order
pub horner-swap : (k m c a b : ℕ) → horner m (horner k c b) a ≡ horner k (horner m c a) b
unfolding horner
horner-swap zero m c a b = horner-zero m a
horner-swap (suc k) m c a b =
    horner-xor m (b % 2 * c) (xtime (horner k c (b / 2))) a
    ∙ ap₂ bit_xor (horner-bit m b c a) (horner-xtime m (horner k c (b / 2)) a ∙ ap xtime (horner-swap k m c a (b / 2)))

-- 1 is the unit: 256 computed cases
pub horner-one : (b : ℕ) → b < 256 → horner 8 1 b ≡ b
unfolding horner xtime
horner-one b h = at-eq (λ b. horner 8 1 b) (λ b. b) 256 refl b h

-- ---- gmul

low : (a : ℕ) → a % 256 < 256
low a = mod-lt a (lit< tt)

pub gmul-lt : (a b : ℕ) → gmul a b < 256
unfolding gmul
gmul-lt a b = horner-lt 8 (a % 256) (b % 256) (low a)

gmul-mod : (a b : ℕ) → gmul a b % 256 ≡ gmul a b
gmul-mod a b = mod-eq_of_lt (gmul-lt a b)

pub gmul-comm : (a b : ℕ) → gmul a b ≡ gmul b a
unfolding gmul
gmul-comm a b =
    ap (λ x. horner 8 x (b % 256)) (sym (horner-one (a % 256) (low a)))
    ∙ horner-swap 8 8 1 (b % 256) (a % 256)
    ∙ ap (λ x. horner 8 x (a % 256)) (horner-one (b % 256) (low b))

pub gmul-swap : (a b c : ℕ) → gmul (gmul a b) c ≡ gmul (gmul a c) b
unfolding gmul
gmul-swap a b c =
    ap (λ x. horner 8 x (c % 256)) (gmul-mod a b)
    ∙ horner-swap 8 8 (a % 256) (c % 256) (b % 256)
    ∙ ap (λ x. horner 8 x (b % 256)) (sym (gmul-mod a c))

pub gmul-assoc : (a b c : ℕ) → gmul (gmul a b) c ≡ gmul a (gmul b c)
gmul-assoc a b c = ap (λ x. gmul x c) (gmul-comm a b) ∙ gmul-swap b a c ∙ gmul-comm (gmul b c) a

pub gmul-xor-l : (a b c : ℕ) → gmul (bit_xor a b) c ≡ bit_xor (gmul a c) (gmul b c)
unfolding gmul
gmul-xor-l a b c = ap (λ x. horner 8 x (c % 256)) (xor_mod a b 8) ∙ horner-xor 8 (a % 256) (b % 256) (c % 256)

pub gmul-xor-r : (a b c : ℕ) → gmul a (bit_xor b c) ≡ bit_xor (gmul a b) (gmul a c)
gmul-xor-r a b c = gmul-comm a (bit_xor b c) ∙ gmul-xor-l b c a ∙ ap₂ bit_xor (gmul-comm b a) (gmul-comm c a)

pub gmul-one-l : (a : ℕ) → a < 256 → gmul 1 a ≡ a
unfolding gmul
gmul-one-l a h = ap (horner 8 1) (mod-eq_of_lt h) ∙ horner-one a h

pub gmul-one-r : (a : ℕ) → a < 256 → gmul a 1 ≡ a
gmul-one-r a h = gmul-comm a 1 ∙ gmul-one-l a h

pub gmul-zero-l : (a : ℕ) → gmul 0 a ≡ 0
unfolding gmul
gmul-zero-l a = horner-zero 8 (a % 256)

pub gmul-zero-r : (a : ℕ) → gmul a 0 ≡ 0
gmul-zero-r a = gmul-comm a 0 ∙ gmul-zero-l a
