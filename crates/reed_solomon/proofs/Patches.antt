-- A word with values added at some of its places.
use Rattle.std.proofs.Common.{◌≡◌, ℕ, zero, suc, ◌-◌, ◌*◌, ◌<◌, ◌≤◌, ◌≢◌, List, [], ◌∷◌, map, length, get_or, set, sym, refl, ap, ◌∙◌, subst, ap₂, le_of_suc-le-suc, not-suc-le-zero, mul_comm, arith, lit<, length-set, get_or-set_other}
use lib.Bits.{bit_xor, xor_lt, xor_self, xor_zero_r, xor_assoc, xor_comm}
use Rattle.std.specs.List.{AllByRecursion}
use Rattle.std.proofs.ByRecursion.{All-set}
use Rattle.galois.specs.Galois.{gmul, gpow, alpha}
use Rattle.reed_solomon.specs.Steps.{vsum, patch}
use Rattle.reed_solomon.specs.Words.{syndrome, Bytes, Within, Distinct, Off}
use Rattle.galois.proofs.Laws.{xor-back, gmul-xor-l}
use Rattle.galois.proofs.Powers.{gpow-lt, gpow-mul, alpha-inj}

-- ---- the weights of the places

-- the weight of the place p in a word of n bytes
abbrev pub weight : ℕ → ℕ → ℕ
weight n p = alpha (n - 1 - p)

pub weight-pow : (n p e : ℕ) → gpow (weight n p) e ≡ alpha (e * (n - 1 - p))
weight-pow n p e = sym (gpow-mul 2 (n - 1 - p) e) ∙ ap alpha (mul_comm (n - 1 - p) e)

weight-inj : (n p q : ℕ) → n ≤ 255 → p < n → q < n → weight n q ≡ weight n p → q ≡ p
weight-inj n p q h hp hq e =
    let s : n - 1 - q ≡ n - 1 - p = alpha-inj (n - 1 - q) (n - 1 - p) (omega arith) (omega arith) e in
    omega arith

weights-apart : (n p : ℕ) (qs : List ℕ) → n ≤ 255 → p < n → Within n qs → AllByRecursion (λ q. q ≢ p) qs → AllByRecursion (λ x. x ≢ weight n p) (map (weight n) qs)
weights-apart n p [] h hp w d = tt
weights-apart n p (q ∷ qs) h hp w d = (λ e. d.0 (weight-inj n p q h hp w.0 e), weights-apart n p qs h hp w.1 d.1)

pub distinct-weights : (n : ℕ) (ps : List ℕ) → n ≤ 255 → Within n ps → Distinct ps → Distinct (map (weight n) ps)
distinct-weights n [] h w d = tt
distinct-weights n (p ∷ ps) h w d = (weights-apart n p ps h w.0 w.1 d.0, distinct-weights n ps h w.1 d.1)

pub bytes-weights : (n : ℕ) (ps : List ℕ) → Bytes (map (weight n) ps)
bytes-weights n [] = tt
bytes-weights n (p ∷ ps) = (gpow-lt 2 (n - 1 - p), bytes-weights n ps)

-- ---- one byte written

-- (x + v) * w + x * w is v * w
change : (x v w s : ℕ) → bit_xor (gmul v w) s ≡ bit_xor (bit_xor (gmul x w) s) (gmul (bit_xor x v) w)
change x v w s =
    ap (λ z. bit_xor z s) (sym (xor-back (gmul v w) (gmul x w)) ∙ ap (λ z. bit_xor z (gmul x w)) (xor_comm (gmul v w) (gmul x w)) ∙ xor_comm (bit_xor (gmul x w) (gmul v w)) (gmul x w))
    ∙ xor_assoc (gmul x w) (bit_xor (gmul x w) (gmul v w)) s ∙ ap (bit_xor (gmul x w)) (xor_comm (bit_xor (gmul x w) (gmul v w)) s)
    ∙ sym (xor_assoc (gmul x w) s (bit_xor (gmul x w) (gmul v w))) ∙ ap (bit_xor (bit_xor (gmul x w) s)) (sym (gmul-xor-l x v w))

-- one byte written
pub syn-set : (e : ℕ) (b : List ℕ) (p v : ℕ) → p < length b
    → syndrome e (set b p v) ≡ bit_xor (syndrome e b) (gmul (bit_xor (get_or b p 0) v) (alpha (e * (length b - 1 - p))))
unfolding syndrome
syn-set e [] p v h = absurd (not-suc-le-zero h)
syn-set e (x ∷ xs) zero v h =
    let n : suc (length xs) - 1 - 0 ≡ length xs = omega arith in
    change x v (alpha (e * length xs)) (syndrome e xs)
    ∙ ap (λ m. bit_xor (bit_xor (gmul x (alpha (e * length xs))) (syndrome e xs)) (gmul (bit_xor x v) (alpha (e * m)))) (sym n)
syn-set e (x ∷ xs) (suc p) v h =
    let n : length xs - 1 - p ≡ suc (length xs) - 1 - suc p = omega arith in
    ap₂ (λ m s. bit_xor (gmul x (alpha (e * m))) s) (length-set xs p v) (syn-set e xs p v (le_of_suc-le-suc h))
    ∙ sym (xor_assoc (gmul x (alpha (e * length xs))) (syndrome e xs) (gmul (bit_xor (get_or xs p 0) v) (alpha (e * (length xs - 1 - p)))))
    ∙ ap (λ m. bit_xor (bit_xor (gmul x (alpha (e * length xs))) (syndrome e xs)) (gmul (bit_xor (get_or xs p 0) v) (alpha (e * m)))) n

-- ---- values added

pub byte-at : (b : List ℕ) → Bytes b → (k : ℕ) → get_or b k 0 < 256
byte-at [] h k = lit< tt
byte-at (x ∷ xs) h zero = h.0
byte-at (x ∷ xs) h (suc k) = byte-at xs h.1 k

pub length-patch : (b ps vs : List ℕ) → length (patch b ps vs) ≡ length b
unfolding patch
length-patch b [] vs = refl
length-patch b (p ∷ ps) [] = refl
length-patch b (p ∷ ps) (v ∷ vs) = length-patch (set b p (bit_xor (get_or b p 0) v)) ps vs ∙ length-set b p (bit_xor (get_or b p 0) v)

pub syn-patch : (e n : ℕ) (b ps vs : List ℕ) → length b ≡ n → AllByRecursion (λ p. p < n) ps → syndrome e (patch b ps vs) ≡ bit_xor (syndrome e b) (vsum e (map (λ p. alpha (n - 1 - p)) ps) vs)
unfolding patch vsum
syn-patch e n b [] vs l w = sym (xor_zero_r (syndrome e b))
syn-patch e n b (p ∷ ps) [] l w = sym (xor_zero_r (syndrome e b))
syn-patch e n b (p ∷ ps) (v ∷ vs) l w =
    let b' : List ℕ = set b p (bit_xor (get_or b p 0) v) in
    let m : ℕ = vsum e (map (λ p. alpha (n - 1 - p)) ps) vs in
    let h : p < length b = subst (λ k. p < k) (sym l) w.0 in
    let same : bit_xor (get_or b p 0) (bit_xor (get_or b p 0) v) ≡ v = sym (xor_assoc (get_or b p 0) (get_or b p 0) v) ∙ ap (λ z. bit_xor z v) (xor_self (get_or b p 0)) in
    syn-patch e n b' ps vs (length-set b p (bit_xor (get_or b p 0) v) ∙ l) w.1
    ∙ ap (λ z. bit_xor z m) (syn-set e b p (bit_xor (get_or b p 0) v) h ∙ ap₂ (λ y z. bit_xor (syndrome e b) (gmul y z)) same (ap (λ k. alpha (e * (k - 1 - p))) l ∙ sym (weight-pow n p e)))
    ∙ xor_assoc (syndrome e b) (gmul v (gpow (weight n p) e)) m

patch-else : (b ps vs : List ℕ) (k : ℕ) → AllByRecursion (λ p. k ≢ p) ps → get_or (patch b ps vs) k 0 ≡ get_or b k 0
unfolding patch
patch-else b [] vs k a = refl
patch-else b (p ∷ ps) [] k a = refl
patch-else b (p ∷ ps) (v ∷ vs) k a =
    patch-else (set b p (bit_xor (get_or b p 0) v)) ps vs k a.1 ∙ get_or-set_other b p k (bit_xor (get_or b p 0) v) 0 a.0

pub patch-off : (b ps vs : List ℕ) → Off ps b (patch b ps vs)
patch-off b ps vs = record { size = sym (length-patch b ps vs); same = λ k h a. sym (patch-else b ps vs k a) }

pub patch-bytes : (b ps vs : List ℕ) → Bytes b → Bytes vs → Bytes (patch b ps vs)
unfolding patch
patch-bytes b [] vs hb hv = hb
patch-bytes b (p ∷ ps) [] hb hv = hb
patch-bytes b (p ∷ ps) (v ∷ vs) hb hv =
    let x : ℕ = bit_xor (get_or b p 0) v in
    patch-bytes (set b p x) ps vs (All-set (λ y. y < 256) b p x (xor_lt 8 (get_or b p 0) v (byte-at b hb p) hv.0) hb) hv.1
