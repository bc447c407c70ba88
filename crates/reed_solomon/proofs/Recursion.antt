-- The recursion that solves for the values, as the code has it.
use Rattle.std.proofs.Common.{◌≡◌, ℕ, suc, ◌-◌, ◌<◌, ◌≢◌, List, [], ◌∷◌, ◌++◌, length, get_or, take, drop, set, sym, refl, ap, ◌∙◌, subst, ap₂, arith}
use lib.Bits.{bit_xor}
use Rattle.std.proofs.lemmas.List.{drop_all, take_rest, append-nil, length-drop}
use Rattle.std.proofs.ByRecursion.{All-get_or, All-from_get_or}
use borrow.Rule.Slice.PartMut.{put_mid}
use Rattle.reed_solomon.specs.Steps.{xsum, vsum, Swept}
use Rattle.reed_solomon.specs.Words.{Bytes, Distinct}
use Rattle.reed_solomon.proofs.Vandermonde.{Quotients, solved}

-- all but the first
abbrev pub rest : List ℕ → List ℕ
rest xs = take (length xs - 1) (drop 1 xs)

pub put_rest : (k : ℕ) (xs ys : List ℕ) → 0 < length xs → k ≡ length xs - 1 → put_mid 1 k xs ys ≡ get_or xs 0 0 ∷ ys
put_rest k [] ys h e = absurd (omega arith)
put_rest k (x ∷ xs) ys h e = ap (λ z. x ∷ (ys ++ z)) (drop_all k xs (omega arith)) ∙ ap (λ z. x ∷ z) (append-nil ys)

-- t are the sums, s those without the value of the weight x, g the values that have the rest of s, vs these divided, and a their sum
pub solve-whole : (x : ℕ) (ys t s g vs : List ℕ) (a : ℕ) → length t ≡ suc (length ys) → length s ≡ length t → length g ≡ length (rest s) → length vs ≡ length g
    → Distinct (x ∷ ys) → Bytes (x ∷ ys) → get_or t 0 0 < 256 → Swept x t s → ((e : ℕ) → e < length ys → vsum e ys g ≡ get_or (rest s) e 0) → Quotients x ys g vs → a ≡ xsum vs
    → (e : ℕ) → e < suc (length ys)
    → vsum e (x ∷ ys) (set (put_mid 1 (length s - 1) s vs) 0 (bit_xor (get_or (put_mid 1 (length s - 1) s vs) 0 0) a)) ≡ get_or t e 0
solve-whole x ys [] s g vs a lt ls lg lv d b ht sw sums q ea e h = absurd (omega arith)
solve-whole x ys (t₀ ∷ ts) [] g vs a lt ls lg lv d b ht sw sums q ea e h = absurd (omega arith)
solve-whole x ys (t₀ ∷ ts) (z ∷ zs) g vs a lt ls lg lv d b ht sw sums q ea e h =
    let same : rest (z ∷ zs) ≡ zs = take_rest (z ∷ zs) 1 in
    let whole : put_mid 1 (length (z ∷ zs) - 1) (z ∷ zs) vs ≡ z ∷ vs = put_rest (length (z ∷ zs) - 1) (z ∷ zs) vs (omega arith) refl in
    let len : length g ≡ length ys = lg ∙ ap length same ∙ omega arith in
    ap (λ w. vsum e (x ∷ ys) (set w 0 (bit_xor (get_or w 0 0) a))) whole
    ∙ ap₂ (λ v w. vsum e (x ∷ ys) (bit_xor v w ∷ vs)) sw.head ea
    ∙ solved x ys g vs (λ k. get_or (t₀ ∷ ts) k 0) b.0 b.1 d.0 len (lv ∙ len) q
    (λ k l. sums k l ∙ ap (λ w. get_or w k 0) same ∙ sw.tail k (omega arith)) ht e h

pub rest-length : (xs : List ℕ) → length (rest xs) ≡ length xs - 1
rest-length xs = ap length (take_rest xs 1) ∙ length-drop 1 xs

pub distinct-rest : (xs : List ℕ) → Distinct xs → Distinct (rest xs)
distinct-rest [] d = tt
distinct-rest (x ∷ xs) d = subst Distinct (sym (take_rest (x ∷ xs) 1)) d.1

pub rest-apart : (xs : List ℕ) → Distinct xs → (i : ℕ) → i < length (rest xs) → get_or (rest xs) i 0 ≡ get_or xs 0 0 → ⊥
rest-apart [] d i h = absurd (omega arith)
rest-apart (x ∷ xs) d i h =
    let r : rest (x ∷ xs) ≡ xs = take_rest (x ∷ xs) 1 in
    let k : i < length xs = subst (λ w. i < length w) r h in
    subst (λ w. get_or w i 0 ≡ x → ⊥) (sym r) (All-get_or (λ y. y ≢ x) xs i 0 k d.0)

pub rest_put : (s g : List ℕ) → 0 < length s → rest (put_mid 1 (length s - 1) s g) ≡ g
rest_put s g h = ap rest (put_rest (length s - 1) s g h refl) ∙ take_rest (get_or s 0 0 ∷ g) 1

pub bytes-from : (xs : List ℕ) → ((i : ℕ) → get_or xs i 0 < 256) → Bytes xs
bytes-from xs h = All-from_get_or (λ x. x < 256) xs 0 (λ i k. h i)
