-- The randomizer's output at each byte, and the bytes of a group.
use Rattle.std.proofs.Common.{◌≡◌, ℕ, zero, suc, ◌+◌, ◌*◌, ◌<◌, List, [], ◌∷◌, ◌++◌, length, get_or, take, drop, set, sym, refl, ap, ◌∙◌, subst, ap₂, inl, inr, mul-one, mul-suc, mul-add, arith, length-drop, take-append-drop, length-take-le, get_or-drop, get_or-set_other, get_or-take, get_or-set_same, ext_get_or}
use lib.Bits.{bit_xor}
use Rattle.std.proofs.lemmas.Bool.{cases_eq}
use Rattle.layout.specs.Counts.{listed}
use Rattle.layout.specs.Randomizer.{steps, output, randomized}
use Rattle.layout.specs.Group.{sign_d, number_d, joined}
use Rattle.layout.proofs.Counts.{length-listed, slice_index-listed}
use Rattle.layout.proofs.Outputs.{randomized-at}
use Rattle.reading.specs.Groups.{place_in, Spread, group_in}

length-randomized : (tap reg : ℕ) (xs : List ℕ) → length (randomized tap reg xs) ≡ length xs
unfolding randomized
length-randomized tap reg [] = refl
length-randomized tap reg (x ∷ xs) = ap suc (length-randomized tap (steps tap 8 reg) xs)

-- lists of one length joined
pub joined_is : (f : ℕ → List ℕ) (w n a : ℕ) (u : List ℕ) → ((k : ℕ) → k < n → length (f (a + k)) ≡ w) → length u ≡ w * n
    → ((k d : ℕ) → k < n → d < w → get_or u (w * k + d) 0 ≡ get_or (f (a + k)) d 0) → u ≡ joined f a n
unfolding joined
joined_is f w zero a u size len at = empty u (len ∙ none w)
  where
    none : (w : ℕ) → w * 0 ≡ 0
    none w = omega arith

    empty : (u : List ℕ) → length u ≡ 0 → u ≡ []
    empty [] e = refl
    empty (x ∷ xs) e = absurd (omega (arith, e))
joined_is f w (suc n) a u size len at = sym (take-append-drop w u) ∙ ap₂ ◌++◌ front (joined_is f w n (a + 1) (drop w u) size' len' at')
  where
    long : length u ≡ w * n + w
    long = len ∙ mul-suc w n

    first : f (a + 0) ≡ f a
    first = let e : a + 0 ≡ a = omega arith in ap f e

    front : take w u ≡ f a
    front =
        ext_get_or 0 (take w u) (f a) (length-take-le w u (omega (arith, long)) ∙ sym (size 0 (omega arith)) ∙ ap length first)
        (λ i h.
        let l : i < w = omega (arith, length-take-le w u (omega (arith, long))) in
        let e : i ≡ w * 0 + i = omega arith in
        get_or-take w u i 0 l ∙ ap (λ z. get_or u z 0) e ∙ at 0 i (omega arith) l ∙ ap (λ z. get_or z i 0) first)

    next : (k : ℕ) → a + (k + 1) ≡ a + 1 + k
    next k = omega arith

    size' : (k : ℕ) → k < n → length (f (a + 1 + k)) ≡ w
    size' k h = ap (λ z. length (f z)) (sym (next k)) ∙ size (k + 1) (omega arith)

    len' : length (drop w u) ≡ w * n
    len' = omega (arith, length-drop w u, long)

    place : (k d : ℕ) → w + (w * k + d) ≡ w * (k + 1) + d
    place k d = omega (arith, mul-add w k 1, mul-one w)

    at' : (k d : ℕ) → k < n → d < w → get_or (drop w u) (w * k + d) 0 ≡ get_or (f (a + 1 + k)) d 0
    at' k d h l = get_or-drop w u (w * k + d) 0 ∙ ap (λ z. get_or u z 0) (place k d) ∙ at (k + 1) d (omega arith) l ∙ ap (λ z. get_or (f z) d 0) (next k)

-- ---- a byte of each sub-group

pub spread-more : (rows xs ys : List ℕ) (d mask f i s n : ℕ) → d < 5756 → f < 22 → length ys ≡ 126632 → s ≡ sign_d d → n ≡ number_d d → i ≡ 5824 * f + (2912 * s + n) → Spread rows xs ys d mask f
    → Spread rows xs (set ys (5756 * f + d) (bit_xor (get_or rows i 0) mask)) d mask (f + 1)
spread-more rows xs ys d mask f i s n hd hf len es en ei p =
    let v : ℕ = bit_xor (get_or rows i 0) mask in
    let at : i ≡ place_in f d = omega (arith, es, en, ei) in
    record {
      here = λ k h.
          elim (cases_eq k f) [
            | inl e ↦ ap (λ z. get_or (set ys (5756 * f + d) v) (5756 * z + d) 0) e ∙ get_or-set_same ys (5756 * f + d) v 0 (omega arith)
                ∙ ap (λ z. bit_xor (get_or rows z 0) mask) at ∙ ap (λ z. bit_xor (get_or rows (place_in z d) 0) mask) (sym e)
            | inr e ↦ get_or-set_other ys (5756 * f + d) (5756 * k + d) v 0 (λ z. e (omega arith)) ∙ p.here k (omega (arith, e))
          ];
      others = λ k e he ne. get_or-set_other ys (5756 * f + d) (5756 * k + e) v 0 (λ z. ne (omega arith)) ∙ p.others k e he ne;
    }

-- the whole group
pub group-is : (tap start : ℕ) (rows group : List ℕ) → length group ≡ 126632
    → ((f e : ℕ) → f < 22 → e < 5756 → get_or group (5756 * f + e) 0 ≡ bit_xor (get_or rows (place_in f e) 0) (output tap 8 (steps tap (8 * e) start)))
    → group ≡ group_in tap start rows
unfolding group_in
group-is tap start rows group len at =
    joined_is (λ f. randomized tap start (listed (λ d. get_or rows (place_in f d) 0) 5756)) 5756 22 0 group
    (λ k h. length-randomized tap start (listed (λ d. get_or rows (place_in (0 + k) d) 0) 5756) ∙ length-listed (λ d. get_or rows (place_in (0 + k) d) 0) 5756)
    len
    (λ k d h l.
    let z : 0 + k ≡ k = omega arith in
    at k d h l ∙ ap (λ k. bit_xor (get_or rows (place_in k d) 0) (output tap 8 (steps tap (8 * d) start))) (sym z)
    ∙ ap (λ v. bit_xor v (output tap 8 (steps tap (8 * d) start))) (sym (slice_index-listed (λ d. get_or rows (place_in (0 + k) d) 0) 5756 d l))
    ∙ sym (randomized-at tap start (listed (λ d. get_or rows (place_in (0 + k) d) 0) 5756) d (subst (λ n. d < n) (sym (length-listed (λ d. get_or rows (place_in (0 + k) d) 0) 5756)) l)))
