-- Numbers of several bytes, as the code puts them together.
use Rattle.std.proofs.Common.{◌≡◌, ℕ, zero, suc, ◌+◌, ◌*◌, ◌^◌, ◌<◌, Bool, true, false, cond, ◌&&◌, ◌≢◌, List, [], length, get_or, take, drop, sym, refl, ap, ◌∙◌, arith, length-drop, length-take}
use Rattle.index.specs.Bytes.{number, empty}
use Rattle.std.specs.Prelude.{◌↔◌, IsTrue, EachIndex}
use Rattle.std.proofs.lemmas.Bool.{eq-eqb, ne_eqb, eqb-true, and_parts, and_from, false≢true}

pub number-two : (xs : List ℕ) (i : ℕ) → get_or xs i 0 * 256 + get_or xs (i + 1) 0 ≡ number 2 i xs
unfolding number
number-two xs i = omega (arith, at (i + 0) i (omega arith))
  where
    at : (a b : ℕ) → a ≡ b → get_or xs a 0 ≡ get_or xs b 0
    at a b e = ap (λ (x : ℕ). get_or xs x 0) e

pub number-three : (xs : List ℕ) (i a b c : ℕ) → a ≡ i → b ≡ i + 1 → c ≡ i + 2
    → get_or xs a 0 * 65536 + get_or xs b 0 * 256 + get_or xs c 0 ≡ number 3 i xs
unfolding number
number-three xs i a b c p q r =
    omega (arith, at a (i + 0) (omega arith), at b (i + 1) q, at c (i + 2) r)
  where
    at : (a b : ℕ) → a ≡ b → get_or xs a 0 ≡ get_or xs b 0
    at a b e = ap (λ (x : ℕ). get_or xs x 0) e

pub number-four : (xs : List ℕ) (i : ℕ) → number 2 i xs * 65536 + number 2 (i + 2) xs ≡ number 4 i xs
unfolding number
number-four xs i = omega (arith, at (i + 2 + 0) (i + 2) (omega arith), at (i + 2 + 1) (i + 3) (omega arith))
  where
    at : (a b : ℕ) → a ≡ b → get_or xs a 0 ≡ get_or xs b 0
    at a b e = ap (λ (x : ℕ). get_or xs x 0) e

pub number-bytes : (xs : List ℕ) (i : ℕ)
    → ((get_or xs i 0 * 256 + get_or xs (i + 1) 0) * 256 + get_or xs (i + 2) 0) * 256 + get_or xs (i + 3) 0 ≡ number 4 i xs
unfolding number
number-bytes xs i = omega (arith, ap (λ j. get_or xs j 0) zero-added)
  where
    zero-added : i + 0 ≡ i
    zero-added = omega arith

pub take_none : {X : Type 0} (n : ℕ) → take {A = X} n [] ≡ []
take_none zero = refl
take_none (suc n) = refl

-- a place moves on by no more than what stands behind it
pub place-fits : (g : List ℕ) (place n : ℕ) (b : Bool) → place < 2 ^ 64 → length g < 2 ^ 64
    → place + length (cond b (take n (drop place g)) []) < 2 ^ 64
place-fits g place n true p l = omega (arith, length-take n (drop place g), length-drop place g)
place-fits g place n false p l = omega arith

-- ---- the bytes that should be 0

empty-at : (g : List ℕ) (n i k : ℕ) → empty g i n ≡ true → k < n → get_or g (i + k) 0 ≡ 0
unfolding empty
empty-at g zero i k e l = absurd (omega arith)
empty-at g (suc n) i zero e l = let z = and_parts _ _ e in let j : i + 0 ≡ i = omega arith in ap (λ j. get_or g j 0) j ∙ eqb-true (get_or g i 0) 0 z.0
empty-at g (suc n) i (suc k) e l =
    let z = and_parts _ _ e in
    let j : i + suc k ≡ suc i + k = omega arith in
    ap (λ j. get_or g j 0) j ∙ empty-at g n (suc i) k z.1 (omega arith)

empty-from : (g : List ℕ) (n i : ℕ) → ((k : ℕ) → k < n → get_or g (i + k) 0 ≡ 0) → empty g i n ≡ true
unfolding empty
empty-from g zero i h = refl
empty-from g (suc n) i h =
    let a : i ≡ i + 0 = omega arith in
    and_from _ _ (eq-eqb (get_or g i 0) 0 (ap (λ j. get_or g j 0) a ∙ h 0 (omega arith)))
    (empty-from g n (suc i) (λ k l. let b : suc i + k ≡ i + suc k = omega arith in ap (λ j. get_or g j 0) b ∙ h (suc k) (omega arith)))

pub empty-is : (g ys : List ℕ) (i n : ℕ) (r : Bool) → IsTrue r ↔ EachIndex ys (λ k. get_or ys k 0 ≡ 0) → length ys ≡ n → ((k : ℕ) → k < n → get_or ys k 0 ≡ get_or g (i + k) 0) → r ≡ empty g i n
empty-is g ys i n true h l e = sym (empty-from g n i (λ k m. sym (e k m) ∙ h.0 refl k (omega arith)))
empty-is g ys i n false h l e = go (empty g i n) refl
  where
    go : (b : Bool) → empty g i n ≡ b → false ≡ b
    go true q = absurd (false≢true (h.1 (λ k m. e k (omega arith) ∙ empty-at g n i k q (omega arith))))
    go false q = refl

-- one byte more of those that should be 0
pub empty-more : (g : List ℕ) (i n m : ℕ) → n ≡ suc m → get_or g i 0 ≡ 0 → empty g i n ≡ empty g (i + 1) m
unfolding empty
empty-more g i n m e z =
    ap (empty g i) e ∙ (ap (λ (b : Bool). b && empty g (suc i) m) (eq-eqb (get_or g i 0) 0 z) ∙ ap (λ (j : ℕ). empty g j m) (omega arith))

pub empty-not : (g : List ℕ) (i n m : ℕ) → n ≡ suc m → get_or g i 0 ≢ 0 → empty g i n ≡ false
unfolding empty
empty-not g i n m e z = ap (empty g i) e ∙ ap (λ (b : Bool). b && empty g (suc i) m) (ne_eqb (get_or g i 0) 0 z)

pub empty-none : (g : List ℕ) (i n : ℕ) → n ≡ 0 → empty g i n ≡ true
unfolding empty
empty-none g i n e = ap (empty g i) e
