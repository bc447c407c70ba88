-- Laws of lists that are cut into parts of one size.
use Rattle.std.proofs.Common.{◌≡◌, ℕ, zero, suc, ◌+◌, ◌*◌, ◌/◌, ◌<◌, ◌≤◌, ◌⊎◌, List, [], ◌∷◌, ◌++◌, length, get_or, take, drop, set, sym, ap, ◌∙◌, inl, inr, ⊎_elim, mul-le-mul_right, suc-mul, div-mul-le_self, arith, rules}
use Rattle.std.proofs.Math.Nat.{div-zero}
use borrow.Rule.Slice.PartMut.{put_mid}
use lib.Seq.{paste}
use Rattle.std.proofs.lemmas.List.{length-take, length-take-le, length-drop, ext_get_or, places, append_assoc, drop_at, drop-drop, drop-set-lt, drop-take, drop_more, take_at, take_all, take_more_set}
use Rattle.std.proofs.lemmas.Bool.{cases_order}
use Rattle.images.specs.Images.{part}
use Rattle.images.specs.Laws.{get_or_part}

-- a part below the number of whole parts lies within
pub room : (s n k : ℕ) → k < n / s → k * s + s ≤ n
room s n k h =
    let le : suc k ≤ n / s = omega arith in
    omega (arith, mul-le-mul_right s le, suc-mul k s, div-mul-le_self n s)

-- and so does its first item, of `size` bytes each, where there are t whole parts
pub room-bytes : (size s n t k : ℕ) → t ≡ n / s → k < t → (k * s + 1) * size ≤ n * size
room-bytes size zero n t k e h = absurd (let no : ⊥ = omega (arith, div-zero n) in no)
room-bytes size (suc s) n t k e h =
    let r : k * suc s + suc s ≤ n = room (suc s) n k (omega arith) in
    let l : k * suc s + 1 ≤ n = omega arith in
    mul-le-mul_right size l

-- two different parts do not meet
pub apart : (s i k : ℕ) → (i ≡ k → ⊥) → (i * s + s ≤ k * s) ⊎ (k * s + s ≤ i * s)
apart s i k d = ⊎_elim (λ (e : i ≡ k). absurd (d e)) (⊎_elim (λ (h : i < k). inl (before i k h)) (λ (h : k < i). inr (before k i h))) (cases_order i k)
  where
    before : (a b : ℕ) → a < b → a * s + s ≤ b * s
    before a b h = let le : suc a ≤ b = omega arith in omega (arith, mul-le-mul_right s le, suc-mul a s)

module _ {X : Type 0} (s : ℕ) where
  -- a part is as it was where its items are
  pub part_same : (d : X) (xs ys : List X) (k : ℕ) → length ys ≡ length xs
      → ((j : ℕ) → j < s → get_or ys (k * s + j) d ≡ get_or xs (k * s + j) d) → part s ys k ≡ part s xs k
  part_same d xs ys k e h =
      ext_get_or d (part s ys k) (part s xs k) (simp (length-take, length-drop, e))
      (λ j l.
      let js : j < s = omega (arith, simp length-take at l) in
      get_or_part s ys k j d js ∙ (h j js ∙ sym (get_or_part s xs k j d js)))

  -- the first item of a part, and those behind it
  pub part-first : (xs : List X) (k n : ℕ) (d : X) → n + 1 ≡ s → k * s + s ≤ length xs
      → part s xs k ≡ get_or xs (k * s) d ∷ take n (drop (k * s + 1) xs)
  part-first xs k n d e h =
      let o : s ≡ suc n = omega arith in
      let l : k * s < length xs = omega arith in
      ap (λ (q : ℕ). take q (drop (k * s) xs)) o ∙ ap (take (suc n)) (drop_more xs (k * s) d l)

  -- what is read behind the first item of a part
  pub part-rest : (xs : List X) (k n : ℕ) → n + 1 ≡ s → take n (drop (k * s + 1) xs) ≡ drop 1 (part s xs k)
  part-rest xs k n e =
      let o : s ≡ 1 + n = omega arith in
      sym (ap (λ (q : ℕ). drop 1 (take q (drop (k * s) xs))) o ∙ (drop-take 1 n (drop (k * s) xs) ∙ ap (take n) (drop-drop 1 (k * s) xs)))

  -- the part that is pasted over
  pub part-paste : (xs ys : List X) (k : ℕ) → k * s + s ≤ length xs → length ys ≡ s → part s (paste xs (k * s) ys s) k ≡ ys
  part-paste xs ys k h e =
      let a : length (take (k * s) xs) ≡ k * s = length-take-le (k * s) xs (omega arith) in
      let y : take s ys ≡ ys = take_all s ys (omega arith) in
      ap (λ (zs : List X). take s (drop (k * s) zs)) (append_assoc (take (k * s) xs) (take s ys) (drop (k * s + s) xs))
      ∙ (ap (take s) (drop_at (take (k * s) xs) (take s ys ++ drop (k * s + s) xs) (k * s) a)
      ∙ (take_at (take s ys) (drop (k * s + s) xs) s (ap length y ∙ e) ∙ y))

module _ {X : Type 0} (xs ys : List X) (at n : ℕ) (fits : at + n ≤ length xs) (long : length ys ≡ n) where
  pub paste-length : length (paste xs at ys n) ≡ length xs
  paste-length = search (rules, places)

  pub paste-below : (p : ℕ) (d : X) → p < at → get_or (paste xs at ys n) p d ≡ get_or xs p d
  paste-below p d h = search (rules, places)

  pub paste-above : (p : ℕ) (d : X) → at + n ≤ p → get_or (paste xs at ys n) p d ≡ get_or xs p d
  paste-above p d h = search (rules, places)

-- the write of a first item, and of others behind it
pub paste-first : {X : Type 0} (xs ys : List X) (v : X) (at n s : ℕ) → n + 1 ≡ s → at + s ≤ length xs → length ys ≡ n
    → put_mid (at + 1) n (set xs at v) ys ≡ paste xs at (v ∷ ys) s
paste-first {X} xs ys v at n s e f l =
    let front : take (at + 1) (set xs at v) ≡ take at xs ++ v ∷ [] = take_more_set xs at v (omega arith) in
    let p : at + 1 + n ≡ at + s = omega arith in
    let rest : drop n (drop (at + 1) (set xs at v)) ≡ drop (at + s) xs
    = ap (drop n) (drop-set-lt (at + 1) xs at v (omega arith)) ∙ (drop-drop n (at + 1) xs ∙ ap (λ (q : ℕ). drop q xs) p) in
    let all : take s (v ∷ ys) ≡ v ∷ ys = take_all s (v ∷ ys) (omega arith) in
    ap (λ (a : List X). a ++ (ys ++ drop n (drop (at + 1) (set xs at v)))) front
    ∙ (ap (λ (a : List X). (take at xs ++ v ∷ []) ++ (ys ++ a)) rest
    ∙ (append_assoc (take at xs) (v ∷ []) (ys ++ drop (at + s) xs)
    ∙ sym (ap (λ (a : List X). (take at xs ++ a) ++ drop (at + s) xs) all ∙ append_assoc (take at xs) (v ∷ ys) (drop (at + s) xs))))
