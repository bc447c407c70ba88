-- A part of a list written anew.
use Rattle.std.proofs.Common.{◌≡◌, ℕ, ◌+◌, ◌-◌, ◌<◌, ◌≤◌, List, ◌++◌, length, get_or, take, drop, ap, ◌∙◌, arith}
use borrow.Rule.Slice.PartMut.{put_mid}
use Rattle.std.proofs.lemmas.List.{get_or-take, get_or-drop, get_or_append_left, get_or-append_right, length-take-le}

-- what a write to a part of a list leaves
module _ (xs ys : List ℕ) (a n : ℕ) (la : a ≤ length xs) (ly : length ys ≡ n) where
  front : length (take a xs) ≡ a
  front = length-take-le a xs la

  pub mid-before : (i : ℕ) → i < a → get_or (put_mid a n xs ys) i 0 ≡ get_or xs i 0
  mid-before i h = get_or_append_left (take a xs) (ys ++ drop n (drop a xs)) 0 i (omega (arith, front)) ∙ get_or-take a xs i 0 h

  pub mid-in : (i q : ℕ) → i ≡ q + a → q < n → get_or (put_mid a n xs ys) i 0 ≡ get_or ys q 0
  mid-in i q e h =
      let d : i - a ≡ q = omega arith in
      get_or-append_right (take a xs) (ys ++ drop n (drop a xs)) a i 0 front (omega arith) ∙ ap (λ z. get_or (ys ++ drop n (drop a xs)) z 0) d
      ∙ get_or_append_left ys (drop n (drop a xs)) 0 q (omega (arith, ly))

  pub mid-after : (i : ℕ) → a + n ≤ i → get_or (put_mid a n xs ys) i 0 ≡ get_or xs i 0
  mid-after i h =
      let d : a + (n + (i - a - n)) ≡ i = omega arith in
      get_or-append_right (take a xs) (ys ++ drop n (drop a xs)) a i 0 front (omega arith) ∙ get_or-append_right ys (drop n (drop a xs)) n (i - a) 0 ly (omega arith)
      ∙ get_or-drop n (drop a xs) (i - a - n) 0 ∙ get_or-drop a xs (n + (i - a - n)) 0 ∙ ap (λ z. get_or xs z 0) d
