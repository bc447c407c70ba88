-- The first numbers of what is left of a slice, as an array.
use Rattle.std.proofs.Common.{◌≡◌, ℕ, ◌+◌, ◌<◌, ◌≤◌, List, length, take, drop, Option, Some, Bor, ap, ◌∙◌, subst, arith, length-drop}
use Rattle.std.proofs.lemmas.List.{take_all}
use Rattle.std.specs.Option.{MatchOption}
use Rattle.std.specs.Array.{IsFirstChunk}

pub chunk-at : (xs : List ℕ) (i m n : ℕ) (r : Option (Bor (List ℕ))) (y : Bor (List ℕ)) → length xs ≤ i + m
    → MatchOption r (length (take m (drop i xs)) < n) (λ z. IsFirstChunk (take m (drop i xs)) z.now n) → r ≡ Some y → y.now ≡ take n (drop i xs)
chunk-at xs i m n r y l h e =
    let s : length (drop i xs) ≤ m = simp (length-drop) (omega arith) in
    (subst (λ z. MatchOption z (length (take m (drop i xs)) < n) (λ z. IsFirstChunk (take m (drop i xs)) z.now n)) e h).same ∙ ap (take n) (take_all m (drop i xs) s)
