-- Laws of a loop that makes a list part by part, each of one size.
use Rattle.std.proofs.Common.{◌≡◌, ℕ, zero, suc, ◌+◌, ◌*◌, ◌<◌, ◌≤◌, List, [], ◌++◌, length, get_or, take, drop, sym, ap, ◌∙◌, suc-mul, zero-mul, add-one, arith}
use borrow.Rule.Slice.PartMut.{put_mid}
use Rattle.std.proofs.lemmas.List.{append_assoc, take_at, drop_at, drop_all, drop-drop, append-nil}
use Rattle.std.specs.Simd.{first_chunks}
use Rattle.images.specs.Images.{part, chain}
use Rattle.images.specs.Laws.{chain-suc, length-chain}

-- the chunks of a list are its parts
pub get_or-first_chunks : (s n : ℕ) (xs : List ℕ) (q : ℕ) → q < n → get_or (first_chunks s n xs) q [] ≡ part s xs q
get_or-first_chunks s zero xs q l = absurd (omega arith)
get_or-first_chunks s (suc n) xs zero l = ap (λ (p : ℕ). take s (drop p xs)) (sym (zero-mul s))
get_or-first_chunks s (suc n) xs (suc q) l =
    let at : s + q * s ≡ suc q * s = omega (arith, suc-mul q s) in
    get_or-first_chunks s n (drop s xs) q (omega arith) ∙ (ap (take s) (drop-drop (q * s) s xs) ∙ ap (λ (p : ℕ). take s (drop p xs)) at)

module _ (s : ℕ) (f : ℕ → List ℕ) (each : (q : ℕ) → length (f q) ≡ s) where
  -- a loop that writes part after part over xs
  pub chain_more : (xs now ys : List ℕ) (n k : ℕ) → now ≡ chain f n ++ drop (n * s) xs → ys ≡ f n → k ≡ s
      → put_mid (n * s) k now ys ≡ chain f (n + 1) ++ drop ((n + 1) * s) xs
  chain_more xs now ys n k e y ks =
      let long = length-chain s f each n in
      let front : take (n * s) now ≡ chain f n = ap (take (n * s)) e ∙ take_at (chain f n) (drop (n * s) xs) (n * s) long in
      let back : drop (n * s) now ≡ drop (n * s) xs = ap (drop (n * s)) e ∙ drop_at (chain f n) (drop (n * s) xs) (n * s) long in
      let at : n * s + k ≡ suc n * s = omega (arith, suc-mul n s) in
      let rest : drop k (drop (n * s) now) ≡ drop (suc n * s) xs = ap (drop k) back ∙ (drop-drop k (n * s) xs ∙ ap (λ (q : ℕ). drop q xs) at) in
      let joined : (take (n * s) now ++ (ys ++ drop k (drop (n * s) now))) ≡ chain f (suc n) ++ drop (suc n * s) xs
      = ap (λ (a : List ℕ). a ++ (ys ++ drop k (drop (n * s) now))) front
      ∙ (ap (λ (a : List ℕ). chain f n ++ (a ++ drop k (drop (n * s) now))) y
      ∙ (ap (λ (a : List ℕ). chain f n ++ (f n ++ a)) rest
      ∙ (sym (append_assoc (chain f n) (f n) (drop (suc n * s) xs)) ∙ ap (λ (a : List ℕ). a ++ drop (suc n * s) xs) (sym (chain-suc f n))))) in
      joined ∙ ap (λ (m : ℕ). chain f m ++ drop (m * s) xs) (sym (add-one n))

  -- and its end
  pub chain-whole : (xs now : List ℕ) (n : ℕ) → now ≡ chain f n ++ drop (n * s) xs → length xs ≤ n * s → now ≡ chain f n
  chain-whole xs now n e l = e ∙ (ap (λ (a : List ℕ). chain f n ++ a) (drop_all (n * s) xs l) ∙ append-nil (chain f n))
