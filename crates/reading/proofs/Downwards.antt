-- Numbers that pass a test, from the greatest down.
use Rattle.std.proofs.Common.{◌≡◌, ℕ, suc, ◌+◌, ◌-◌, ◌<◌, Bool, true, false, cond, List, [], ◌∷◌, ◌++◌, sym, ap, ◌∙◌, arith, append_assoc, append-nil}
use Rattle.layout.specs.Counts.{which}

-- one number less is left
pub passed : (p : ℕ → Bool) (n i : ℕ) (xs all : List ℕ) → i < n → p (n - 1 - i) ≡ true → xs ++ which p (n - i) ≡ all → (xs ++ (n - 1 - i) ∷ []) ++ which p (n - (i + 1)) ≡ all
unfolding which
passed p n i xs all h t e =
    let k : n - i ≡ suc (n - 1 - i) = omega arith in
    let m : n - (i + 1) ≡ n - 1 - i = omega arith in
    append_assoc xs ((n - 1 - i) ∷ []) (which p (n - (i + 1))) ∙ ap (λ z. xs ++ (n - 1 - i) ∷ which p z) m ∙ ap (λ b. xs ++ cond b ((n - 1 - i) ∷ which p (n - 1 - i)) (which p (n - 1 - i))) (sym t)
    ∙ sym (ap (λ z. xs ++ which p z) k) ∙ e

pub failed : (p : ℕ → Bool) (n i : ℕ) (xs all : List ℕ) → i < n → p (n - 1 - i) ≡ false → xs ++ which p (n - i) ≡ all → xs ++ which p (n - (i + 1)) ≡ all
unfolding which
failed p n i xs all h t e =
    let k : n - i ≡ suc (n - 1 - i) = omega arith in
    let m : n - (i + 1) ≡ n - 1 - i = omega arith in
    ap (λ z. xs ++ which p z) m ∙ ap (λ b. xs ++ cond b ((n - 1 - i) ∷ which p (n - 1 - i)) (which p (n - 1 - i))) (sym t)
    ∙ sym (ap (λ z. xs ++ which p z) k) ∙ e

pub over : (p : ℕ → Bool) (n i : ℕ) (xs all : List ℕ) → n ≡ i → xs ++ which p (n - i) ≡ all → xs ≡ all
unfolding which
over p n i xs all h e = let z : n - i ≡ 0 = omega arith in sym (append-nil xs) ∙ sym (ap (λ k. xs ++ which p k) z) ∙ e
