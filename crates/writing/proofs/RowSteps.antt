-- Rows written byte by byte, and one after another.
use Rattle.std.proofs.Common.{◌≡◌, ℕ, ◌+◌, ◌-◌, ◌*◌, ◌/◌, ◌%◌, ◌<◌, ◌≤◌, true, false, cond, ◌&&◌, eqb, ltb, List, length, get_or, set, sym, ap, ◌∙◌, ap₂, inl, inr, arith, get_or-set_other, get_or-set_same}
use native.Mathlib.Decide.{ℕ_discrete}
use borrow.Rule.Slice.PartMut.{put_mid}
use Rattle.std.proofs.lemmas.Bool.{cases_lt, cond-true, cond-false, eq-eqb, ne_eqb}
use Rattle.std.proofs.lemmas.Bool.Decides.{nat_tests}
use Rattle.layout.proofs.Parts.{mid-before, mid-in}

-- the first q bytes of row k are those of f, and all else is as it was in xs
abbrev pub RowTo : (ℕ → ℕ) → List ℕ → ℕ → List ℕ → ℕ → Type 0
RowTo f xs k zs q = (p : ℕ) → get_or zs p 0 ≡ cond (eqb (p / 2912) k && ltb (p % 2912) q) (f (p % 2912)) (get_or xs p 0)

pub row-none : (f : ℕ → ℕ) (xs : List ℕ) (k : ℕ) → RowTo f xs k xs 0
row-none f xs k p = let e : (eqb (p / 2912) k && ltb (p % 2912) 0) ≡ false = grind (arith, nat_tests) in sym (ap (λ t. cond t (f (p % 2912)) (get_or xs p 0)) e)

pub row_more : (f : ℕ → ℕ) (xs zs : List ℕ) (k q v : ℕ) → q < 2912 → 2912 * k + q < length zs → v ≡ f q → RowTo f xs k zs q → RowTo f xs k (set zs (2912 * k + q) v) (q + 1)
row_more f xs zs k q v h l e inv p = go (ℕ_discrete p (2912 * k + q))
  where
    go : Dec (p ≡ 2912 * k + q) → get_or (set zs (2912 * k + q) v) p 0 ≡ cond (eqb (p / 2912) k && ltb (p % 2912) (q + 1)) (f (p % 2912)) (get_or xs p 0)
    go (yes s) =
        let r : p % 2912 ≡ q = omega arith in
        let t : (eqb (p / 2912) k && ltb (p % 2912) (q + 1)) ≡ true = grind (arith, nat_tests) in
        ap (λ z. get_or (set zs (2912 * k + q) v) z 0) s ∙ get_or-set_same zs (2912 * k + q) v 0 l ∙ e ∙ ap f (sym r)
        ∙ sym (cond-true (eqb (p / 2912) k && ltb (p % 2912) (q + 1)) (f (p % 2912)) (get_or xs p 0) t)
    go (no d) =
        let t : (eqb (p / 2912) k && ltb (p % 2912) q) ≡ (eqb (p / 2912) k && ltb (p % 2912) (q + 1)) = grind (arith, nat_tests) in
        get_or-set_other zs (2912 * k + q) p v 0 d ∙ inv p ∙ ap (λ t. cond t (f (p % 2912)) (get_or xs p 0)) t

pub row-all : (f : ℕ → ℕ) (xs zs : List ℕ) (k q : ℕ) → 2912 ≤ q → RowTo f xs k zs q → (p : ℕ) → get_or zs p 0 ≡ cond (eqb (p / 2912) k) (f (p % 2912)) (get_or xs p 0)
row-all f xs zs k q h inv p =
    let t : (eqb (p / 2912) k && ltb (p % 2912) q) ≡ eqb (p / 2912) k = grind (arith, nat_tests) in
    inv p ∙ ap (λ t. cond t (f (p % 2912)) (get_or xs p 0)) t

-- row after row
pub rows_more : (f : ℕ → ℕ → ℕ) (zs ys : List ℕ) (k : ℕ) → ((p : ℕ) → p < 2912 * k → get_or zs p 0 ≡ f (p / 2912) (p % 2912))
    → ((p : ℕ) → get_or ys p 0 ≡ cond (eqb (p / 2912) k) (f k (p % 2912)) (get_or zs p 0)) → (p : ℕ) → p < 2912 * (k + 1) → get_or ys p 0 ≡ f (p / 2912) (p % 2912)
rows_more f zs ys k done row p h = row p ∙ go (ℕ_discrete (p / 2912) k)
  where
    go : Dec (p / 2912 ≡ k) → cond (eqb (p / 2912) k) (f k (p % 2912)) (get_or zs p 0) ≡ f (p / 2912) (p % 2912)
    go (yes e) = cond-true (eqb (p / 2912) k) (f k (p % 2912)) (get_or zs p 0) (eq-eqb (p / 2912) k e) ∙ ap (λ k. f k (p % 2912)) (sym e)
    go (no d) = cond-false (eqb (p / 2912) k) (f k (p % 2912)) (get_or zs p 0) (ne_eqb (p / 2912) k d) ∙ done p (omega arith)

-- the same, of a row that is written into the rows
pub rows_put : (f : ℕ → ℕ → ℕ) (zs ys : List ℕ) (k n : ℕ) → k < 46 → 133952 ≤ length zs → n ≡ 2912 → length ys ≡ n
    → ((p : ℕ) → p < 2912 * k → get_or zs p 0 ≡ f (p / 2912) (p % 2912)) → ((q : ℕ) → q < length ys → get_or ys q 0 ≡ f k q)
    → (p : ℕ) → p < 2912 * (k + 1) → get_or (put_mid (2912 * k) n zs ys) p 0 ≡ f (p / 2912) (p % 2912)
rows_put f zs ys k n hk hz en ly done row p h =
    let la : 2912 * k ≤ length zs = omega arith in
    elim (cases_lt p (2912 * k)) [
      | inl l ↦ mid-before zs ys (2912 * k) n la ly p l ∙ done p l
      | inr g ↦ let q : ℕ = p - 2912 * k in
          let eq : p % 2912 ≡ q = omega arith in
          let ek : p / 2912 ≡ k = omega arith in
          mid-in zs ys (2912 * k) n la ly p q (omega arith) (omega arith) ∙ row q (omega arith) ∙ sym (ap₂ f ek eq)
    ]
