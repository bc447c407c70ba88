-- The bytes of a row laid at their places.
use Rattle.std.proofs.Common.{◌≡◌, ℕ, ◌+◌, ◌*◌, ◌<◌, ◌≤◌, Bool, true, false, cond, ◌&&◌, ltb, List, length, get_or, set, sym, refl, ap, ◌∙◌, ap₂, arith, get_or-set_other, get_or-set_same}
use native.Mathlib.Decide.{ℕ_discrete}
use Rattle.std.proofs.lemmas.Bool.{cond-true}
use Rattle.std.proofs.lemmas.Bool.Decides.{nat_tests}
use Rattle.layout.specs.Placing.{block_at, serial_at, number_at, is_occupied}
use Rattle.layout.specs.Writing.{laid}
use Rattle.layout.proofs.Placing.{fits, back}
use Rattle.writing.specs.Arrays.{array_in}

-- the first q bytes of the row are at their places, and 0 at the others
abbrev pub LaidTo : List ℕ → List ℕ → ℕ → Type 0
LaidTo row zs q =
    (b s : ℕ) → b < 128 → s < 32 → array_in zs b s ≡ cond (is_occupied b s && ltb (number_at b s) q) (get_or row (number_at b s) 0) 0

-- the first q of them, of which this is the next
same_test : (o : Bool) (n q : ℕ) → (o ≡ true → n ≡ q → ⊥) → (o && ltb n q) ≡ (o && ltb n (q + 1))
same_test true n q h = let d : n ≡ q → ⊥ = h refl in grind (arith, nat_tests)
same_test false n q h = refl

pub laid-more : (row zs : List ℕ) (q p v : ℕ) → q < 2912 → length zs ≡ 4096 → p ≡ 32 * block_at q + serial_at q → v ≡ get_or row q 0 → LaidTo row zs q → LaidTo row (set zs p v) (q + 1)
laid-more row zs q p v h l e ev inv b s hb hs = go (ℕ_discrete (32 * b + s) p)
  where
    go : Dec (32 * b + s ≡ p) → get_or (set zs p v) (32 * b + s) 0 ≡ cond (is_occupied b s && ltb (number_at b s) (q + 1)) (get_or row (number_at b s) 0) 0
    go (yes i) =
        let f = fits q h in
        let hq : serial_at q < 32 = f.1 in
        let eb : b ≡ block_at q = omega arith in
        let es : s ≡ serial_at q = omega arith in
        let n : number_at b s ≡ q = ap₂ number_at eb es ∙ f.3 in
        let o : is_occupied b s ≡ true = ap₂ is_occupied eb es ∙ f.2 in
        let t : ltb (number_at b s) (q + 1) ≡ true = grind (arith, nat_tests) in
        let here : p < length zs = omega arith in
        ap (λ z. get_or (set zs p v) z 0) i ∙ get_or-set_same zs p v 0 here ∙ ev ∙ ap (λ z. get_or row z 0) (sym n)
        ∙ sym (cond-true (is_occupied b s && ltb (number_at b s) (q + 1)) (get_or row (number_at b s) 0) 0 (ap₂ ◌&&◌ o t))
    go (no d) =
        get_or-set_other zs p (32 * b + s) v 0 d ∙ inv b s hb hs
        ∙ ap (λ t. cond t (get_or row (number_at b s) 0) 0)
        (same_test (is_occupied b s) (number_at b s) q
        (λ o n.
        let r = back b s hb hs o in
        let eb : block_at q ≡ b = ap block_at (sym n) ∙ r.1 in
        let es : serial_at q ≡ s = ap serial_at (sym n) ∙ r.2 in
        d (omega arith)))

pub laid-none : (row zs : List ℕ) → ((p : ℕ) → get_or zs p 0 ≡ 0) → LaidTo row zs 0
laid-none row zs h b s hb hs = h (32 * b + s) ∙ go (is_occupied b s) (number_at b s)
  where
    go : (o : Bool) (n : ℕ) → 0 ≡ cond (o && ltb n 0) (get_or row n 0) 0
    go true n = let t : ltb n 0 ≡ false = grind (arith, nat_tests) in sym (ap (λ t. cond t (get_or row n 0) 0) t)
    go false n = refl

pub laid-all : (row zs : List ℕ) (q : ℕ) → 2912 ≤ q → LaidTo row zs q → (b s : ℕ) → b < 128 → s < 32 → array_in zs b s ≡ laid row b s
unfolding laid
laid-all row zs q h inv b s hb hs = inv b s hb hs ∙ ap (λ t. cond t (get_or row (number_at b s) 0) 0) (go (is_occupied b s) (λ o. (back b s hb hs o).0))
  where
    go : (o : Bool) → (o ≡ true → number_at b s < 2912) → (o && ltb (number_at b s) q) ≡ o
    go true k = let l : number_at b s < 2912 = k refl in grind (arith, nat_tests)
    go false k = refl
