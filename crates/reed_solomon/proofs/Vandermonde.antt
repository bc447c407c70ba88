-- Sums of v_i * x_i^e over weights x_i, for e = 0, 1, ..: with k different weights the first k sums can be any bytes, and fix the values v_i.
use Rattle.std.proofs.Common.{◌≡◌, ℕ, zero, suc, ◌<◌, ◌≢◌, List, [], ◌∷◌, length, get_or, sym, refl, ap, ◌∙◌, subst, ap₂, arith, lit<}
use lib.Bits.{bit_xor, xor_lt, xor_self, xor_zero_r}
use Rattle.std.specs.List.{AllByRecursion}
use Rattle.std.proofs.ByRecursion.{All-from_get_or}
use Rattle.galois.specs.Galois.{gmul, gpow, ginv}
use Rattle.reed_solomon.specs.Steps.{xsum, vsum}
use Rattle.reed_solomon.specs.Words.{Bytes, Distinct}
use Rattle.galois.proofs.Laws.{xor-swap, xor-back, xor-cancel, xor-differ, gmul-lt, gmul-assoc, gmul-comm, gmul-xor-l, gmul-xor-r, gmul-zero-l, gmul-zero-r, gmul-one-r}
use Rattle.galois.proofs.Powers.{gpow-lt, gmul-inv, gmul-cancel}

-- ---- elimination: S_(e+1) + x * S_e is the sum with each value times its weight plus x

left_comm : (a x y : ℕ) → gmul a (gmul x y) ≡ gmul x (gmul a y)
left_comm a x y = sym (gmul-assoc a x y) ∙ ap (λ z. gmul z y) (gmul-comm a x) ∙ gmul-assoc x a y

term : (a x y z : ℕ) → gmul (gmul a (bit_xor y x)) z ≡ bit_xor (gmul a (gmul y z)) (gmul x (gmul a z))
term a x y z =
    gmul-assoc a (bit_xor y x) z ∙ ap (gmul a) (gmul-xor-l y x z) ∙ gmul-xor-r a (gmul y z) (gmul x z)
    ∙ ap (bit_xor (gmul a (gmul y z))) (left_comm a x z)

scale : ℕ → List ℕ → List ℕ → List ℕ
scale x [] vs = []
scale x (y ∷ ys) [] = []
scale x (y ∷ ys) (v ∷ vs) = gmul v (bit_xor y x) ∷ scale x ys vs

eliminate : (x e : ℕ) (ys vs : List ℕ) → vsum e ys (scale x ys vs) ≡ bit_xor (vsum (suc e) ys vs) (gmul x (vsum e ys vs))
unfolding vsum scale gpow
eliminate x e [] vs = sym (gmul-zero-r x)
eliminate x e (y ∷ ys) [] = sym (gmul-zero-r x)
eliminate x e (y ∷ ys) (v ∷ vs) =
    let z : ℕ = gpow y e in
    ap₂ bit_xor (term v x y z) (eliminate x e ys vs)
    ∙ xor-swap (gmul v (gmul y z)) (gmul x (gmul v z)) (vsum (suc e) ys vs) (gmul x (vsum e ys vs))
    ∙ ap (bit_xor (bit_xor (gmul v (gmul y z)) (vsum (suc e) ys vs))) (sym (gmul-xor-r x (gmul v z) (vsum e ys vs)))

-- at its own weight a value drops out
dropped : (x e v : ℕ) (ys vs : List ℕ) → vsum e ys (scale x ys vs) ≡ bit_xor (vsum (suc e) (x ∷ ys) (v ∷ vs)) (gmul x (vsum e (x ∷ ys) (v ∷ vs)))
unfolding vsum scale
dropped x e v ys vs =
    sym (ap (λ z. bit_xor (gmul z (gpow x e)) (vsum e ys (scale x ys vs))) (ap (gmul v) (xor_self x) ∙ gmul-zero-r v)
    ∙ ap (λ z. bit_xor z (vsum e ys (scale x ys vs))) (gmul-zero-l (gpow x e)))
    ∙ eliminate x e (x ∷ ys) (v ∷ vs)

-- the sum at the exponent 0 is that of the values
vsum-zero : (ys vs : List ℕ) → length vs ≡ length ys → Bytes vs → vsum 0 ys vs ≡ xsum vs
unfolding vsum xsum gpow
vsum-zero [] [] l h = refl
vsum-zero [] (v ∷ vs) l h = absurd (omega arith)
vsum-zero (y ∷ ys) [] l h = refl
vsum-zero (y ∷ ys) (v ∷ vs) l h = ap₂ bit_xor (gmul-one-r v h.0) (vsum-zero ys vs (omega arith) h.1)

xsum-lt : (vs : List ℕ) → Bytes vs → xsum vs < 256
unfolding xsum
xsum-lt [] h = lit< tt
xsum-lt (v ∷ vs) h = xor_lt 8 v (xsum vs) h.0 (xsum-lt vs h.1)

-- ---- if as many sums vanish as there are weights, so does each value

length-scale : (x : ℕ) (ys vs : List ℕ) → length vs ≡ length ys → length (scale x ys vs) ≡ length ys
unfolding scale
length-scale x [] vs l = refl
length-scale x (y ∷ ys) [] l = l
length-scale x (y ∷ ys) (v ∷ vs) l = ap suc (length-scale x ys vs (omega arith))

bytes-scale : (x : ℕ) (ys vs : List ℕ) → Bytes (scale x ys vs)
unfolding scale
bytes-scale x [] vs = tt
bytes-scale x (y ∷ ys) [] = tt
bytes-scale x (y ∷ ys) (v ∷ vs) = (gmul-lt v (bit_xor y x), bytes-scale x ys vs)

cancelled : (x : ℕ) (ys vs : List ℕ) → x < 256 → Bytes ys → AllByRecursion (λ y. y ≢ x) ys → length vs ≡ length ys → Bytes vs
    → AllByRecursion (λ v. v ≡ 0) (scale x ys vs) → AllByRecursion (λ v. v ≡ 0) vs
unfolding scale
cancelled x [] [] hx hy d l hv z = tt
cancelled x [] (v ∷ vs) hx hy d l hv z = absurd (omega arith)
cancelled x (y ∷ ys) [] hx hy d l hv z = tt
cancelled x (y ∷ ys) (v ∷ vs) hx hy d l hv z = (
  gmul-cancel (bit_xor y x) v (xor-differ y x d.0) (xor_lt 8 y x hy.0 hx) hv.0 z.0,
  cancelled x ys vs hx hy.1 d.1 (omega arith) hv.1 z.1,
)

xsum-none : (vs : List ℕ) → AllByRecursion (λ v. v ≡ 0) vs → xsum vs ≡ 0
unfolding xsum
xsum-none [] z = refl
xsum-none (v ∷ vs) z = ap₂ bit_xor z.0 (xsum-none vs z.1)

first : (x v : ℕ) (ys vs : List ℕ) → length vs ≡ length ys → Bytes (v ∷ vs) → vsum 0 (x ∷ ys) (v ∷ vs) ≡ bit_xor v (xsum vs)
unfolding vsum gpow
first x v ys vs l h = ap₂ bit_xor (gmul-one-r v h.0) (vsum-zero ys vs l h.1)

pub none : (xs vs : List ℕ) → Bytes xs → Distinct xs → length vs ≡ length xs → Bytes vs → ((e : ℕ) → e < length xs → vsum e xs vs ≡ 0) → AllByRecursion (λ v. v ≡ 0) vs
none [] [] hx d l hv z = tt
none [] (v ∷ vs) hx d l hv z = absurd (omega arith)
none (x ∷ ys) [] hx d l hv z = tt
none (x ∷ ys) (v ∷ vs) hx d l hv z =
    let m : length vs ≡ length ys = omega arith in
    let gone : (e : ℕ) → e < length ys → vsum e ys (scale x ys vs) ≡ 0 =
    λ e h. dropped x e v ys vs ∙ ap₂ bit_xor (z (suc e) (omega arith)) (ap (gmul x) (z e (omega arith)) ∙ gmul-zero-r x) in
    let others : AllByRecursion (λ w. w ≡ 0) vs =
    cancelled x ys vs hx.0 hx.1 d.0 m hv.1 (none ys (scale x ys vs) hx.1 d.1 (length-scale x ys vs m) (bytes-scale x ys vs) gone) in
    (sym (xor_zero_r v) ∙ ap (bit_xor v) (sym (xsum-none vs others)) ∙ sym (first x v ys vs m hv) ∙ z 0 (omega arith), others)

-- ---- one weight more: g are the values that the others would have once it dropped out

-- the values vs are the values g, each divided by y + x
abbrev pub Quotients : ℕ → List ℕ → List ℕ → List ℕ → Type 0
Quotients x ys g vs = (i : ℕ) → i < length vs → get_or vs i 0 ≡ gmul (get_or g i 0) (ginv (bit_xor (get_or ys i 0) x))

restored : (g y z : ℕ) → 0 < y → y < 256 → z < 256 → gmul (gmul (gmul g (ginv y)) y) z ≡ gmul g z
restored g y z p h k =
    ap (λ w. gmul w z) (gmul-assoc g (ginv y) y ∙ ap (gmul g) (gmul-comm (ginv y) y ∙ gmul-inv y p h))
    ∙ gmul-assoc g 1 z ∙ ap (gmul g) (gmul-comm 1 z ∙ gmul-one-r z k)

vsum-back : (x e : ℕ) (ys g vs : List ℕ) → x < 256 → Bytes ys → AllByRecursion (λ y. y ≢ x) ys → length g ≡ length ys → length vs ≡ length ys → Quotients x ys g vs
    → vsum e ys (scale x ys vs) ≡ vsum e ys g
unfolding vsum scale
vsum-back x e [] g vs hx hy d lg lv q = refl
vsum-back x e (y ∷ ys) [] vs hx hy d lg lv q = absurd (omega arith)
vsum-back x e (y ∷ ys) (a ∷ g) [] hx hy d lg lv q = absurd (omega arith)
vsum-back x e (y ∷ ys) (a ∷ g) (v ∷ vs) hx hy d lg lv q =
    ap₂ bit_xor
    (ap (λ w. gmul (gmul w (bit_xor y x)) (gpow y e)) (q 0 (omega arith))
    ∙ restored a (bit_xor y x) (gpow y e) (xor-differ y x d.0) (xor_lt 8 y x hy.0 hx) (gpow-lt y e))
    (vsum-back x e ys g vs hx hy.1 d.1 (omega arith) (omega arith) (λ i h. q (suc i) (omega arith)))

module _ (x : ℕ) (ys g vs : List ℕ) (t : ℕ → ℕ) (hx : x < 256) (hy : Bytes ys) (d : AllByRecursion (λ y. y ≢ x) ys) (lg : length g ≡ length ys) (lv : length vs ≡ length ys)
    (q : Quotients x ys g vs) (sums : (e : ℕ) → e < length ys → vsum e ys g ≡ bit_xor (t (suc e)) (gmul x (t e))) (ht : t 0 < 256) where
  small : Bytes vs
  small = All-from_get_or (λ v. v < 256) vs 0 (λ i h. subst (λ z. z < 256) (sym (q i h)) (gmul-lt (get_or g i 0) (ginv (bit_xor (get_or ys i 0) x))))

  pub its-lt : bit_xor (t 0) (xsum vs) < 256
  its-lt = xor_lt 8 (t 0) (xsum vs) ht (xsum-lt vs small)

  pub solved : (e : ℕ) → e < suc (length ys) → vsum e (x ∷ ys) (bit_xor (t 0) (xsum vs) ∷ vs) ≡ t e
  solved zero h = first x (bit_xor (t 0) (xsum vs)) ys vs lv (its-lt, small) ∙ xor-back (t 0) (xsum vs)
  solved (suc e) h =
      let v : ℕ = bit_xor (t 0) (xsum vs) in
      xor-cancel (vsum (suc e) (x ∷ ys) (v ∷ vs)) (t (suc e)) (gmul x (t e))
      (ap (λ z. bit_xor (vsum (suc e) (x ∷ ys) (v ∷ vs)) (gmul x z)) (sym (solved e (omega arith)))
      ∙ sym (dropped x e v ys vs) ∙ vsum-back x e ys g vs hx hy d lg lv q ∙ sums e (omega arith))

-- ---- any bytes are the first sums of some values

quotients : ℕ → List ℕ → List ℕ → List ℕ
quotients x [] g = []
quotients x (y ∷ ys) [] = []
quotients x (y ∷ ys) (a ∷ g) = gmul a (ginv (bit_xor y x)) ∷ quotients x ys g

quotients-are : (x : ℕ) (ys g : List ℕ) → Quotients x ys g (quotients x ys g)
unfolding quotients
quotients-are x [] g i h = absurd (omega arith)
quotients-are x (y ∷ ys) [] i h = absurd (omega arith)
quotients-are x (y ∷ ys) (a ∷ g) zero h = refl
quotients-are x (y ∷ ys) (a ∷ g) (suc i) h = quotients-are x ys g i (omega arith)

length-quotients : (x : ℕ) (ys g : List ℕ) → length g ≡ length ys → length (quotients x ys g) ≡ length ys
unfolding quotients
length-quotients x [] g l = refl
length-quotients x (y ∷ ys) [] l = l
length-quotients x (y ∷ ys) (a ∷ g) l = ap suc (length-quotients x ys g (omega arith))

-- values with the sums t
pub record Solution (xs : List ℕ) (t : ℕ → ℕ) : Type 0 where
  pub values : List ℕ
  pub size : length values ≡ length xs
  pub bytes : Bytes values
  pub sums : (e : ℕ) → e < length xs → vsum e xs values ≡ t e

pub solution : (xs : List ℕ) → Bytes xs → Distinct xs → (t : ℕ → ℕ) → ((e : ℕ) → t e < 256) → Solution xs t
solution [] hx d t ht = record { values = []; size = refl; bytes = tt; sums = λ e h. absurd (omega arith) }
solution (x ∷ ys) hx d t ht =
    let s : Solution ys (λ e. bit_xor (t (suc e)) (gmul x (t e))) =
    solution ys hx.1 d.1 (λ e. bit_xor (t (suc e)) (gmul x (t e))) (λ e. xor_lt 8 (t (suc e)) (gmul x (t e)) (ht (suc e)) (gmul-lt x (t e))) in
    let g : List ℕ = s.values in
    let vs : List ℕ = quotients x ys g in
    let lv : length vs ≡ length ys = length-quotients x ys g s.size in
    let q : Quotients x ys g vs = quotients-are x ys g in
    record {
      values = bit_xor (t 0) (xsum vs) ∷ vs;
      size = ap suc lv;
      bytes = (its-lt x ys g vs t hx.0 hx.1 d.0 s.size lv q s.sums (ht 0), small x ys g vs t hx.0 hx.1 d.0 s.size lv q s.sums (ht 0));
      sums = solved x ys g vs t hx.0 hx.1 d.0 s.size lv q s.sums (ht 0);
    }
