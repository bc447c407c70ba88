-- The powers, the inverse, and that every byte but 0 is a power of 2.
use Rattle.std.proofs.Common.{◌≡◌, ℕ, zero, suc, ◌+◌, ◌-◌, ◌*◌, ◌/◌, ◌%◌, ◌<◌, cond, ltb, ◌≢◌, ◌⊎◌, get_or, sym, refl, ap, ◌∙◌, ap₂, inl, inr, mul_comm, add_comm, suc-add, mul-zero, zero-add, mul-suc, arith, lit<}
use lib.Bits.{bit_xor}
use Rattle.galois.specs.Galois.{xtime, horner, gmul, gpow, alpha, ginv, Field}
use Rattle.galois.proofs.Below.{at-eq, at-lt}
use Rattle.galois.proofs.Laws.{gmul-lt, gmul-comm, gmul-assoc, gmul-one-l, gmul-one-r, gmul-zero-l, gmul-xor-r}
use Rattle.galois.proofs.PowerTables.{exps, logs, products}
use Rattle.std.proofs.lemmas.List.FromFn.{get_or-map-range_with_len}

pub gpow-lt : (x e : ℕ) → gpow x e < 256
unfolding gpow
gpow-lt x zero = lit< tt
gpow-lt x (suc e) = gmul-lt x (gpow x e)

pub gpow-add : (x i j : ℕ) → gpow x (i + j) ≡ gmul (gpow x i) (gpow x j)
unfolding gpow
gpow-add x zero j = ap (gpow x) (zero-add j) ∙ sym (gmul-one-l (gpow x j) (gpow-lt x j))
gpow-add x (suc i) j = ap (gpow x) (suc-add i j) ∙ ap (gmul x) (gpow-add x i j) ∙ sym (gmul-assoc x (gpow x i) (gpow x j))

pub gpow-mul : (x i j : ℕ) → gpow x (i * j) ≡ gpow (gpow x i) j
unfolding gpow
gpow-mul x i zero = ap (gpow x) (mul-zero i)
gpow-mul x i (suc j) = ap (gpow x) (mul-suc i j ∙ add_comm (i * j) i) ∙ gpow-add x i (i * j) ∙ ap (gmul (gpow x i)) (gpow-mul x i j)

pub gpow-one : (e : ℕ) → gpow 1 e ≡ 1
unfolding gpow
gpow-one zero = refl
gpow-one (suc e) = gmul-one-l (gpow 1 e) (gpow-lt 1 e) ∙ gpow-one e

pub gpow-none : (x e : ℕ) → e ≡ 0 → gpow x e ≡ 1
unfolding gpow
gpow-none x e h = ap (gpow x) h

pub gpow-nought : (x e : ℕ) → x ≡ 0 → e ≢ 0 → gpow x e ≡ 0
unfolding gpow
gpow-nought x zero p h = absurd (h refl)
gpow-nought x (suc e) p h = ap (λ z. gmul z (gpow x e)) p ∙ gmul-zero-l (gpow x e)

pub inv-nought : (a : ℕ) → a ≡ 0 → ginv a ≡ 0
unfolding ginv
inv-nought a h = gpow-nought a 254 h (λ e. omega (arith, e))

-- the table of powers: one computed test of the step
exps-step : (i : ℕ) → i < 509 → get_or exps (suc i) 0 ≡ gmul 2 (get_or exps i 0)
unfolding exps gmul horner xtime
exps-step i h = at-eq (λ i. get_or exps (suc i) 0) (λ i. gmul 2 (get_or exps i 0)) 509 refl i h

pub exps-at : (i : ℕ) → i < 510 → get_or exps i 0 ≡ alpha i
unfolding gpow
exps-at zero h = unfold exps in refl
exps-at (suc i) h = exps-step i (omega arith) ∙ ap (gmul 2) (exps-at i (omega arith))

pub logs-lt : (a : ℕ) → a < 256 → get_or logs a 0 < 255
unfolding logs
logs-lt a h = at-lt (λ a. get_or logs a 0) (λ _. 255) 256 refl a h

pub products_at : (e x : ℕ) → e < 6 → x < 256 → get_or products (256 * e + x) 0 ≡ gmul x (alpha e)
unfolding products
products_at e x h k =
    let i : ℕ = 256 * e + x in
    let l : i < 1536 = omega arith in
    let m : i % 256 ≡ x = omega arith in
    let d : i / 256 ≡ e = omega arith in
    get_or-map-range_with_len (λ i. gmul (i % 256) (alpha (i / 256))) 0 1536 i i 0 l (zero-add i) ∙ ap₂ (λ a b. gmul a (alpha b)) m d

-- every byte but 0 is a power of 2
logs-test : (a : ℕ) → a < 255 → get_or exps (get_or logs (suc a) 0) 0 ≡ suc a
unfolding exps logs
logs-test a h = at-eq (λ a. get_or exps (get_or logs (suc a) 0) 0) suc 255 refl a h

pub logs_at : (a : ℕ) → 0 < a → a < 256 → alpha (get_or logs a 0) ≡ a
logs_at zero p h = absurd (omega arith)
logs_at (suc a) p h = sym (exps-at (get_or logs (suc a) 0) (let l : get_or logs (suc a) 0 < 255 = logs-lt (suc a) h in omega arith)) ∙ logs-test a (omega arith)

-- the powers of 2 below the exponent 255 are all different
logs-back : (i : ℕ) → i < 255 → get_or logs (get_or exps i 0) 0 ≡ i
unfolding exps logs
logs-back i h = at-eq (λ i. get_or logs (get_or exps i 0) 0) (λ i. i) 255 refl i h

pub alpha-inj : (i j : ℕ) → i < 255 → j < 255 → alpha i ≡ alpha j → i ≡ j
alpha-inj i j hi hj e =
    sym (logs-back i hi) ∙ ap (λ x. get_or logs x 0) (exps-at i (omega arith) ∙ e ∙ sym (exps-at j (omega arith))) ∙ logs-back j hj

pub alpha-8 : alpha 8 ≡ 29
unfolding gpow gmul horner xtime
alpha-8 = refl

pub alpha-255 : alpha 255 ≡ 1
unfolding gpow gmul horner xtime
alpha-255 = refl

-- an exponent counts up to multiples of 255
pub alpha-mod : (i : ℕ) → alpha (i % 255) ≡ alpha i
alpha-mod i =
    sym (gmul-one-l (alpha (i % 255)) (gpow-lt 2 (i % 255)))
    ∙ ap (λ x. gmul x (alpha (i % 255))) (sym (gpow-one (i / 255)) ∙ ap (λ x. gpow x (i / 255)) (sym alpha-255) ∙ sym (gpow-mul 2 255 (i / 255)))
    ∙ sym (gpow-add 2 (255 * (i / 255)) (i % 255))
    ∙ ap alpha (omega arith)

-- ---- the inverse

pub pow-255 : (a : ℕ) → 0 < a → a < 256 → gpow a 255 ≡ 1
pow-255 a p h =
    let l : ℕ = get_or logs a 0 in
    ap (λ x. gpow x 255) (sym (logs_at a p h)) ∙ sym (gpow-mul 2 l 255) ∙ ap alpha (mul_comm l 255) ∙ gpow-mul 2 255 l
    ∙ ap (λ x. gpow x l) alpha-255 ∙ gpow-one l

pub gmul-inv : (a : ℕ) → 0 < a → a < 256 → gmul a (ginv a) ≡ 1
gmul-inv a p h = unfold ginv gpow in pow-255 a p h

pub ginv-lt : (a : ℕ) → ginv a < 256
unfolding ginv
ginv-lt a = gpow-lt a 254

-- a product with a factor other than 0 may be cancelled
pub gmul-cancel : (a b : ℕ) → 0 < a → a < 256 → b < 256 → gmul b a ≡ 0 → b ≡ 0
gmul-cancel a b p h k e =
    sym (gmul-one-r b k) ∙ ap (gmul b) (sym (gmul-inv a p h)) ∙ sym (gmul-assoc b a (ginv a)) ∙ ap (λ x. gmul x (ginv a)) e ∙ gmul-zero-l (ginv a)

pub inv-alpha : (i : ℕ) → i < 255 → alpha (255 - i) ≡ ginv (alpha i)
unfolding ginv
inv-alpha i h =
    let e : (255 - i) % 255 ≡ i * 254 % 255 = omega arith in
    sym (alpha-mod (255 - i)) ∙ ap alpha e ∙ alpha-mod (i * 254) ∙ gpow-mul 2 i 254

-- exponents of a product count up to multiples of 255
pub alpha-mod-mul : (i j : ℕ) → alpha (i * (j % 255) % 255) ≡ alpha (i * j)
alpha-mod-mul i j =
    alpha-mod (i * (j % 255)) ∙ ap alpha (mul_comm i (j % 255)) ∙ gpow-mul 2 (j % 255) i ∙ ap (λ x. gpow x i) (alpha-mod j) ∙ sym (gpow-mul 2 j i)
    ∙ ap alpha (mul_comm j i)

pub alpha-mod-both : (i j : ℕ) → alpha ((i % 255) * (j % 255) % 255) ≡ alpha (i * j)
alpha-mod-both i j =
    alpha-mod-mul (i % 255) j ∙ ap alpha (mul_comm (i % 255) j) ∙ sym (alpha-mod (j * (i % 255))) ∙ alpha-mod-mul j i ∙ ap alpha (mul_comm j i)

shift : (a : ℕ) → a < 256 → gmul 2 a ≡ cond (ltb a 128) (a * 2) (bit_xor (a * 2) 0x11D)
unfolding gmul horner xtime
shift a h = at-eq (gmul 2) (λ a. cond (ltb a 128) (a * 2) (bit_xor (a * 2) 0x11D)) 256 refl a h

whole : (a b : ℕ) → a < 256 → b < 256 → gmul a b ≡ 0 → (a ≡ 0) ⊎ (b ≡ 0)
whole a zero ha hb e = inr refl
whole a (suc b) ha hb e = inl (gmul-cancel (suc b) a (omega arith) hb ha e)

pub field : Field
field =
    record {
      closed = gmul-lt;
      comm = gmul-comm;
      assoc = gmul-assoc;
      distrib = gmul-xor-r;
      unit = gmul-one-l;
      nought = gmul-zero-l;
      inverse = λ a p h. (ginv-lt a, gmul-inv a p h);
      whole = whole;
      shift = shift;
      reduced = alpha-8;
      cycle = alpha-255;
      distinct = alpha-inj;
      reaches = λ a p h. (get_or logs a 0, logs-lt a h, logs_at a p h);
    }
