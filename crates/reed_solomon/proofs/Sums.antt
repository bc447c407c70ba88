-- Check sums and sums of values, as loops and folds add them up.
use Rattle.std.proofs.Common.{◌≡◌, ℕ, zero, suc, ◌+◌, ◌-◌, ◌*◌, ◌<◌, List, [], ◌∷◌, ◌++◌, length, get_or, take, drop, set, map, fold, sym, refl, ap, ◌∙◌, ap₂, mul-zero, mul-suc, add-one, append_assoc, arith, lit<}
use lib.Bits.{bit_xor, xor_lt, xor_zero_r, xor_assoc}
use Rattle.std.specs.List.{zip}
use Rattle.std.proofs.lemmas.List.{append-nil, length_push, take_more, drop_more}
use Rattle.galois.specs.Galois.{gmul, gpow, alpha}
use Rattle.reed_solomon.specs.Steps.{xsum, vsum, patch}
use Rattle.reed_solomon.specs.Words.{syndrome, sum_to, Bytes, ByPlaces}
use Rattle.galois.proofs.Laws.{gmul-lt, gmul-assoc, gmul-xor-l, gmul-zero-l, gmul-one-r}
use Rattle.galois.proofs.Powers.{gpow-add}

pub syn-lt : (e : ℕ) (b : List ℕ) → syndrome e b < 256
unfolding syndrome
syn-lt e [] = lit< tt
syn-lt e (x ∷ xs) = xor_lt 8 _ _ (gmul-lt x (alpha (e * length xs))) (syn-lt e xs)

-- ---- a check sum, by Horner's rule

pub syn-push : (e x : ℕ) (xs : List ℕ) → x < 256 → syndrome e (xs ++ x ∷ []) ≡ bit_xor (gmul (syndrome e xs) (alpha e)) x
unfolding syndrome gpow
syn-push e x [] h =
    xor_zero_r (gmul x (alpha (e * 0))) ∙ ap (λ z. gmul x (alpha z)) (mul-zero e) ∙ gmul-one-r x h ∙ ap (λ z. bit_xor z x) (sym (gmul-zero-l (alpha e)))
syn-push e x (y ∷ ys) h =
    let a : ℕ = alpha (e * length ys) in
    let shift : alpha (e * length (ys ++ x ∷ [])) ≡ gmul a (alpha e) =
    ap (λ m. alpha (e * m)) (length_push ys x ∙ add-one (length ys)) ∙ ap alpha (mul-suc e (length ys)) ∙ gpow-add 2 (e * length ys) e in
    ap₂ bit_xor (ap (gmul y) shift ∙ sym (gmul-assoc y a (alpha e))) (syn-push e x ys h)
    ∙ sym (xor_assoc (gmul (gmul y a) (alpha e)) (gmul (syndrome e ys) (alpha e)) x)
    ∙ ap (λ z. bit_xor z x) (sym (gmul-xor-l (gmul y a) (syndrome e ys) (alpha e)))

-- the bytes b after the bytes seen
pub syn-fold : (e : ℕ) (seen b : List ℕ) → Bytes b → fold (λ sum byte. bit_xor (gmul sum (alpha e)) byte) (syndrome e seen) b ≡ syndrome e (seen ++ b)
syn-fold e seen [] h = ap (syndrome e) (sym (append-nil seen))
syn-fold e seen (x ∷ xs) h =
    ap (λ sum. fold (λ sum byte. bit_xor (gmul sum (alpha e)) byte) sum xs) (sym (syn-push e x seen h.0))
    ∙ syn-fold e (seen ++ x ∷ []) xs h.1 ∙ ap (syndrome e) (append_assoc seen (x ∷ []) xs)

pub syn-more : (e i sum : ℕ) (b : List ℕ) → i < length b → get_or b i 0 < 256 → sum ≡ syndrome e (take i b)
    → bit_xor (gmul sum (alpha e)) (get_or b i 0) ≡ syndrome e (take (i + 1) b)
syn-more e i sum b h k es =
    ap (λ s. bit_xor (gmul s (alpha e)) (get_or b i 0)) es ∙ sym (syn-push e (get_or b i 0) (take i b) k) ∙ ap (syndrome e) (sym (take_more b i 0 h))

-- ---- sums of values

pub xsum-fold : (sum : ℕ) (vs : List ℕ) → fold bit_xor sum vs ≡ bit_xor sum (xsum vs)
unfolding xsum
xsum-fold sum [] = sym (xor_zero_r sum)
xsum-fold sum (v ∷ vs) = xsum-fold (bit_xor sum v) vs ∙ xor_assoc sum v (xsum vs)

pub vsum-is : (e : ℕ) (xs vs : List ℕ) → xsum (map (λ p. gmul p.1 (gpow p.0 e)) (zip xs vs)) ≡ vsum e xs vs
unfolding xsum vsum
vsum-is e [] vs = refl
vsum-is e (x ∷ xs) [] = refl
vsum-is e (x ∷ xs) (v ∷ vs) = ap (bit_xor (gmul v (gpow x e))) (vsum-is e xs vs)

-- the sums over what is left, a value at a time, and at the end

pub xsum-more : (i sum : ℕ) (vs : List ℕ) → i < length vs → bit_xor (bit_xor sum (get_or vs i 0)) (xsum (drop (i + 1) vs)) ≡ bit_xor sum (xsum (drop i vs))
unfolding xsum
xsum-more i sum vs h = xor_assoc sum (get_or vs i 0) (xsum (drop (i + 1) vs)) ∙ ap (λ z. bit_xor sum (xsum z)) (sym (drop_more vs i 0 h))

pub vsum-more : (e i sum : ℕ) (xs vs : List ℕ) → i < length xs → i < length vs
    → bit_xor (bit_xor sum (gmul (get_or vs i 0) (gpow (get_or xs i 0) e))) (vsum e (drop (i + 1) xs) (drop (i + 1) vs)) ≡ bit_xor sum (vsum e (drop i xs) (drop i vs))
unfolding vsum
vsum-more e i sum xs vs h k =
    xor_assoc sum (gmul (get_or vs i 0) (gpow (get_or xs i 0) e)) (vsum e (drop (i + 1) xs) (drop (i + 1) vs))
    ∙ ap₂ (λ y z. bit_xor sum (vsum e y z)) (sym (drop_more xs i 0 h)) (sym (drop_more vs i 0 k))

pub xsum-end : (i sum : ℕ) (vs : List ℕ) → drop i vs ≡ [] → bit_xor sum (xsum (drop i vs)) ≡ sum
unfolding xsum
xsum-end i sum vs e = ap (λ z. bit_xor sum (xsum z)) e ∙ xor_zero_r sum

pub vsum-end : (e i sum : ℕ) (xs vs : List ℕ) → drop i xs ≡ [] → bit_xor sum (vsum e (drop i xs) (drop i vs)) ≡ sum
unfolding vsum
vsum-end e i sum xs vs h = ap (λ z. bit_xor sum (vsum e z (drop i vs))) h ∙ xor_zero_r sum

-- ---- values added to a word

-- the value v added at the place p, which are those at i
pub patch-more : (i n p v : ℕ) (b ps vs : List ℕ) → i < length ps → i < length vs → p ≡ get_or ps i 0 → v ≡ get_or vs i 0 → n ≡ i + 1
    → patch (set b p (bit_xor (get_or b p 0) v)) (drop n ps) (drop n vs) ≡ patch b (drop i ps) (drop i vs)
unfolding patch
patch-more i n p v b ps vs h k ep ev en =
    ap₂ (λ p v. patch (set b p (bit_xor (get_or b p 0) v)) (drop n ps) (drop n vs)) ep ev
    ∙ ap (λ n. patch (set b (get_or ps i 0) (bit_xor (get_or b (get_or ps i 0) 0) (get_or vs i 0))) (drop n ps) (drop n vs)) en
    ∙ ap₂ (patch b) (sym (drop_more ps i 0 h)) (sym (drop_more vs i 0 k))

pub patch-end : (i : ℕ) (b ps vs : List ℕ) → drop i ps ≡ [] → patch b (drop i ps) (drop i vs) ≡ b
unfolding patch
patch-end i b ps vs h = ap (λ z. patch b z (drop i vs)) h

-- ---- a check sum by the places

sum_to-first : (f : ℕ → ℕ) (n : ℕ) → sum_to f (suc n) ≡ bit_xor (f 0) (sum_to (λ j. f (suc j)) n)
unfolding sum_to
sum_to-first f zero = sym (xor_zero_r (f 0))
sum_to-first f (suc n) = ap (λ z. bit_xor z (f (suc n))) (sum_to-first f n) ∙ xor_assoc (f 0) (sum_to (λ j. f (suc j)) n) (f (suc n))

sum_to-ext : (f g : ℕ → ℕ) (n : ℕ) → ((j : ℕ) → f j ≡ g j) → sum_to f n ≡ sum_to g n
unfolding sum_to
sum_to-ext f g zero h = refl
sum_to-ext f g (suc n) h = ap₂ bit_xor (sum_to-ext f g n h) (h n)

pub sum_to-more : (f : ℕ → ℕ) (j s v : ℕ) → s ≡ sum_to f j → v ≡ f j → bit_xor s v ≡ sum_to f (j + 1)
unfolding sum_to
sum_to-more f j s v e g = ap₂ bit_xor e g ∙ ap (sum_to f) (sym (add-one j))

pub by-places : ByPlaces
unfolding syndrome
by-places e [] = unfold sum_to in refl
by-places e (b ∷ bs) =
    let f : ℕ → ℕ = λ j. gmul (get_or (b ∷ bs) j 0) (alpha (e * (suc (length bs) - 1 - j))) in
    let n : length bs ≡ suc (length bs) - 1 - 0 = omega arith in
    ap₂ bit_xor (ap (λ m. gmul b (alpha (e * m))) n)
    (by-places e bs
    ∙ sum_to-ext (λ j. gmul (get_or bs j 0) (alpha (e * (length bs - 1 - j)))) (λ j. f (suc j)) (length bs)
    (λ j. let m : length bs - 1 - j ≡ suc (length bs) - 1 - suc j = omega arith in ap (λ k. gmul (get_or bs j 0) (alpha (e * k))) m))
    ∙ sym (sum_to-first f (length bs))
