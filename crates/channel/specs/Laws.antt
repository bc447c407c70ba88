use Rattle.std.specs.Prelude.{◌≡◌, ℕ, zero, suc, ◌+◌, ◌*◌, ◌/◌, ◌%◌, ◌<◌, ◌≤◌, true, false, cond, ltb, List, length, get_or, Some, None, Option, ◌≢◌, nat_lt, slice_index, slice_index_or, slice_set, refl}
use Rattle.std.proofs.Common.{sym, ap, ◌∙◌, ⊎_elim, arith, add-one, lit<}
use Rattle.std.proofs.lemmas.List.{get_or-set_same, get_or-set_other}
use Rattle.std.proofs.lemmas.Nat.{mod_below}
use Rattle.std.proofs.lemmas.Bool.{eq-eqb, ne_eqb, cases_eq, cases_lt, eqb-true, eqb-false, lt-ltb, le-ltb, cond-true, cond-false}
use Rattle.std.proofs.lemmas.Bool.Decides.{nat_tests}
use Rattle.channel.specs.declared.state.State.{State}
use Rattle.channel.specs.declared.state.State.TheVariants.{Zero, One}
use Rattle.channel.specs.Line.{Lawful}
use Rattle.channel.specs.Codes.{place, word_of, sheet_line, byte_of, sheet_encode, sheet_decode, plain_encode, plain_decode, Narrow, Apart, Shared, free}

pub byte_of-start : (xs : List ℕ) (w : ℕ) → byte_of xs 0 w ≡ None
unfolding byte_of
byte_of-start xs w = refl

-- one number more
byte_of-hit : (xs : List ℕ) (n w : ℕ) → word_of (slice_index xs n) ≡ w → byte_of xs (suc n) w ≡ Some (n / 2)
unfolding byte_of
byte_of-hit xs n w e = rw (eq-eqb (slice_index xs n % 1024) w e)

byte_of-miss : (xs : List ℕ) (n w : ℕ) → (word_of (slice_index xs n) ≢ w) → byte_of xs (suc n) w ≡ byte_of xs n w
unfolding byte_of
byte_of-miss xs n w e = rw (ne_eqb (slice_index xs n % 1024) w e)

-- where the word stands under one byte alone, that byte is found
pub byte_of-finds : (xs : List ℕ) (n w j : ℕ) → j < n → word_of (slice_index xs j) ≡ w → ((i : ℕ) → i < n → word_of (slice_index xs i) ≡ w → i / 2 ≡ j / 2) → byte_of xs n w ≡ Some (j / 2)
byte_of-finds xs zero w j l e h = absurd (let no : ⊥ = omega arith in no)
byte_of-finds xs (suc n) w j l e h =
    ⊎_elim
    (λ (q : get_or xs n 0 % 1024 ≡ w). byte_of-hit xs n w q ∙ ap Some (h n (omega arith) q))
    (λ (q : get_or xs n 0 % 1024 ≡ w → ⊥).
    byte_of-miss xs n w q ∙ byte_of-finds xs n w j (⊎_elim (λ (s : j ≡ n). absurd (q (rw s at e))) (λ (s : j ≡ n → ⊥). omega arith) (cases_eq j n)) e (λ i il ie. h i (omega arith) ie))
    (cases_eq (slice_index xs n % 1024) w)

-- a byte that is found has the word
pub byte_of-some : (xs : List ℕ) (n w b : ℕ) → byte_of xs n w ≡ Some b → (j : ℕ) × (j < n) × (word_of (slice_index xs j) ≡ w) × (j / 2 ≡ b)
byte_of-some xs zero w b e = absurd (let no : ◌≡◌ {A = ℕ} 0 1 = cc (byte_of-start xs w) in omega arith)
byte_of-some xs (suc n) w b e =
    ⊎_elim
    (λ (q : get_or xs n 0 % 1024 ≡ w). (n, omega arith, q, cc (byte_of-hit xs n w q)))
    (λ (q : get_or xs n 0 % 1024 ≡ w → ⊥).
    let r = byte_of-some xs n w b (sym (byte_of-miss xs n w q) ∙ e) in
    (r.0, omega (arith, r.1), r.2, r.3))
    (cases_eq (slice_index xs n % 1024) w)

-- where none is found, no number has the word
pub byte_of-none : (xs : List ℕ) (n w j : ℕ) → byte_of xs n w ≡ None → j < n → word_of (slice_index xs j) ≢ w
byte_of-none xs zero w j e l q = omega arith
byte_of-none xs (suc n) w j e l q =
    ⊎_elim
    (λ (p : get_or xs n 0 % 1024 ≡ w). let no : ◌≡◌ {A = ℕ} 0 1 = cc (byte_of-hit xs n w p) in omega arith)
    (λ (p : get_or xs n 0 % 1024 ≡ w → ⊥).
    byte_of-none xs n w j (sym (byte_of-miss xs n w p) ∙ e) (⊎_elim (λ (s : j ≡ n). absurd (p (rw s at q))) (λ (s : j ≡ n → ⊥). omega arith) (cases_eq j n)) q)
    (cases_eq (slice_index xs n % 1024) w)

-- where no number has the word, none is found
pub byte_of-lacks : (xs : List ℕ) (n w : ℕ) → ((j : ℕ) → j < n → word_of (slice_index xs j) ≢ w) → byte_of xs n w ≡ None
byte_of-lacks xs n w h = go (byte_of xs n w) refl
  where
    go : (v : Option ℕ) → byte_of xs n w ≡ v → byte_of xs n w ≡ None
    go None e = e
    go (Some b) e = let r = byte_of-some xs n w b e in absurd (h r.0 r.1 r.2)

-- a number above 1,023 is no word
pub byte_of-wide : (xs : List ℕ) (n w : ℕ) → 1024 ≤ w → byte_of xs n w ≡ None
byte_of-wide xs n w h = byte_of-lacks xs n w (λ j l e. omega (arith, mod_below (slice_index xs j) 1024 (lit< tt)))

-- the table and the numbers so far
abbrev pub Filled : List (Option ℕ) → List ℕ → ℕ → Type 0
Filled bs xs n = (w : ℕ) → w < 1024 → slice_index_or bs w None ≡ byte_of xs n w

abbrev pub ApartTo : List ℕ → ℕ → Type 0
ApartTo xs n = (i j : ℕ) → (i < n) × (j < n) × (word_of (slice_index xs i) ≡ word_of (slice_index xs j)) → i / 2 ≡ j / 2

-- a free entry: every number before with the word is of this byte
one_byte : (xs : List ℕ) (n b w j : ℕ) (v : Option ℕ) → byte_of xs n w ≡ v → free v b ≡ true → ApartTo xs n → j < n → word_of (slice_index xs j) ≡ w → j / 2 ≡ b
one_byte xs n b w j None e f a l q = absurd (byte_of-none xs n w j e l q)
one_byte xs n b w j (Some o) e f a l q =
    let r = byte_of-some xs n w o e in
    a j r.0 (l, r.1, q ∙ sym r.2) ∙ (r.3 ∙ eqb-true o b f)

two_bytes : (xs : List ℕ) (n w : ℕ) (v : Option ℕ) → byte_of xs n w ≡ v → free v (n / 2) ≡ false → word_of (slice_index xs n) ≡ w → n < length xs → Shared xs
two_bytes xs n w None e f q l = absurd (let no : ◌≡◌ {A = ℕ} 0 1 = cc in omega arith)
two_bytes xs n w (Some o) e f q l =
    let r = byte_of-some xs n w o e in
    (r.0, n, omega (arith, r.1), l, r.2 ∙ sym q, λ t. eqb-false o (n / 2) f (sym r.3 ∙ t))

apart_more : (xs : List ℕ) (n : ℕ) → ApartTo xs n → ((j : ℕ) → j < n → word_of (slice_index xs j) ≡ word_of (slice_index xs n) → j / 2 ≡ n / 2) → ApartTo xs (n + 1)
apart_more xs n a k i j (il, jl, e) =
    ⊎_elim
    (λ (p : i ≡ n). ⊎_elim
    (λ (q : j ≡ n). ap (λ (m : ℕ). m / 2) (p ∙ sym q))
    (λ (q : j ≡ n → ⊥). ap (λ (m : ℕ). m / 2) p ∙ sym (k j (omega arith) (sym e ∙ ap (λ (m : ℕ). slice_index xs m % 1024) p)))
    (cases_eq j n))
    (λ (p : i ≡ n → ⊥). ⊎_elim
    (λ (q : j ≡ n). k i (omega arith) (e ∙ ap (λ (m : ℕ). slice_index xs m % 1024) q) ∙ ap (λ (m : ℕ). m / 2) (sym q))
    (λ (q : j ≡ n → ⊥). a i j (omega arith, omega arith, e))
    (cases_eq j n))
    (cases_eq i n)

filled_more : (bs : List (Option ℕ)) (xs : List ℕ) (n : ℕ) → length bs ≡ 1024 → Filled bs xs n → Filled (slice_set bs (word_of (slice_index xs n)) (Some (n / 2))) xs (n + 1)
filled_more bs xs n z f w l =
    rw add-one (⊎_elim
    (λ (p : get_or xs n 0 % 1024 ≡ w).
    let t : get_or xs n 0 % 1024 < length bs = omega arith in
    ap (λ (m : ℕ). get_or (slice_set bs (slice_index xs n % 1024) (Some (n / 2))) m None) (sym p) ∙ (get_or-set_same bs (slice_index xs n % 1024) (Some (n / 2)) None t ∙ sym (byte_of-hit xs n w p)))
    (λ (p : get_or xs n 0 % 1024 ≡ w → ⊥).
    get_or-set_other bs (slice_index xs n % 1024) w (Some (n / 2)) None (λ q. p (sym q)) ∙ (f w l ∙ sym (byte_of-miss xs n w p)))
    (cases_eq (slice_index xs n % 1024) w))

-- one turn of the loop that fills the table
pub table_more : (bs : List (Option ℕ)) (xs : List ℕ) (n : ℕ) → length bs ≡ 1024 → Filled bs xs n → ApartTo xs n → free (slice_index_or bs (word_of (slice_index xs n)) None) (n / 2) ≡ true → Filled (slice_set bs (word_of (slice_index xs n)) (Some (n / 2))) xs (n + 1) × ApartTo xs (n + 1)
table_more bs xs n z f a t =
    let e : byte_of xs n (word_of (slice_index xs n)) ≡ get_or bs (word_of (slice_index xs n)) None = sym (f (word_of (slice_index xs n)) (mod_below (slice_index xs n) 1024 (lit< tt))) in
    (filled_more bs xs n z f, apart_more xs n a (λ j l q. one_byte xs n (n / 2) (word_of (slice_index xs n)) j _ e t a l q))

pub table-shared : (bs : List (Option ℕ)) (xs : List ℕ) (n : ℕ) → Filled bs xs n → free (slice_index_or bs (word_of (slice_index xs n)) None) (n / 2) ≡ false → n < length xs → Shared xs
table-shared bs xs n f t l =
    let e : byte_of xs n (word_of (slice_index xs n)) ≡ get_or bs (word_of (slice_index xs n)) None = sym (f (word_of (slice_index xs n)) (mod_below (slice_index xs n) 1024 (lit< tt))) in
    two_bytes xs n (word_of (slice_index xs n)) _ e t refl l

place-half : (s : State) (b : ℕ) → place s b / 2 ≡ b
place-half Zero b = omega arith
place-half One b = omega arith

pub place-below : (s : State) (b : ℕ) → b < 256 → place s b < 512
place-below Zero b h = omega arith
place-below One b h = omega arith

-- the word of any state and byte gives that byte back
pub sheet-back : (xs : List ℕ) (s : State) (b : ℕ) → length xs ≡ 512 → Apart xs → b < 256 → byte_of xs (length xs) (word_of (slice_index xs (place s b))) ≡ Some b
sheet-back xs s b e a h =
    let l : place s b < length xs = omega (arith, place-below s b h) in
    byte_of-finds xs (length xs) _ (place s b) l refl (λ i il ie. a i (place s b) (il, l, ie)) ∙ ap Some (place-half s b)

-- a sheet of 512 numbers with no word under two bytes keeps the law
pub sheet-lawful : (xs : List ℕ) → length xs ≡ 512 → Apart xs → Lawful (sheet_line xs)
sheet-lawful xs e a =
    record {
      words = λ s x h. mod_below (slice_index xs (place s x)) 1024 (lit< tt);
      bytes = λ w x f. let r = byte_of-some xs (length xs) w x f in omega (arith, r.1, r.3, e);
      law = λ s x h. sheet-back xs s x e a h;
    }

-- the plain code as a sheet
abbrev pub PlainNumbers : List ℕ → Type 0
PlainNumbers xs = (length xs ≡ 512) × ((i : ℕ) → i < 512 → slice_index xs i ≡ i / 2 + 1024)

plain_word : (xs : List ℕ) (i : ℕ) → PlainNumbers xs → i < 512 → word_of (slice_index xs i) ≡ i / 2
plain_word xs i p l = omega (arith, p.1 i l)

pub plain-narrow : (xs : List ℕ) → PlainNumbers xs → Narrow xs
plain-narrow xs p i l = omega (arith, p.0, p.1 i (omega (arith, p.0)))

pub plain-apart : (xs : List ℕ) → PlainNumbers xs → Apart xs
plain-apart xs p i j (il, jl, e) =
    sym (plain_word xs i p (omega (arith, p.0))) ∙ (e ∙ plain_word xs j p (omega (arith, p.0)))

pub plain-encode : (xs : List ℕ) (s : State) (b : ℕ) → PlainNumbers xs → b < 256 → sheet_encode xs s b ≡ plain_encode s b
plain-encode xs s b p h =
    let l : place s b < 512 = place-below s b h in
    let e : get_or xs (place s b) 0 ≡ b + 1024 = p.1 (place s b) l ∙ ap (λ (m : ℕ). m + 1024) (place-half s b) in
    let w : (b + 1024) % 1024 ≡ b = omega arith in
    let n : ltb (b + 1024) 1024 ≡ false = le-ltb (b + 1024) 1024 (omega arith) in
    simp (e, w, n)

pub plain-decode : (xs : List ℕ) (w : ℕ) → PlainNumbers xs → sheet_decode xs w ≡ plain_decode w
plain-decode xs w p =
    ⊎_elim
    (λ (l : w < 256).
    byte_of-finds xs (length xs) w (2 * w) (omega (arith, p.0)) (plain_word xs (2 * w) p (omega arith) ∙ omega arith) (λ i il ie. sym (plain_word xs i p (omega (arith, p.0))) ∙ (ie ∙ omega arith))
    ∙ (ap Some (omega arith) ∙ sym (cond-true (nat_lt w 256) (Some w) None (lt-ltb w 256 l))))
    (λ (l : 256 ≤ w).
    byte_of-lacks xs (length xs) w (λ j jl e. omega (arith, p.0, plain_word xs j p (omega (arith, p.0))))
    ∙ sym (cond-false (nat_lt w 256) (Some w) None (le-ltb w 256 l)))
    (cases_lt w 256)

same_test : (w n : ℕ) → (w ≢ n) → nat_lt w n ≡ nat_lt w (n + 1)
same_test w n p = grind (arith, nat_tests)

-- one turn of the loop that fills the plain code's table
pub plain_more : (bs : List (Option ℕ)) (n : ℕ) → n < length bs → ((w : ℕ) → w < 1024 → slice_index_or bs w None ≡ cond (nat_lt w n) (Some w) None)
    → (w : ℕ) → w < 1024 → slice_index_or (slice_set bs n (Some n)) w None ≡ cond (nat_lt w (n + 1)) (Some w) None
plain_more bs n l f w h =
    ⊎_elim
    (λ (p : w ≡ n). rw p (get_or-set_same bs n (Some n) None l ∙ sym (cond-true (nat_lt n (n + 1)) (Some n) None (lt-ltb n (n + 1) (omega arith)))))
    (λ (p : w ≡ n → ⊥). get_or-set_other bs n w (Some n) None p ∙ (f w h ∙ ap (λ b. cond b (Some w) None) (same_test w n p)))
    (cases_eq w n)

-- every place is that of a byte in a state
pub place_of : (i : ℕ) → (s : State) × (place s (i / 2) ≡ i)
place_of i =
    ⊎_elim
    (λ (e : i % 2 ≡ 0). (Zero, omega arith))
    (λ (e : i % 2 ≡ 0 → ⊥). (One, omega arith))
    (cases_eq (i % 2) 0)
