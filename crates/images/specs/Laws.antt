-- That the formats of the word image and of the packed image are lawful, which the impls of `Number` cite.
use Rattle.std.proofs.Common.{◌≡◌, ℕ, zero, suc, ◌+◌, ◌-◌, ◌*◌, ◌<◌, ◌≤◌, List, [], ◌++◌, length, get_or, take, drop, sym, refl, ap, ◌∙◌, ⊎_elim, mul-le-mul_right, suc-mul, zero-mul, arith, true, map, lit<, ◌/◌, ◌%◌, ◌^◌, ◌∷◌, mod-eq_of_lt, div-add-mod'}
use Rattle.std.proofs.lemmas.List.{length-append, drop_at, take_all, drop-take, take-take, take-append-drop, drop-append-le, take-append-le, get_or_append_left, get_or-append_right, length-drop, length-map, get_or-map, ext_get_or, length-take, get_or-take, get_or-drop}
use Rattle.std.proofs.lemmas.Bool.{cases_lt}
use Rattle.std.proofs.lemmas.Bool.Decides.{nat_tests}
use Rattle.images.specs.Images.{part, chain, Lawful, capped, word_format, from_bytes, from_words, five_bytes, four_words, packed, unpacked, packed_at, unpacked_at, packed_format}
use Rattle.tape.specs.Tape.{narrow}
use Rattle.tape.proofs.Answering.{narrow-get}
use native.Mathlib.Nat.{div-div-eq-div-mul}

-- a part of a list: how long it is, and its items
module _ {X : Type 0} (s : ℕ) where
  pub length_part : (xs : List X) (k : ℕ) → k * s + s ≤ length xs → length (part s xs k) ≡ s
  length_part xs k h = simp (length-take, length-drop) (omega arith)

  pub get_or_part : (xs : List X) (k j : ℕ) (d : X) → j < s → get_or (part s xs k) j d ≡ get_or xs (k * s + j) d
  get_or_part xs k j d h = get_or-take s (drop (k * s) xs) j d h ∙ get_or-drop (k * s) xs j d

-- chains
pub chain-none : (f : ℕ → List ℕ) → chain f 0 ≡ []
unfolding chain
chain-none f = refl

pub chain-suc : (f : ℕ → List ℕ) (n : ℕ) → chain f (suc n) ≡ chain f n ++ f n
unfolding chain
chain-suc f n = refl

-- equal parts make equal lists
pub chain_same : (f g : ℕ → List ℕ) (n : ℕ) → ((q : ℕ) → q < n → f q ≡ g q) → chain f n ≡ chain g n
chain_same f g zero h = chain-none f ∙ sym (chain-none g)
chain_same f g (suc n) h =
    let a = chain_same f g n (λ q l. h q (omega arith)) in
    let b = h n (omega arith) in
    chain-suc f n ∙ (ap (λ (xs : List ℕ). xs ++ f n) a ∙ (ap (λ (ys : List ℕ). chain g n ++ ys) b ∙ sym (chain-suc g n)))

-- the parts of a list make its front
pub chain-parts : (s : ℕ) (xs : List ℕ) (n : ℕ) → chain (part s xs) n ≡ take (n * s) xs
chain-parts s xs zero = chain-none (part s xs) ∙ sym (ap (λ (q : ℕ). take q xs) (zero-mul s))
chain-parts s xs (suc n) =
    let m = n * s + s in
    chain-suc (part s xs) n
    ∙ (ap (λ (ys : List ℕ). ys ++ take s (drop (n * s) xs)) (chain-parts s xs n)
    ∙ (sym (ap (λ (ys : List ℕ). ys ++ drop (n * s) (take m xs)) (take-take (n * s) m xs (omega arith)) ∙ ap (λ (ys : List ℕ). take (n * s) xs ++ ys) (drop-take (n * s) s xs))
    ∙ (take-append-drop (n * s) (take m xs) ∙ ap (λ (q : ℕ). take q xs) (sym (suc-mul n s)))))

-- what holds of each number of each part holds of each of the list
pub chain-all : (P : ℕ → Type 0) (f : ℕ → List ℕ) → P 0 → ((q i : ℕ) → P (get_or (f q) i 0)) → (n j : ℕ) → P (get_or (chain f n) j 0)
chain-all P f z h zero j = rw (chain-none f) z
chain-all P f z h (suc n) j =
    let before = chain-all P f z h n j in
    rw (chain-suc f n)
    (⊎_elim
    (λ (l : j < length (chain f n)). rw (get_or_append_left (chain f n) (f n) 0 j l) before)
    (λ (l : length (chain f n) ≤ j). rw (get_or-append_right (chain f n) (f n) (length (chain f n)) j 0 refl l) (h n (j - length (chain f n))))
    (cases_lt j (length (chain f n))))

module _ (s : ℕ) (f : ℕ → List ℕ) (each : (q : ℕ) → length (f q) ≡ s) where
  pub length-chain : (n : ℕ) → length (chain f n) ≡ n * s
  length-chain zero = ap length (chain-none f) ∙ sym (zero-mul s)
  length-chain (suc n) =
      let a = length-chain n in
      ap length (chain-suc f n) ∙ (length-append (chain f n) (f n) ∙ omega (arith, each n, suc-mul n s))

  -- its parts are those that it is made of
  pub part-chain : (n q : ℕ) → q < n → part s (chain f n) q ≡ f q
  part-chain zero q l = absurd (let no : ⊥ = omega arith in no)
  part-chain (suc n) q l =
      let long = length-chain n in
      let before = part-chain n q in
      ap (λ (xs : List ℕ). part s xs q) (chain-suc f n)
      ∙ ⊎_elim
      (λ (b : q < n).
      let le : suc q ≤ n = omega arith in
      let r : q * s + s ≤ length (chain f n) = omega (arith, mul-le-mul_right s le, suc-mul q s) in
      ap (take s) (drop-append-le (q * s) (chain f n) (f n) (omega arith))
      ∙ (take-append-le s (drop (q * s) (chain f n)) (f n) (simp length-drop (omega arith)) ∙ before b))
      (λ (b : n ≤ q).
      let e : q ≡ n = omega arith in
      rw e (ap (take s) (drop_at (chain f n) (f n) (n * s) long) ∙ take_all s (f n) (omega (arith, each n))))
      (cases_lt q n)

-- a digit behind the digits above it
digit : (n b : ℕ) → n / (b * 256) * 256 + n / b % 256 ≡ n / b
digit n b = ap (λ (q : ℕ). q * 256 + n / b % 256) (sym (div-div-eq-div-mul n b 256)) ∙ div-add-mod' (n / b) 256

-- five digits of forty bits are the whole number
whole : (n : ℕ) → n < 1099511627776 → from_bytes (five_bytes n) ≡ n
whole n h =
    let top : n / 4294967296 % 256 ≡ n / 4294967296 = mod-eq_of_lt (omega arith) in
    let d3 : n / 4294967296 * 256 + n / 16777216 % 256 ≡ n / 16777216 = digit n 16777216 in
    let d2 : n / 16777216 * 256 + n / 65536 % 256 ≡ n / 65536 = digit n 65536 in
    let d1 : n / 65536 * 256 + n / 256 % 256 ≡ n / 256 = digit n 256 in
    let d0 : n / 256 * 256 + n % 256 ≡ n = div-add-mod' n 256 in
    rw (top, d3, d2, d1, d0)

-- narrow words are the digits of the number that they make
digits : (a b c d : ℕ) → a < 1024 → b < 1024 → c < 1024 → d < 1024 → four_words (((a * 1024 + b) * 1024 + c) * 1024 + d) ≡ a ∷ b ∷ c ∷ d ∷ []
digits a b c d ha hb hc hd =
    let n = ((a * 1024 + b) * 1024 + c) * 1024 + d in
    let da : n / 1024 ^ 3 % 1024 ≡ a = omega arith in
    let db : n / 1024 ^ 2 % 1024 ≡ b = omega arith in
    let dc : n / 1024 % 1024 ≡ c = omega arith in
    let dd : n % 1024 ≡ d = omega arith in
    cc

-- words become bytes and the same words again
quad : (xs : List ℕ) → length xs ≡ 4 → ((j : ℕ) → j < 4 → get_or xs j 0 < 1024) → four_words (from_bytes (five_bytes (from_words xs))) ≡ xs
quad [] e h = absurd (omega arith)
quad (p ∷ []) e h = absurd (omega arith)
quad (p ∷ q ∷ []) e h = absurd (omega arith)
quad (p ∷ q ∷ r ∷ []) e h = absurd (omega arith)
quad (a ∷ b ∷ c ∷ d ∷ []) e h =
    let ha : a < 1024 = h 0 (lit< tt) in
    let hb : b < 1024 = h 1 (lit< tt) in
    let hc : c < 1024 = h 2 (lit< tt) in
    let hd : d < 1024 = h 3 (lit< tt) in
    ap four_words (whole (((a * 1024 + b) * 1024 + c) * 1024 + d) (omega arith)) ∙ digits a b c d ha hb hc hd
quad (p ∷ q ∷ r ∷ s ∷ t ∷ xs) e h = absurd (omega arith)

pub four-long : (bs : List ℕ) (q : ℕ) → length (unpacked_at bs q) ≡ 4
four-long bs q = refl

pub five-long : (ws : List ℕ) (q : ℕ) → length (packed_at ws q) ≡ 5
five-long ws q = refl

pub packed-long : (ws : List ℕ) → length (packed ws) ≡ 5760
packed-long ws = length-chain 5 (packed_at ws) (five-long ws) 1152

four-narrow : (n i : ℕ) → get_or (four_words n) i 0 < 1024
four-narrow n zero = omega arith
four-narrow n (suc zero) = omega arith
four-narrow n (suc (suc zero)) = omega arith
four-narrow n (suc (suc (suc zero))) = omega arith
four-narrow n (suc (suc (suc (suc i)))) = lit< tt

-- what is packed is read again
pub unpacked-packed : (ws : List ℕ) → length ws ≡ 4608 → ((j : ℕ) → j < length ws → get_or ws j 0 < 1024) → unpacked (packed ws) ≡ ws
unpacked-packed ws e h =
    chain_same (unpacked_at (packed ws)) (part 4 ws) 1152 at ∙ (chain-parts 4 ws 1152 ∙ take_all 4608 ws (omega arith))
  where
    at : (q : ℕ) → q < 1152 → unpacked_at (packed ws) q ≡ part 4 ws q
    at q l =
        ap (λ (bs : List ℕ). four_words (from_bytes bs)) (part-chain 5 (packed_at ws) (five-long ws) 1152 q l)
        ∙ quad (part 4 ws q) (length_part 4 ws q (omega arith)) (λ j jl. rw (get_or_part 4 ws q j 0 jl) (h (q * 4 + j) (omega arith)))

-- word j of a track is digit j mod 4 of quad j / 4
pub unpacked-word : (bs : List ℕ) (j : ℕ) → j < 4608 → get_or (unpacked bs) j 0 ≡ get_or (four_words (from_bytes (part 5 bs (j / 4)))) (j % 4) 0
unpacked-word bs j l =
    let e : j ≡ j / 4 * 4 + j % 4 = omega arith in
    ap (λ (i : ℕ). get_or (unpacked bs) i 0) e
    ∙ (sym (get_or_part 4 (unpacked bs) (j / 4) (j % 4) 0 (omega arith))
    ∙ ap (λ (ws : List ℕ). get_or ws (j % 4) 0) (part-chain 4 (unpacked_at bs) (four-long bs) 1152 (j / 4) (omega arith)))

-- the packed image keeps the laws
pub packed_laws : Lawful packed_format
packed_laws = record {
  some = lit< tt;
  written = refl;
  blank = refl;
  long = λ ws e. omega (arith, packed-long ws);
  back = λ ws e n. unpacked-packed ws e (λ j l. narrow-get ws j n l);
  sound = λ ns e.
      (length-chain 4 (unpacked_at ns) (four-long ns) 1152, λ j l. chain-all (λ x. x < 1024) (unpacked_at ns) (lit< tt) (λ q i. four-narrow (from_bytes (part 5 ns q)) i) 1152 j);
}

capped-lt : (w : ℕ) → capped w < 1024
capped-lt w = grind (arith, nat_tests)

-- words that are narrow count as they are
capped-narrow : (ws : List ℕ) → narrow ws ≡ true → map capped ws ≡ ws
capped-narrow ws h =
    ext_get_or 0 (map capped ws) ws (length-map ws capped)
    (λ j l.
    let jl : j < length ws = omega (arith, length-map ws capped) in
    let n : get_or ws j 0 < 1024 = narrow-get ws j h jl in
    get_or-map capped ws j 0 0 jl ∙ grind (arith, nat_tests))

-- and the word image
pub word_laws : Lawful word_format
word_laws = record {
  some = lit< tt;
  written = refl;
  blank = refl;
  long = λ ws e. omega arith;
  back = λ ws e n. capped-narrow ws n;
  sound = λ ns e.
      let n : length (map capped ns) ≡ length ns = length-map ns capped in
      (omega arith, λ j l. rw (get_or-map capped ns j 0 0 (omega arith)) (capped-lt (get_or ns j 0)));
}
