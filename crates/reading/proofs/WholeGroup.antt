-- What was found in memory is what the tracks read as.
use Rattle.std.proofs.Common.{◌≡◌, ℕ, zero, suc, ◌+◌, ◌*◌, ◌/◌, ◌%◌, ◌<◌, ◌≤◌, Bool, true, false, cond, ◌&&◌, eqb, List, [], ◌∷◌, ◌++◌, length, get_or, take, drop, set, replicate, Some, None, Option, sym, refl, ap, ◌∙◌, subst, ap₂, inl, inr, arith, length-set, get_or-drop, get_or-set_other, get_or-take, get_or-set_same}
use lib.ListN.{length-replicate, get_or-replicate}
use borrow.Rule.Slice.PartMut.{put_mid}
use Rattle.layout.proofs.Parts.{mid-before, mid-in, mid-after}
use Rattle.std.proofs.lemmas.List.FromFn.{fill_by_all}
use Rattle.std.proofs.lemmas.List.{get_or_append_left}
use Rattle.std.proofs.lemmas.Bool.{cases_eq, cases_lt, eq-eqb}
use Rattle.layout.specs.Counts.{count, which, listed}
use Rattle.layout.specs.Randomizer.{randomized}
use Rattle.layout.specs.Placing.{number_at, is_data}
use Rattle.layout.specs.Reading.{filling, byte_at, Outcome, read, lost}
use Rattle.layout.specs.Group.{sign_d, number_d, joined, first_from, is_gone, is_none, numbered, whole, third, unchecked, c3_filled, subgroup, third_lost, first_bad, judged_bytes, judged_tracks, gathered}
use Rattle.layout.proofs.Counts.{listed_same, length-which}
use Rattle.losses.specs.declared.sheet.LossRow.{LossRow}
use Rattle.losses.specs.Losses.{is_loss, no_loss, loss_row, row_after}
use Rattle.reading.specs.Groups.{gone_in, third_in, sheet_of, filling_in, bad_in, place_in, Filled, group_in, Holds, found_bytes, found_tracks, found_in}
use Rattle.reading.proofs.Marks.{interleaved-is}
use Rattle.reading.proofs.InOrder.{which-same}
use Rattle.reading.proofs.Firsts.{first-same, first_below, count_same, data-parts}

joined_same : (f g : ℕ → List ℕ) (n a : ℕ) → ((k : ℕ) → k < a + n → f k ≡ g k) → joined f a n ≡ joined g a n
unfolding joined
joined_same f g zero a h = refl
joined_same f g (suc n) a h = ap₂ ◌++◌ (h a (omega arith)) (joined_same f g n (a + 1) (λ k l. h k (omega arith)))

number_fits : (d : ℕ) → d < 5756 → (2 ≤ number_d d) × (number_d d < 2880)
number_fits d h = (omega arith, omega arith)

track-fits : (f d : ℕ) → f < 22 → 2 * f + sign_d d < 46
track-fits f d h = omega arith

-- ---- lost tracks

-- no third lost track
none-third : (f : ℕ → Bool) (n a : ℕ) → first_from f a n ≡ None → (k : ℕ) → a ≤ k → k < a + n → f k ≡ false
unfolding first_from
none-third f zero a e k l m = absurd (omega arith)
none-third f (suc n) a e k l m = go (f a) refl e (none-third f n (a + 1))
  where
    go : (t : Bool) → f a ≡ t → cond t (Some a) (first_from f (a + 1) n) ≡ None
        → (first_from f (a + 1) n ≡ None → (k : ℕ) → a + 1 ≤ k → k < a + 1 + n → f k ≡ false) → f k ≡ false
    go true i e ih = let z : ◌≡◌ {A = ℕ} 0 1 = cc in absurd (omega arith)
    go false i e ih = elim (cases_eq k a) [ inl q ↦ ap f q ∙ i | inr q ↦ ih e k (omega (arith, q)) (omega arith) ]

at_most_two : (g : ℕ → Bool) (n : ℕ) → ((k : ℕ) → k < n → (g k && eqb (count g k) 2) ≡ false) → count g n ≤ 2
unfolding count
at_most_two g zero h = omega arith
at_most_two g (suc n) h = go (g n) (h n (omega arith)) (at_most_two g n (λ k l. h k (omega arith)))
  where
    go : (t : Bool) → (t && eqb (count g n) 2) ≡ false → count g n ≤ 2 → cond t 1 0 + count g n ≤ 2
    go false e l = omega (arith, l)
    go true e l = elim (cases_eq (count g n) 2) [ inl q ↦ let z : true ≡ false = sym (eq-eqb (count g n) 2 q) ∙ e in absurd (never z) | inr q ↦ omega (arith, l, q) ]
      where
        never : true ≡ false → ⊥
        never z = let y : ◌≡◌ {A = ℕ} 0 1 = cc in omega arith

pub few-lost : (sheet : List LossRow) → None ≡ third_in sheet → length (which (gone_in sheet) 46) ≤ 2
unfolding third_in
few-lost sheet e =
    subst (λ z. z ≤ 2) (sym (length-which (gone_in sheet) 46))
    (at_most_two (gone_in sheet) 46 (λ k h. none-third (λ k. gone_in sheet k && eqb (count (gone_in sheet) k) 2) 46 0 (sym e) k (omega arith) (omega arith)))

pub third-below : (sheet : List LossRow) (t : ℕ) → Some t ≡ third_in sheet → t < 46
unfolding third_in
third-below sheet t e = first_below (λ k. gone_in sheet k && eqb (count (gone_in sheet) k) 2) 46 0 t (sym e)

pub place-below : (ps xs ys : List ℕ) (p : ℕ) → Filled ps xs ys (Some p) → p < 4096
place-below ps xs ys p f = first_below (bad_in ps xs) 4096 0 p (sym f.first)

-- ---- what was found in memory

module _ (tap start : ℕ) (sheet : List LossRow) (rows : List ℕ) where
  pub found-third : (t : ℕ) → Some t ≡ third_in sheet → found_in tap start sheet rows ≡ third t
  unfolding found_in
  found-third t e = ap (found_tracks tap start sheet rows) (sym e)

  module _ (ps ys : List ℕ) (e : None ≡ third_in sheet) (eps : ps ≡ which (gone_in sheet) 46) where
    by_bytes : (r : Option ℕ) → Filled ps rows ys r → found_in tap start sheet rows ≡ found_bytes tap start ps rows r
    unfolding found_in
    by_bytes r f =
        ap (found_tracks tap start sheet rows) (sym e)
        ∙ ap (λ qs. found_bytes tap start qs rows (first_from (bad_in qs rows) 0 4096)) (sym eps)
        ∙ ap (found_bytes tap start ps rows) (sym f.first)

    pub found-bad : (p : ℕ) → Filled ps rows ys (Some p) → found_in tap start sheet rows ≡ unchecked (p / 32) (p % 32)
    found-bad p f = by_bytes (Some p) f

    pub found-whole : Filled ps rows ys None → found_in tap start sheet rows ≡ whole (group_in tap start ys)
    unfolding group_in
    found-whole f =
        by_bytes None f
        ∙ ap whole
        (joined_same (λ f. randomized tap start (listed (λ d. byte_at (2 * f + sign_d d) (filling_in ps rows (number_d d))) 5756))
        (λ f. randomized tap start (listed (λ d. get_or ys (place_in f d) 0) 5756)) 22 0
        (λ k h. ap (randomized tap start) (listed_same (λ d. byte_at (2 * k + sign_d d) (filling_in ps rows (number_d d))) (λ d. get_or ys (place_in k d) 0) 5756 (each k h))))
      where
        turn : (k d : ℕ) → number_d d + 2912 * (2 * k + sign_d d) ≡ place_in k d
        turn k d = omega arith

        each : (k : ℕ) → k < 0 + 22 → (d : ℕ) → d < 5756 → byte_at (2 * k + sign_d d) (filling_in ps rows (number_d d)) ≡ get_or ys (place_in k d) 0
        each k h d l =
            sym (f.bytes refl (number_d d) (2 * k + sign_d d) (number_fits d l).0 (number_fits d l).1 (track-fits k d (omega arith))) ∙ ap (λ i. get_or ys i 0) (turn k d)

-- ---- the outcomes of the tracks

loss-is : (o : Outcome) → is_loss (loss_row o).cause ≡ is_gone o
loss-is (read r) = refl
loss-is (lost c m n) = refl

module _ (tap start : ℕ) (o : ℕ → Outcome) (sheet : List LossRow) (rows : List ℕ) (h : Holds o rows sheet 46) where
  gone-is : (k : ℕ) → k < 46 → gone_in sheet k ≡ is_gone (o k)
  gone-is k l = ap (λ r. is_loss r.cause) (h.findings k l) ∙ loss-is (o k)

  third-is : third_in sheet ≡ third_lost tap start o
  unfolding third_in third_lost
  third-is =
      first-same (λ k. gone_in sheet k && eqb (count (gone_in sheet) k) 2) (λ k. is_gone (o k) && eqb (count (λ k. is_gone (o k)) k) 2) 46 0
      (λ k l m. ap₂ (λ a b. a && eqb b 2) (gone-is k (omega arith)) (count_same (gone_in sheet) (λ k. is_gone (o k)) k (λ i n. gone-is i (omega arith))))

  filling-is : (q : ℕ) → q < 2912 → filling_in (which (gone_in sheet) 46) rows q ≡ c3_filled tap start o q
  unfolding filling_in c3_filled
  filling-is q l =
      ap₂ (filling 2) (which-same (gone_in sheet) (λ k. is_gone (o k)) 46 gone-is)
      (interleaved-is rows q 2912 46 ∙ listed_same (λ k. get_or rows (q + 2912 * k) 0) (λ k. numbered q (o k)) 46 (λ k m. h.bytes k q m l))

  bad-is : first_from (bad_in (which (gone_in sheet) 46) rows) 0 4096 ≡ first_bad tap start o
  unfolding first_bad bad_in
  bad-is =
      first-same (bad_in (which (gone_in sheet) 46) rows) (λ p. is_data (p / 32) (p % 32) && is_none (c3_filled tap start o (number_at (p / 32) (p % 32)))) 4096 0
      (λ p l m. go p (is_data (p / 32) (p % 32)) refl)
    where
      go : (p : ℕ) (t : Bool) → is_data (p / 32) (p % 32) ≡ t
          → (t && is_none (filling_in (which (gone_in sheet) 46) rows (number_at (p / 32) (p % 32)))) ≡ (t && is_none (c3_filled tap start o (number_at (p / 32) (p % 32))))
      go p false e = refl
      go p true e =
          let d : number_at (p / 32) (p % 32) < 2880 = (data-parts (p / 32) (p % 32) e).2 in
          ap is_none (filling-is (number_at (p / 32) (p % 32)) (omega arith))

  bytes-are : (r : Option ℕ) → found_bytes tap start (which (gone_in sheet) 46) rows r ≡ judged_bytes tap start o r
  unfolding subgroup
  bytes-are (Some p) = refl
  bytes-are None =
      ap whole
      (joined_same (λ f. randomized tap start (listed (λ d. byte_at (2 * f + sign_d d) (filling_in (which (gone_in sheet) 46) rows (number_d d))) 5756)) (subgroup tap start o) 22 0
      (λ k l.
      ap (randomized tap start)
      (listed_same (λ d. byte_at (2 * k + sign_d d) (filling_in (which (gone_in sheet) 46) rows (number_d d))) (λ d. byte_at (2 * k + sign_d d) (c3_filled tap start o (number_d d))) 5756
      (λ d m. let n : number_d d < 2880 = (number_fits d m).1 in ap (byte_at (2 * k + sign_d d)) (filling-is (number_d d) (omega arith))))))

  tracks-are : (r : Option ℕ) → found_tracks tap start sheet rows r ≡ judged_tracks tap start o r
  tracks-are (Some k) = refl
  tracks-are None = ap (found_bytes tap start (which (gone_in sheet) 46) rows) bad-is ∙ bytes-are (first_bad tap start o)

  pub found-is : found_in tap start sheet rows ≡ gathered tap start o
  unfolding found_in gathered
  found-is = ap (found_tracks tap start sheet rows) third-is ∙ tracks-are (third_lost tap start o)

pub sheet-is : (o : ℕ → Outcome) (sheet : List LossRow) (rows : List ℕ) → Holds o rows sheet 46 → sheet ≡ sheet_of o
unfolding sheet_of
sheet-is o sheet rows h = fill_by_all (λ k. loss_row (o k)) sheet 46 no_loss h.size h.findings

-- ---- one track more

row_is : (o : Outcome) (old : List ℕ) (q : ℕ) → ((q : ℕ) → get_or old q 0 ≡ 0) → get_or (row_after o old) q 0 ≡ numbered q o
row_is (read r) old q z = refl
row_is (lost c m n) old q z = z q

past : (us : List ℕ) (q : ℕ) → length us ≤ q → get_or us q 0 ≡ 0
past [] q l = refl
past (u ∷ us) zero l = absurd (omega arith)
past (u ∷ us) (suc q) l = past us q (omega arith)

pub zero-all : (n p : ℕ) → ◌≡◌ {A = ℕ} (get_or (replicate n 0) p 0) 0
zero-all n p =
    elim (cases_lt p n) [
      | inl l ↦ get_or-replicate n p 0 0 l
      | inr l ↦ past (replicate n 0) p (omega (arith, length-replicate {A = ℕ} n 0))
    ]

-- a part of a list of zeros
pub zero-front : (xs ys : List ℕ) (n : ℕ) → replicate n 0 ≡ xs ++ ys → (p : ℕ) → get_or xs p 0 ≡ 0
zero-front xs ys n e p =
    elim (cases_lt p (length xs)) [
      | inl l ↦ sym (get_or_append_left xs ys 0 p l) ∙ ap (λ z. get_or z p 0) (sym e) ∙ zero-all n p
      | inr l ↦ past xs p l
    ]

pub holds_more : (o : ℕ → Outcome) (rows ys : List ℕ) (sheet : List LossRow) (t n e : ℕ) (r : LossRow) → t < 46 → length rows ≡ 133952 → n ≡ 2912 → Holds o rows sheet t → r ≡ loss_row (o t)
    → length ys ≡ 2912 → ys ≡ row_after (o t) (take e (drop (2912 * t) rows)) → Holds o (put_mid (2912 * t) n rows ys) (set sheet t r) (t + 1)
holds_more o rows ys sheet t n e r ht len en h er ly ey =
    let la : 2912 * t ≤ length rows = omega arith in
    let ln : length ys ≡ n = ly ∙ sym en in
    record {
      bytes = λ k q l m.
          elim (cases_eq k t) [
            | inl x ↦ mid-in rows ys (2912 * t) n la ln (q + 2912 * k) q (omega arith) (omega arith) ∙ ap (λ z. get_or z q 0) ey
                ∙ row_is (o t) (take e (drop (2912 * t) rows)) q zero_row ∙ ap (λ z. numbered q (o z)) (sym x)
            | inr x ↦ mid-before rows ys (2912 * t) n la ln (q + 2912 * k) (before k q x l m) ∙ h.bytes k q (omega (arith, x)) m
          ];
      zeros = λ p l. mid-after rows ys (2912 * t) n la ln p (omega arith) ∙ h.zeros p (omega arith);
      size = length-set sheet t r ∙ h.size;
      findings = λ k l.
          elim (cases_eq k t) [
            | inl x ↦ ap (λ z. get_or (set sheet t r) z no_loss) x ∙ get_or-set_same sheet t r no_loss (omega (arith, h.size)) ∙ er ∙ ap (λ z. loss_row (o z)) (sym x)
            | inr x ↦ get_or-set_other sheet t k r no_loss x ∙ h.findings k (omega (arith, x))
          ];
    }
  where
    before : (k q : ℕ) → (k ≡ t → ⊥) → k < t + 1 → q < 2912 → q + 2912 * k < 2912 * t
    before k q x l m = omega (arith, x)

    zero_row : (q : ℕ) → get_or (take e (drop (2912 * t) rows)) q 0 ≡ 0
    zero_row q =
        elim (cases_lt q e) [
          | inl l ↦ get_or-take e (drop (2912 * t) rows) q 0 l ∙ get_or-drop (2912 * t) rows q 0 ∙ h.zeros (2912 * t + q) (omega arith)
          | inr l ↦ past (take e (drop (2912 * t) rows)) q (omega (arith, short e (drop (2912 * t) rows)))
        ]
      where
        short : (e : ℕ) (us : List ℕ) → length (take e us) ≤ e
        short zero us = omega arith
        short (suc e) [] = omega arith
        short (suc e) (u ∷ us) = let i : length (take e us) ≤ e = short e us in omega arith
