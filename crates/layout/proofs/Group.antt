-- Two bad tracks among 46.
use Rattle.std.proofs.Common.{◌≡◌, ℕ, zero, suc, ◌+◌, ◌-◌, ◌*◌, ◌/◌, ◌%◌, ◌<◌, ◌≤◌, Bool, true, false, cond, ◌&&◌, eqb, ltb, leb, ◌≢◌, ◌⊎◌, List, [], ◌∷◌, ◌++◌, length, get_or, drop, Some, None, Option, sym, refl, ap, ◌∙◌, ap₂, subst₂, inl, inr, arith}
use Rattle.std.specs.List.{AllByRecursion}
use Rattle.std.proofs.lemmas.List.{drop_all, drop-drop, take-append-drop}
use Rattle.std.proofs.lemmas.Bool.{and_parts, and_from, and_right, and_left, eqb-true, cases_Bool, both_ways, cases_eq, le-leb, lt-ltb, leb-true, ltb-true, cond_both}
use Rattle.reed_solomon.specs.Words.{Checks, Bytes, Off}
use Rattle.reed_solomon.proofs.Distance.{distance}
use Rattle.reed_solomon.proofs.Patches.{byte-at}
use Rattle.layout.specs.Counts.{count, which, listed}
use Rattle.layout.specs.Randomizer.{randomized}
use Rattle.layout.specs.Placing.{block_at, serial_at, number_at, is_data, is_occupied}
use Rattle.layout.specs.Words.{Array, Checked, Headed, c2, row, frame_byte}
use Rattle.channel.specs.Line.{Code, Lawful}
use Rattle.layout.specs.Line.{Address, Valid}
use Rattle.layout.specs.Reading
use Rattle.layout.specs.Reading.{byte_at, Outcome, read, lost, reading}
use Rattle.layout.specs.Group.{address, number_d, sign_d, part, joined, first_from, c3, Written, is_gone, numbered, is_none, whole, unchecked, c3_filled, subgroup, third_lost, first_bad, judged_bytes, judged_tracks, gathered, outcome, group_read, LightTrack, Spared, Kept, NeverMixed}
use Rattle.layout.proofs.Counts.{length-which, which-below, which-distinct, which-else, which-not, count-more, count-upto, length-listed, slice_index-listed, listed_same, all_listed}
use Rattle.layout.proofs.Randomizer.{twice}
use Rattle.layout.proofs.Placing.{fits}
use Rattle.layout.proofs.Filling.{sound, fills}
use Rattle.layout.proofs.Light.{off-listed, which-places, value-lt, light-reads}

-- ---- the first that passes

first-none : (f : ℕ → Bool) (n a : ℕ) → ((k : ℕ) → a ≤ k → k < a + n → f k ≡ false) → first_from f a n ≡ None
unfolding first_from
first-none f zero a h = refl
first-none f (suc n) a h =
    ap (λ t. cond t (Some a) (first_from f (a + 1) n)) (h a (omega arith) (omega arith)) ∙ first-none f n (a + 1) (λ k l m. h k (omega arith) (omega arith))

none_first : (f : ℕ → Bool) (n a : ℕ) → first_from f a n ≡ None → (k : ℕ) → a ≤ k → k < a + n → f k ≡ false
unfolding first_from
none_first f zero a e k l m = absurd (omega arith)
none_first f (suc n) a e k l m = go (f a) refl e (none_first f n (a + 1))
  where
    go : (t : Bool) → f a ≡ t → cond t (Some a) (first_from f (a + 1) n) ≡ None
        → (first_from f (a + 1) n ≡ None → (k : ℕ) → a + 1 ≤ k → k < a + 1 + n → f k ≡ false) → f k ≡ false
    go true i e ih = let z : ◌≡◌ {A = ℕ} 0 1 = cc in absurd (omega arith)
    go false i e ih = elim (cases_eq k a) [ inl q ↦ ap f q ∙ i | inr q ↦ ih e k (omega (arith, q)) (omega arith) ]

count_next : (f : ℕ → Bool) (k : ℕ) → f k ≡ true → count f (suc k) ≡ 1 + count f k
unfolding count
count_next f k e = ap (λ t. cond t 1 0 + count f k) e

-- ---- parts joined

joined_same : (f g : ℕ → List ℕ) (n a : ℕ) → ((k : ℕ) → a ≤ k → k < a + n → f k ≡ g k) → joined f a n ≡ joined g a n
unfolding joined
joined_same f g zero a h = refl
joined_same f g (suc n) a h = ap₂ (λ u v. u ++ v) (h a (omega arith) (omega arith)) (joined_same f g n (a + 1) (λ k l m. h k (omega arith) (omega arith)))

joined-parts : (group : List ℕ) (n a : ℕ) → length group ≡ (a + n) * 5756 → joined (part group) a n ≡ drop (5756 * a) group
unfolding joined
joined-parts group zero a e = sym (drop_all (5756 * a) group (omega arith))
joined-parts group (suc n) a e =
    let q : 5756 * (a + 1) ≡ 5756 * a + 5756 = omega arith in
    ap (λ z. part group a ++ z)
    (joined-parts group n (a + 1) (omega arith) ∙ ap (λ m. drop m group) q ∙ sym (drop-drop 5756 (5756 * a) group))
    ∙ take-append-drop 5756 (drop (5756 * a) group)

is-data : (b s q : ℕ) → 2 ≤ q → q < 2880 → is_occupied b s ≡ true → number_at b s ≡ q → is_data b s ≡ true
unfolding is_data
is-data b s q h2 hq o e =
    and_from (is_occupied b s) (leb 2 (number_at b s) && ltb (number_at b s) 2880) o
    (and_from (leb 2 (number_at b s)) (ltb (number_at b s) 2880) (le-leb 2 (number_at b s) (omega (arith, e))) (lt-ltb (number_at b s) 2880 (omega (arith, e))))

data-number : (b s : ℕ) → is_data b s ≡ true → (2 ≤ number_at b s) × (number_at b s < 2880)
unfolding is_data
data-number b s e =
    let p = and_parts (leb 2 (number_at b s)) (ltb (number_at b s) 2880) (and_parts (is_occupied b s) (leb 2 (number_at b s) && ltb (number_at b s) 2880) e).1 in
    (leb-true 2 (number_at b s) p.0, ltb-true (number_at b s) 2880 p.1)

-- ---- outcomes of which two at most are not as written

module _ (tap start : ℕ) (group : List ℕ) (x : ℕ → Array) (o : ℕ → Outcome) (bad : ℕ → Bool) (written : Written tap start group x) (two : count bad 46 ≤ 2)
    (good : (k : ℕ) → k < 46 → bad k ≡ false → o k ≡ read (row (x k))) (bytes : (q k : ℕ) → numbered q (o k) < 256) where
  gone-bad : (k : ℕ) → k < 46 → is_gone (o k) ≡ true → bad k ≡ true
  gone-bad k h e =
      elim (cases_Bool (bad k)) [ inl b ↦ b | inr b ↦ absurd (both_ways (is_gone (o k)) (ap is_gone (good k h b)) e) ]

  few-gone : count (λ k. is_gone (o k)) 46 ≤ 2
  few-gone = omega (arith, two, count-more (λ k. is_gone (o k)) bad 46 gone-bad)

  no_third : third_lost tap start o ≡ None
  unfolding third_lost
  no_third = first-none (λ k. is_gone (o k) && eqb (count (λ k. is_gone (o k)) k) 2) 46 0 not_third
    where
      not_third : (k : ℕ) → 0 ≤ k → k < 0 + 46 → (is_gone (o k) && eqb (count (λ k. is_gone (o k)) k) 2) ≡ false
      not_third k l m =
          elim (cases_Bool (is_gone (o k) && eqb (count (λ k. is_gone (o k)) k) 2)) [
            | inl e ↦
                let p = and_parts (is_gone (o k)) (eqb (count (λ k. is_gone (o k)) k) 2) e in
                absurd (omega (
                  arith,
                  few-gone,
                  eqb-true (count (λ k. is_gone (o k)) k) 2 p.1,
                  count_next (λ k. is_gone (o k)) k p.0,
                  count-upto (λ k. is_gone (o k)) (45 - k) (suc k) 46 (omega arith),
                ))
            | inr e ↦ e
          ]

  -- a good track's byte
  byte-right : (q k : ℕ) → q < 2912 → k < 46 → bad k ≡ false → numbered q (o k) ≡ x k (block_at q) (serial_at q)
  unfolding row
  byte-right q k hq hk e = ap (numbered q) (good k hk e) ∙ slice_index-listed (λ q. x k (block_at q) (serial_at q)) 2912 q hq

  module _ (q : ℕ) (h2 : 2 ≤ q) (hq : q < 2880) where
    x-bytes : Bytes (c3 x q)
    unfolding c3
    x-bytes = all_listed (λ z. z < 256) (λ k. x k (block_at q) (serial_at q)) 46 (λ k hk. (written.checked k hk).bytes (block_at q) (serial_at q))

    -- a filling is the word that was written
    c3-right : (u : List ℕ) → c3_filled tap start o q ≡ Some u → u ≡ c3 x q
    unfolding c3_filled c3
    c3-right u e =
        distance 2 (which bad 46) u (listed g 46) (omega (arith, len)) s.0 x-bytes
        (record { within = which-below bad 46 (length u) (omega (arith, len)); once = which-distinct bad 46 }) (omega (arith, two, length-which bad 46)) off s.2 (written.c3s q h2 hq)
      where
        f : ℕ → ℕ
        f k = numbered q (o k)

        g : ℕ → ℕ
        g k = x k (block_at q) (serial_at q)

        s : Bytes u × Off (which (λ k. is_gone (o k)) 46) (listed f 46) u × Checks 2 u
        s = sound 2 (which (λ k. is_gone (o k)) 46) (listed f 46) u (all_listed (λ z. z < 256) f 46 (λ k hk. bytes q k)) e

        len : length u ≡ 46
        len = sym s.1.size ∙ length-listed f 46

        off : Off (which bad 46) u (listed g 46)
        off = record { size = len ∙ sym (length-listed g 46); same = agree }
          where
            agree : (k : ℕ) → k < length u → AllByRecursion (λ p. k ≢ p) (which bad 46) → get_or u k 0 ≡ get_or (listed g 46) k 0
            agree k h a =
                let hk : k < 46 = omega (arith, len) in
                let b : bad k ≡ false = which-else bad 46 k hk a in
                let n : is_gone (o k) ≡ false = ap is_gone (good k hk b) in
                sym (s.1.same k (omega (arith, length-listed f 46)) (which-not (λ k. is_gone (o k)) 46 k n))
                ∙ slice_index-listed f 46 k hk ∙ byte-right q k (omega arith) hk b ∙ sym (slice_index-listed g 46 k hk)

    -- where every bad track is lost there is a filling
    c3-fills : ((k : ℕ) → k < 46 → bad k ≡ true → is_gone (o k) ≡ true) → c3_filled tap start o q ≡ Some (c3 x q)
    unfolding c3_filled c3
    c3-fills all =
        fills 2 (which (λ k. is_gone (o k)) 46) (listed f 46) (listed g 46) (omega (arith, length-listed f 46)) (all_listed (λ z. z < 256) f 46 (λ k hk. bytes q k))
        (which-places f (λ k. is_gone (o k)) 46) (omega (arith, few-gone, length-which (λ k. is_gone (o k)) 46)) x-bytes
        (off-listed f g (λ k. is_gone (o k)) 46 agree) (written.c3s q h2 hq)
      where
        f : ℕ → ℕ
        f k = numbered q (o k)

        g : ℕ → ℕ
        g k = x k (block_at q) (serial_at q)

        agree : (k : ℕ) → k < 46 → is_gone (o k) ≡ false → f k ≡ g k
        agree k hk n =
            elim (cases_Bool (bad k)) [
              | inl b ↦ absurd (both_ways (is_gone (o k)) n (all k hk b))
              | inr b ↦ byte-right q k (omega arith) hk b
            ]

  -- every C3 word filled: the group
  module _ (all : (q : ℕ) → 2 ≤ q → q < 2880 → c3_filled tap start o q ≡ Some (c3 x q)) where
    sub-right : (f : ℕ) → 0 ≤ f → f < 0 + 22 → subgroup tap start o f ≡ part group f
    unfolding subgroup c3
    sub-right f l h =
        ap (randomized tap start)
        (listed_same (λ d. byte_at (2 * f + sign_d d) (c3_filled tap start o (number_d d))) (λ d. x (2 * f + sign_d d) (block_at (number_d d)) (serial_at (number_d d))) 5756
        (λ d hd.
        ap (byte_at (2 * f + sign_d d)) (all (number_d d) (omega arith) (omega arith))
        ∙ slice_index-listed (λ k. x k (block_at (number_d d)) (serial_at (number_d d))) 46 (2 * f + sign_d d) (omega arith))
        ∙ written.held f (omega arith))
        ∙ twice tap start (part group f)

    all_right : joined (subgroup tap start o) 0 22 ≡ group
    all_right = joined_same (subgroup tap start o) (part group) 22 0 sub-right ∙ joined-parts group 22 0 written.size

  -- the number of a data place
  data-place : (q : ℕ) → 2 ≤ q → q < 2880 → (p : ℕ) × (p < 4096) × (is_data (p / 32) (p % 32) ≡ true) × (number_at (p / 32) (p % 32) ≡ q)
  data-place q h2 hq =
      let f = fits q (omega arith) in
      let b : ℕ = block_at q in
      let s : ℕ = serial_at q in
      let eb : b ≡ (32 * b + s) / 32 = omega (arith, f.1) in
      let es : s ≡ (32 * b + s) % 32 = omega (arith, f.1) in (
        32 * b + s,
        omega (arith, f.0, f.1),
        subst₂ (λ b s. is_data b s ≡ true) eb es (is-data b s q h2 hq f.2 f.3),
        subst₂ (λ b s. number_at b s ≡ q) eb es f.3,
      )

  none_filled : first_bad tap start o ≡ None → (q : ℕ) → 2 ≤ q → q < 2880 → c3_filled tap start o q ≡ Some (c3 x q)
  unfolding first_bad
  none_filled e q h2 hq = go (c3_filled tap start o q) refl
    where
      test : ℕ → Bool
      test p = is_data (p / 32) (p % 32) && is_none (c3_filled tap start o (number_at (p / 32) (p % 32)))

      d : (p : ℕ) × (p < 4096) × (is_data (p / 32) (p % 32) ≡ true) × (number_at (p / 32) (p % 32) ≡ q)
      d = data-place q h2 hq

      go : (r : Option (List ℕ)) → c3_filled tap start o q ≡ r → c3_filled tap start o q ≡ Some (c3 x q)
      go (Some u) i = i ∙ ap Some (c3-right q h2 hq u i)
      go None i =
          absurd (both_ways (test d.0) (none_first test 4096 0 e d.0 (omega arith) (omega (arith, d.1)))
          (and_from (is_data (d.0 / 32) (d.0 % 32)) (is_none (c3_filled tap start o (number_at (d.0 / 32) (d.0 % 32)))) d.2
          (ap (λ q. is_none (c3_filled tap start o q)) d.3 ∙ ap is_none i)))

  pub never-mixed : (gathered tap start o ≡ whole group) ⊎ ((b : ℕ) × (s : ℕ) × (gathered tap start o ≡ unchecked b s))
  unfolding gathered
  never-mixed = go (first_bad tap start o) refl
    where
      go : (r : Option ℕ) → first_bad tap start o ≡ r
          → (judged_tracks tap start o (third_lost tap start o) ≡ whole group) ⊎ ((b : ℕ) × (s : ℕ) × (judged_tracks tap start o (third_lost tap start o) ≡ unchecked b s))
      go None e = inl (ap (judged_tracks tap start o) no_third ∙ ap (judged_bytes tap start o) e ∙ ap whole (all_right (none_filled e)))
      go (Some p) e = inr (p / 32, p % 32, ap (judged_tracks tap start o) no_third ∙ ap (judged_bytes tap start o) e)

  pub kept : ((k : ℕ) → k < 46 → bad k ≡ true → is_gone (o k) ≡ true) → gathered tap start o ≡ whole group
  unfolding gathered first_bad
  kept all =
      ap (judged_tracks tap start o) no_third
      ∙ ap (judged_bytes tap start o) (first-none (λ p. is_data (p / 32) (p % 32) && is_none (c3_filled tap start o (number_at (p / 32) (p % 32)))) 4096 0 fine)
      ∙ ap whole (all_right (λ q h2 hq. c3-fills q h2 hq all))
    where
      fine : (p : ℕ) → 0 ≤ p → p < 0 + 4096 → (is_data (p / 32) (p % 32) && is_none (c3_filled tap start o (number_at (p / 32) (p % 32)))) ≡ false
      fine p l m =
          elim (cases_Bool (is_data (p / 32) (p % 32))) [
            | inr n ↦ and_left (is_data (p / 32) (p % 32)) (is_none (c3_filled tap start o (number_at (p / 32) (p % 32)))) n
            | inl y ↦
                let r = data-number (p / 32) (p % 32) y in
                and_right (is_data (p / 32) (p % 32)) (is_none (c3_filled tap start o (number_at (p / 32) (p % 32))))
                (ap is_none (c3-fills (number_at (p / 32) (p % 32)) r.0 r.1 all))
          ]

-- ---- the tracks

mended-lt : (c : Code) (t : Address) (w : ℕ → ℕ) → Lawful c → (b s : ℕ) → Reading.corrected (Reading.erased c t w) (Reading.value c t w) b s < 256
unfolding Reading.corrected Reading.filled c2
mended-lt c t w lawful b s = go (Reading.filled (Reading.erased c t w) (Reading.value c t w) (b % 4) s) refl
  where
    go : (r : Option (List ℕ)) → Reading.filled (Reading.erased c t w) (Reading.value c t w) (b % 4) s ≡ r → byte_at (b / 4) r < 256
    go None e = omega arith
    go (Some u) e =
        byte-at u
        (sound 6 (Reading.erasures (Reading.erased c t w) (Reading.value c t w) (b % 4) s) (c2 (Reading.value c t w) (b % 4) s) u
        (all_listed (λ z. z < 256) (λ j. Reading.value c t w (b % 4 + 4 * j) s) 32 (λ k hk. value-lt c t w lawful (b % 4 + 4 * k) s)) e).0
        (b / 4)

judged-lt : (c : Code) (t : Address) (w : ℕ → ℕ) → Lawful c → (q : ℕ) (ps : List (ℕ × ℕ)) → numbered q (Reading.judged (Reading.erased c t w) (Reading.value c t w) t.frame ps) < 256
unfolding Reading.judged row
judged-lt c t w lawful q [] =
    cond_both (eqb (Reading.corrected (Reading.erased c t w) (Reading.value c t w) 0 0) (frame_byte t.frame) && eqb (Reading.corrected (Reading.erased c t w) (Reading.value c t w) 0 2) 0) (read (row (Reading.corrected (Reading.erased c t w) (Reading.value c t w)))) (lost 4 0 0)
    (λ z. numbered q z < 256)
    (λ e. byte-at (row (Reading.corrected (Reading.erased c t w) (Reading.value c t w))) (all_listed (λ z. z < 256) (λ q. Reading.corrected (Reading.erased c t w) (Reading.value c t w) (block_at q) (serial_at q)) 2912 (λ k hk. mended-lt c t w lawful (block_at k) (serial_at k))) q)
    (λ e. omega arith)
judged-lt c t w lawful q (p ∷ ps) =
    cond_both (eqb (Reading.cause (Reading.erased c t w) (Reading.value c t w) p.0 p.1) 0) (Reading.judged (Reading.erased c t w) (Reading.value c t w) t.frame ps) (lost (Reading.cause (Reading.erased c t w) (Reading.value c t w) p.0 p.1) p.0 p.1)
    (λ z. numbered q z < 256) (λ e. judged-lt c t w lawful q ps) (λ e. omega arith)

outcome-lt : (c : Code) (t : Address) → Lawful c → (q : ℕ) (tr : Option (List ℕ)) → numbered q (outcome c t tr) < 256
unfolding reading
outcome-lt c t lawful q None = omega arith
outcome-lt c t lawful q (Some ws) = judged-lt c t (λ i. get_or ws i 0) lawful q Reading.order

light-track : (c : Code) (t : Address) (x : Array) (tr : Option (List ℕ)) → Lawful c → Valid t → Checked x → Headed t.frame x → LightTrack c t x tr → outcome c t tr ≡ read (row x)
light-track c t x None lawful real checked headed light = absurd light
light-track c t x (Some ws) lawful real checked headed light = light-reads c t x (λ i. get_or ws i 0) lawful real checked headed light

module _ (c : Code) (tap start g : ℕ) (group : List ℕ) (x : ℕ → Array) (tracks : ℕ → Option (List ℕ)) (bad : ℕ → Bool) (lawful : Lawful c) (written : Written tap start group x)
    (spared : Spared c g x tracks bad) where
  good-tracks : (k : ℕ) → k < 46 → bad k ≡ false → outcome c (address g k) (tracks k) ≡ read (row (x k))
  good-tracks k h e =
      light-track c (address g k) (x k) (tracks k) lawful (record { frames = omega arith; signs = omega arith }) (written.checked k h) (written.headed k h) (spared.others k h e)

pub group-kept : Kept
unfolding group_read
group-kept c tap start g group x tracks bad lawful written spared blank =
    kept tap start group x (λ k. outcome c (address g k) (tracks k)) bad written spared.two (good-tracks c tap start g group x tracks bad lawful written spared)
    (λ q k. outcome-lt c (address g k) lawful q (tracks k)) (λ k h e. ap (λ tr. is_gone (outcome c (address g k) tr)) (blank k h e))

pub group-never-mixed : NeverMixed
unfolding group_read
group-never-mixed c tap start g group x tracks bad lawful written spared =
    never-mixed tap start group x (λ k. outcome c (address g k) (tracks k)) bad written spared.two (good-tracks c tap start g group x tracks bad lawful written spared)
    (λ q k. outcome-lt c (address g k) lawful q (tracks k))
