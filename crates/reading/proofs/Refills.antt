-- Words that are filled where they lie.
use Rattle.std.proofs.Common.{◌≡◌, ℕ, ◌+◌, ◌*◌, ◌/◌, ◌%◌, ◌<◌, ◌≤◌, Bool, true, false, cond, not, ◌&&◌, eqb, leb, List, [], ◌∷◌, length, get_or, Some, None, Decides, MatchBool, Option, sym, refl, ap, ◌∙◌, subst, ap₂, arith}
use Rattle.std.proofs.lemmas.Bool.{cond-true, cond-false, le-leb, lt-leb, eqb-true, eqb-false, false≢true}
use Rattle.std.proofs.lemmas.Bool.Decides.{same_from_decides}
use Rattle.reed_solomon.specs.Words.{Bytes, Places, Checks}
use Rattle.reed_solomon.specs.Interleaves.{interleaved, Refilled, Unfilled}
use Rattle.layout.specs.Counts.{which}
use Rattle.layout.specs.Words.{c2}
use Rattle.layout.specs.Group.{is_none}
use Rattle.layout.specs.Reading.{filling, filled, erasures, byte_at, checks, cause, cause_of, corrected}
use Rattle.layout.proofs.Counts.{length-listed, slice_index-listed, listed_same, all_listed}
use Rattle.layout.proofs.Filling.{sound, fills, checks-true, checks-from}
use Rattle.reading.specs.Arrays.{array_in, erased_in, Recovered, Corrected}
use Rattle.reading.proofs.Marks.{interleaved-is}

length-interleaved : (xs : List ℕ) (start stride n : ℕ) → length (interleaved xs start stride n) ≡ n
length-interleaved xs start stride n = ap length (interleaved-is xs start stride n) ∙ length-listed (λ j. get_or xs (start + stride * j) 0) n

pub no-places : (ps : List ℕ) → length ps ≡ 0 → ps ≡ []
no-places [] e = refl
no-places (p ∷ ps) e = absurd (omega (arith, e))

-- a test whether a word checks
pub checks-is : (r : ℕ) (b : List ℕ) (a : Bool) → Decides a (Checks r b) → a ≡ checks r b
checks-is r b a d = same_from_decides a (checks r b) d (checks-true r b, checks-from r b)

module _ (r : ℕ) (ps xs ys : List ℕ) (start stride n : ℕ) where
  -- filled, or refused
  pub recovered-fill : (a : Bool) → n < 256 → ((i : ℕ) → get_or xs i 0 < 256) → Places n ps → length ps ≤ r
      → MatchBool a (Refilled r ps xs ys start stride n) (Unfilled r ps xs ys start stride n) → Recovered r ps xs ys start stride n a
  recovered-fill a hn bytes places few = go a
    where
      all : Bytes (interleaved xs start stride n)
      all = subst Bytes (sym (interleaved-is xs start stride n)) (all_listed (λ x. x < 256) (λ j. get_or xs (start + stride * j) 0) n (λ k h. bytes (start + stride * k)))

      size : length (interleaved xs start stride n) ≡ n
      size = length-interleaved xs start stride n

      none : Unfilled r ps xs ys start stride n → (o : Option (List ℕ)) → filling r ps (interleaved xs start stride n) ≡ o → is_none o ≡ true
      none d None e = refl
      none d (Some y) e = let s = sound r ps (interleaved xs start stride n) y all e in absurd (d.none y s.0 (record { off = s.1; checks = s.2 }))

      go : (a : Bool) → MatchBool a (Refilled r ps xs ys start stride n) (Unfilled r ps xs ys start stride n) → Recovered r ps xs ys start stride n a
      go true d =
          let f : filling r ps (interleaved xs start stride n) ≡ Some d.found =
          fills r ps (interleaved xs start stride n) d.found (omega (arith, size)) all (subst (λ k. Places k ps) (sym size) places) few d.bytes d.filled.off d.filled.checks in
          record { found = ap is_none f; word = λ _ j h. d.put.word j h ∙ sym (ap (byte_at j) f); others = d.put.others }
      go false d = record {
        found = none d (filling r ps (interleaved xs start stride n)) refl;
        word = λ e. absurd (false≢true e);
        others = λ p h. ap (λ z. get_or z p 0) d.same;
      }

  -- with nothing lost
  pub recovered-check : (a : Bool) → ps ≡ [] → ys ≡ xs → a ≡ checks r (interleaved xs start stride n) → Recovered r ps xs ys start stride n a
  unfolding filling
  recovered-check a ep ey ea = record {
    found = ap is_none f ∙ is-none a;
    word = λ t j h.
        ap (λ z. get_or z (start + stride * j) 0) ey ∙ sym (ap (byte_at j) (f ∙ ap (λ z. cond z (Some (interleaved xs start stride n)) None) t)
        ∙ ap (λ z. get_or z j 0) (interleaved-is xs start stride n) ∙ slice_index-listed (λ j. get_or xs (start + stride * j) 0) n j h);
    others = λ p h. ap (λ z. get_or z p 0) ey;
  }
    where
      f : filling r ps (interleaved xs start stride n) ≡ cond a (Some (interleaved xs start stride n)) None
      f = ap (λ z. filling r z (interleaved xs start stride n)) ep ∙ ap (λ z. cond z (Some (interleaved xs start stride n)) None) (sym ea)

      is-none : (a : Bool) → is_none (cond a (Some (interleaved xs start stride n)) None) ≡ not a
      is-none true = refl
      is-none false = refl

-- ---- C2

module _ (fs : List Bool) (xs ys ps : List ℕ) (m n : ℕ) (e : ps ≡ which (λ j. erased_in fs (m + 4 * j) n) 32) where
  pub cause-many : 6 < length ps → 2 ≡ cause (erased_in fs) (array_in xs) m n
  unfolding cause erasures
  cause-many h =
      sym (cond-false (leb (length (which (λ j. erased_in fs (m + 4 * j) n) 32)) 6) (cause_of (filled (erased_in fs) (array_in xs) m n)) 2
      (lt-leb (length (which (λ j. erased_in fs (m + 4 * j) n) 32)) 6 (subst (λ z. 6 < length z) e h)))

  filled_is : filled (erased_in fs) (array_in xs) m n ≡ filling 6 ps (interleaved xs (32 * m + n) 128 32)
  unfolding filled erasures c2
  filled_is =
      sym (ap₂ (filling 6) e
      (interleaved-is xs (32 * m + n) 128 32
      ∙ listed_same (λ j. get_or xs (32 * m + n + 128 * j) 0) (λ j. array_in xs (m + 4 * j) n) 32 (λ j h. let i : 32 * m + n + 128 * j ≡ 32 * (m + 4 * j) + n = omega arith in ap (λ i. get_or xs i 0) i)))

  module _ (few : length ps ≤ 6) (hm : m < 4) (hn : n < 32) where
    cause-few : cause (erased_in fs) (array_in xs) m n ≡ cause_of (filled (erased_in fs) (array_in xs) m n)
    unfolding cause erasures
    cause-few =
        cond-true (leb (length (which (λ j. erased_in fs (m + 4 * j) n) 32)) 6) (cause_of (filled (erased_in fs) (array_in xs) m n)) 2
        (le-leb (length (which (λ j. erased_in fs (m + 4 * j) n) 32)) 6 (subst (λ z. length z ≤ 6) e few))

    cause-of : (o : Option (List ℕ)) (a : Bool) → is_none o ≡ not a → cause_of o ≡ cond a 0 3
    cause-of None true h = absurd (false≢true (sym h))
    cause-of None false h = refl
    cause-of (Some u) true h = refl
    cause-of (Some u) false h = absurd (false≢true h)

    pub corrected-is : (a : Bool) → Recovered 6 ps xs ys (32 * m + n) 128 32 a → Corrected fs xs ys m n (cond a 0 3)
    unfolding corrected
    corrected-is a d = record {
      cause = sym (cause-few ∙ ap cause_of filled_is ∙ cause-of (filling 6 ps (interleaved xs (32 * m + n) 128 32)) a d.found);
      here = λ z b s hb hs. go (done a z) b s hb hs (eqb (b % 4) m) refl (eqb s n) refl;
    }
      where
        done : (a : Bool) → ◌≡◌ {A = ℕ} (cond a 0 3) 0 → a ≡ true
        done true z = refl
        done false z = absurd (omega (arith, z))

        elsewhere : (b s : ℕ) → s < 32 → ((b % 4 ≡ m) × (s ≡ n) → ⊥) → array_in ys b s ≡ array_in xs b s
        elsewhere b s hs h = d.others (32 * b + s) (λ j l q. h (omega arith, omega arith))

        go : a ≡ true → (b s : ℕ) → b < 128 → s < 32 → (p : Bool) → eqb (b % 4) m ≡ p → (q : Bool) → eqb s n ≡ q
            → array_in ys b s ≡ cond (p && q) (corrected (erased_in fs) (array_in xs) b s) (array_in xs b s)
        go t b s hb hs true i true j =
            let eb : b % 4 ≡ m = eqb-true (b % 4) m i in
            let es : s ≡ n = eqb-true s n j in
            let at : 32 * b + s ≡ 32 * m + n + 128 * (b / 4) = omega arith in
            ap (λ i. get_or ys i 0) at ∙ d.word t (b / 4) (omega arith)
            ∙ sym (ap₂ (λ m n. byte_at (b / 4) (filled (erased_in fs) (array_in xs) m n)) eb es ∙ ap (byte_at (b / 4)) filled_is)
        go t b s hb hs true i false j = elsewhere b s hs (λ z. eqb-false s n j z.1)
        go t b s hb hs false i q j = elsewhere b s hs (λ z. eqb-false (b % 4) m i z.0)
