-- The C1 words that are marked as lost.
use Rattle.std.proofs.Common.{◌≡◌, ℕ, suc, ◌+◌, ◌*◌, ◌/◌, ◌%◌, ◌<◌, Bool, true, false, not, ◌&&◌, ◌||◌, eqb, List, length, get_or, set, Option, sym, refl, ap, ◌∙◌, subst, ap₂, add-one, arith, get_or-set_other, get_or-set_same}
use native.Mathlib.Decide.{ℕ_discrete}
use Rattle.std.proofs.lemmas.Bool.{eq-eqb, eqb-true, ne_eqb}
use Rattle.reed_solomon.specs.Interleaves.{interleaved}
use Rattle.layout.specs.Counts.{every, listed}
use Rattle.layout.specs.Words.{c1, c1_block, c1_serial}
use Rattle.channel.specs.Line.{Code}
use Rattle.layout.specs.Line.{Address}
use Rattle.channel.specs.Listed.{or_zero, is_lost}
use Rattle.layout.specs.Reading.{block_lost, byte_lost, value, c1_read, checks}
use Rattle.layout.proofs.Counts.{every-at, every-from, listed_same}
use Rattle.reading.specs.Arrays.{c1_number, lost_in, Taken}
use Rattle.reading.proofs.Lists.{fill_step}

pub same_tests : (a b : Bool) → (a ≡ true → b ≡ true) → (b ≡ true → a ≡ true) → a ≡ b
same_tests true b f g = sym (f refl)
same_tests false true f g = g refl
same_tests false false f g = refl

pub interleaved-is : (xs : List ℕ) (start stride n : ℕ) → interleaved xs start stride n ≡ listed (λ j. get_or xs (start + stride * j) 0) n
unfolding interleaved listed
interleaved-is xs start stride n = refl

mark-here : (e l : Bool) → (not e || l) ≡ not (not (true && l) && e)
mark-here true true = refl
mark-here true false = refl
mark-here false true = refl
mark-here false false = refl

mark-else : (e l : Bool) → not e ≡ not (not (false && l) && e)
mark-else true l = refl
mark-else false l = refl

-- the place of byte i in its C1 word
number-high : (i k : ℕ) → c1_number i ≡ k → k / 2 ≡ i / 64
number-high i k e = omega arith

number-low : (i k : ℕ) → c1_number i ≡ k → k % 2 ≡ i % 2
number-low i k e = omega arith

block_of : (i : ℕ) → i / 32 ≡ 2 * (i / 64) + i % 64 / 2 / 16
block_of i = omega arith

serial-of : (i : ℕ) → i % 32 ≡ i % 2 + 2 * (i % 64 / 2 % 16)
serial-of i = omega arith

half : (i : ℕ) → i % 64 / 2 < 32
half i = omega arith

module _ (c : Code) (t : Address) (w : ℕ → ℕ) where
  pub taken_none : (xs : List ℕ) (fs : List Bool) → ((k : ℕ) → k < 128 → get_or fs k false ≡ false) → Taken c t w xs fs 0
  unfolding every
  taken_none xs fs h = record { bytes = λ k l. absurd (omega arith); marks = h }

  place-more : (xs : List ℕ) (fs : List Bool) (p q v : ℕ) (g : Bool) → p < length xs → q < length fs → q ≡ c1_number p → v ≡ value c t w (p / 32) (p % 32)
      → g ≡ (get_or fs q false || byte_lost c t w (p / 32) (p % 32)) → Taken c t w xs fs p → Taken c t w (set xs p v) (set fs q g) (p + 1)
  unfolding every
  place-more xs fs p q v g hp hq eq ev eg s = record {
    bytes = fill_step (λ k. value c t w (k / 32) (k % 32)) xs p 0 v hp ev s.bytes;
    marks = λ k h. mark k h (ℕ_discrete k q) ∙ ap (λ n. not (every (λ i. not (lost_in c t w k i)) n)) (sym (add-one p));
  }
    where
      mark : (k : ℕ) → k < 128 → Dec (k ≡ q) → get_or (set fs q g) k false ≡ not (every (λ i. not (lost_in c t w k i)) (suc p))
      mark k h (yes e) =
          ap (λ z. get_or (set fs q g) z false) e ∙ get_or-set_same fs q g false hq ∙ eg
          ∙ ap (λ z. z || byte_lost c t w (p / 32) (p % 32)) (ap (λ z. get_or fs z false) (sym e) ∙ s.marks k h)
          ∙ mark-here (every (λ i. not (lost_in c t w k i)) p) (byte_lost c t w (p / 32) (p % 32))
          ∙ ap (λ z. not (not (z && byte_lost c t w (p / 32) (p % 32)) && every (λ i. not (lost_in c t w k i)) p)) (sym (eq-eqb (c1_number p) k (sym eq ∙ sym e)))
      mark k h (no d) =
          get_or-set_other fs q k g false d ∙ s.marks k h
          ∙ mark-else (every (λ i. not (lost_in c t w k i)) p) (byte_lost c t w (p / 32) (p % 32))
          ∙ ap (λ z. not (not (z && byte_lost c t w (p / 32) (p % 32)) && every (λ i. not (lost_in c t w k i)) p)) (sym (ne_eqb (c1_number p) k (λ e. d (sym e ∙ sym eq))))

  -- the byte of one word more
  pub taken_more : (xs : List ℕ) (fs : List Bool) (b s v : ℕ) (gone none either g : Bool) (o : Option ℕ) → b < 128 → s < 32 → length xs ≡ 4096 → length fs ≡ 128
      → gone ≡ block_lost c t w b → o ≡ c.decode (w (36 * b + (4 + s))) → v ≡ or_zero o → none ≡ is_lost o → either ≡ (gone || none)
      → g ≡ (get_or fs (2 * (b / 2) + s % 2) false || either) → Taken c t w xs fs (32 * b + s)
      → Taken c t w (set xs (32 * b + s) v) (set fs (2 * (b / 2) + s % 2) g) (32 * b + (s + 1))
  unfolding value byte_lost
  taken_more xs fs b s v gone none either g o hb hs ex ef egone eo ev en ee eg k =
      let p : (32 * b + s) / 32 ≡ b = omega arith in
      let q : (32 * b + s) % 32 ≡ s = omega arith in
      let n : 32 * b + s + 1 ≡ 32 * b + (s + 1) = omega arith in
      subst (Taken c t w (set xs (32 * b + s) v) (set fs (2 * (b / 2) + s % 2) g)) n
      (place-more xs fs (32 * b + s) (2 * (b / 2) + s % 2) v g (omega arith) (omega arith) (omega arith)
      (ev ∙ ap or_zero eo ∙ sym (ap₂ (value c t w) p q))
      (eg ∙ ap (λ z. get_or fs (2 * (b / 2) + s % 2) false || z) (ee ∙ ap₂ ◌||◌ egone (en ∙ ap is_lost eo) ∙ sym (ap₂ (byte_lost c t w) p q))) k)

  -- ---- a C1 word is marked if one of its bytes is lost

  module _ (k : ℕ) (hk : k < 128) where
    unmarked : ℕ → Bool
    unmarked i = not (lost_in c t w k i)

    kept : ℕ → Bool
    kept j = not (byte_lost c t w (c1_block (k / 2) j) (c1_serial (k % 2) j))

    into : every unmarked 4096 ≡ true → every kept 32 ≡ true
    unfolding unmarked kept
    into a = every-from kept 32 each
      where
        each : (j : ℕ) → j < 32 → kept j ≡ true
        each j h =
            let i : ℕ = 64 * (k / 2) + k % 2 + 2 * j in
            let p : i / 32 ≡ 2 * (k / 2) + j / 16 = omega arith in
            let q : i % 32 ≡ k % 2 + 2 * (j % 16) = omega arith in
            let n : c1_number i ≡ k = omega arith in
            sym (ap₂ (λ b s. not (byte_lost c t w b s)) p q) ∙ sym (ap (λ z. not (z && byte_lost c t w (i / 32) (i % 32))) (eq-eqb (c1_number i) k n))
            ∙ every-at unmarked 4096 a i (omega arith)

    back : every kept 32 ≡ true → every unmarked 4096 ≡ true
    unfolding unmarked kept
    back a = every-from unmarked 4096 each
      where
        each : (i : ℕ) → i < 4096 → unmarked i ≡ true
        each i h = go (eqb (c1_number i) k) refl
          where
            go : (z : Bool) → eqb (c1_number i) k ≡ z → not (z && byte_lost c t w (i / 32) (i % 32)) ≡ true
            go false e = refl
            go true e =
                let n : c1_number i ≡ k = eqb-true (c1_number i) k e in
                let j : ℕ = i % 64 / 2 in
                let p : i / 32 ≡ 2 * (k / 2) + j / 16 = block_of i ∙ ap (λ h. 2 * h + j / 16) (sym (number-high i k n)) in
                let q : i % 32 ≡ k % 2 + 2 * (j % 16) = serial-of i ∙ ap (λ l. l + 2 * (j % 16)) (sym (number-low i k n)) in
                ap₂ (λ b s. not (byte_lost c t w b s)) p q ∙ every-at kept 32 a j (half i)

    marked-is : every (λ i. not (lost_in c t w k i)) 4096 ≡ every (λ j. not (byte_lost c t w (c1_block (k / 2) j) (c1_serial (k % 2) j))) 32
    unfolding unmarked kept
    marked-is = same_tests (every unmarked 4096) (every kept 32) into back

    module _ (xs : List ℕ) (fs : List Bool) (taken : Taken c t w xs fs 4096) where
      word-is : interleaved xs (64 * (k / 2) + k % 2) 2 32 ≡ c1 (value c t w) (k / 2) (k % 2)
      unfolding c1
      word-is =
          interleaved-is xs (64 * (k / 2) + k % 2) 2 32
          ∙ listed_same (λ j. get_or xs (64 * (k / 2) + k % 2 + 2 * j) 0) (λ j. value c t w (c1_block (k / 2) j) (c1_serial (k % 2) j)) 32 each
        where
          each : (j : ℕ) → j < 32 → get_or xs (64 * (k / 2) + k % 2 + 2 * j) 0 ≡ value c t w (c1_block (k / 2) j) (c1_serial (k % 2) j)
          each j h =
              let i : ℕ = 64 * (k / 2) + k % 2 + 2 * j in
              let p : i / 32 ≡ 2 * (k / 2) + j / 16 = omega arith in
              let q : i % 32 ≡ k % 2 + 2 * (j % 16) = omega arith in
              taken.bytes i (omega arith) ∙ ap₂ (value c t w) p q

      join : (a b : Bool) → (not a || not b) ≡ not (a && b)
      join true b = refl
      join false b = refl

      pub flag_is : (f : Bool) → f ≡ (get_or fs k false || not (checks 4 (interleaved xs (64 * (k / 2) + k % 2) 2 32))) → f ≡ not (c1_read c t w (k / 2) (k % 2))
      unfolding c1_read
      flag_is f e =
          e ∙ ap₂ (λ a b. a || not (checks 4 b)) (taken.marks k hk ∙ ap not marked-is) word-is
          ∙ join (every (λ j. not (byte_lost c t w (c1_block (k / 2) j) (c1_serial (k % 2) j))) 32) (checks 4 (c1 (value c t w) (k / 2) (k % 2)))
