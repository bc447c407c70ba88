-- C2 words filled one after another.
use Rattle.std.proofs.Common.{◌≡◌, ℕ, zero, suc, ◌+◌, ◌-◌, ◌*◌, ◌/◌, ◌%◌, ◌<◌, ◌≤◌, Bool, true, false, cond, ◌&&◌, ◌||◌, eqb, ltb, leb, List, [], ◌∷◌, ◌++◌, map, length, sym, refl, ap, ◌∙◌, subst, ap₂, inl, inr, arith}
use Rattle.std.specs.List.{range_with_len, AllByRecursion}
use Rattle.std.proofs.lemmas.Bool.{cond-true, cond-false, cond_both, eqb-true, eqb-false, eq-eqb, ne_eqb, lt-ltb, le-ltb, and_from, and_left, and_right, or_from, or_left, or_right, cases_lt, cases_eq}
use Rattle.layout.specs.Counts.{which}
use Rattle.layout.specs.Placing.{block_at, serial_at}
use Rattle.layout.specs.Words.{Array, c2, wide, row, frame_byte}
use Rattle.layout.specs.Reading.{filled, filling, erasures, cause, cause_of, corrected, byte_at, judged, order, words_from, read, lost}
use Rattle.layout.proofs.Counts.{listed_same}
use Rattle.layout.proofs.Placing.{fits}
use Rattle.layout.proofs.Light.{words-from}
use Rattle.reading.specs.Arrays.{array_in, before, words_on, Left, Found}

pub small : (m n : ℕ) → n < wide m → n < 32
small m n h = cond_both (eqb (m % 2) 0) 32 24 (λ z. n < z → n < 32) (λ e l. omega arith) (λ e l. omega arith) h

pub which-same : (f g : ℕ → Bool) (n : ℕ) → ((k : ℕ) → k < n → f k ≡ g k) → which f n ≡ which g n
unfolding which
which-same f g zero h = refl
which-same f g (suc n) h = ap₂ (λ t ps. cond t (n ∷ ps) ps) (h n (omega arith)) (which-same f g n (λ k l. h k (omega arith)))

module _ (isErased : ℕ → ℕ → Bool) (x : Array) where
  pub left-start : (ys : List ℕ) → ((b s : ℕ) → b < 128 → s < wide (b % 4) → array_in ys b s ≡ x b s) → Left isErased x ys 0 0 order
  left-start ys h = record {
    rest = λ f. refl;
    done = λ b s hb hs.
        h b s hb hs
        ∙ sym (cond-false (before (b % 4) s 0 0) (corrected isErased x b s) (x b s)
        (or_from (ltb (b % 4) 0) (eqb (b % 4) 0 && ltb s 0) (le-ltb (b % 4) 0 (omega arith)) (and_right (eqb (b % 4) 0) (ltb s 0) (le-ltb s 0 (omega arith)))));
  }

  pub left_in : (ys : List ℕ) (m : ℕ) → m < 4 → Left isErased x ys m 0 (words_from m (4 - m)) → Left isErased x ys m 0 (words_on m 0)
  unfolding words_from
  left_in ys m h l =
      let e : 4 - m ≡ suc (4 - (m + 1)) = omega arith in
      let z : wide m ≡ wide m - 0 = omega arith in
      record { rest = λ f. l.rest f ∙ ap (λ k. judged isErased x f (words_from m k)) e ∙ ap (λ k. judged isErased x f (map (λ i. (m, i)) (range_with_len 0 k) ++ words_from (m + 1) (4 - (m + 1)))) z; done = l.done }

  -- the word at (m, n) is as it was
  module _ (ys : List ℕ) (m n : ℕ) (hm : m < 4) (hn : n < wide m) (l : Left isErased x ys m n (words_on m n)) where
    word_same : c2 (array_in ys) m n ≡ c2 x m n
    unfolding c2
    word_same =
        listed_same (λ j. array_in ys (m + 4 * j) n) (λ j. x (m + 4 * j) n) 32
        (λ j hj.
        let e : (m + 4 * j) % 4 ≡ m = omega arith in
        l.done (m + 4 * j) n (omega arith) (subst (λ z. n < wide z) (sym e) hn)
        ∙ cond-false (before ((m + 4 * j) % 4) n m n) (corrected isErased x (m + 4 * j) n) (x (m + 4 * j) n)
        (or_from (ltb ((m + 4 * j) % 4) m) (eqb ((m + 4 * j) % 4) m && ltb n n) (le-ltb ((m + 4 * j) % 4) m (omega arith))
        (and_right (eqb ((m + 4 * j) % 4) m) (ltb n n) (le-ltb n n (omega arith)))))

    filled-same : filled isErased (array_in ys) m n ≡ filled isErased x m n
    unfolding filled erasures
    filled-same = ap (filling 6 (erasures isErased x m n)) word_same

    cause-same : cause isErased (array_in ys) m n ≡ cause isErased x m n
    unfolding cause erasures
    cause-same = ap (λ o. cond (leb (length (erasures isErased x m n)) 6) (cause_of o) 2) filled-same

    next_word : (f : ℕ) → judged isErased x f (words_on m n) ≡ cond (eqb (cause isErased x m n) 0) (judged isErased x f (words_on m (n + 1))) (lost (cause isErased x m n) m n)
    unfolding judged
    next_word f =
        let e : wide m - n ≡ suc (wide m - (n + 1)) = omega arith in
        ap (λ k. judged isErased x f (map (λ i. (m, i)) (range_with_len n k) ++ words_from (m + 1) (4 - (m + 1)))) e

    pub left-fail : (zs : List ℕ) (fs : List Bool) (r : ℕ) → r ≡ cause isErased (array_in ys) m n → (r ≡ 0 → ⊥) → Found isErased x zs (r, m, n)
    left-fail zs fs r e h = record {
      first = λ f.
          let er : r ≡ cause isErased x m n = e ∙ cause-same in
          l.rest f ∙ next_word f ∙ ap (λ z. cond (eqb z 0) (judged isErased x f (words_on m (n + 1))) (lost z m n)) (sym er)
          ∙ cond-false (eqb r 0) (judged isErased x f (words_on m (n + 1))) (lost r m n) (ne_eqb r 0 h) ∙ sym (cond-false (eqb r 0) (judged isErased x f []) (lost r m n) (ne_eqb r 0 h));
      whole = λ z. absurd (h z);
    }

    corrected-same : (b s : ℕ) → b % 4 ≡ m → s ≡ n → corrected isErased (array_in ys) b s ≡ corrected isErased x b s
    unfolding corrected
    corrected-same b s eb es =
        ap₂ (λ m n. byte_at (b / 4) (filled isErased (array_in ys) m n)) eb es ∙ ap (byte_at (b / 4)) filled-same ∙ sym (ap₂ (λ m n. byte_at (b / 4) (filled isErased x m n)) eb es)

    pub left_step : (zs : List ℕ) (r : ℕ) → r ≡ 0 → r ≡ cause isErased (array_in ys) m n
        → ((b s : ℕ) → b < 128 → s < 32 → array_in zs b s ≡ cond (eqb (b % 4) m && eqb s n) (corrected isErased (array_in ys) b s) (array_in ys b s)) → Left isErased x zs m (n + 1) (words_on m (n + 1))
    left_step zs r z e h = record {
      rest = λ f. l.rest f ∙ next_word f ∙ cond-true (eqb (cause isErased x m n) 0) (judged isErased x f (words_on m (n + 1))) (lost (cause isErased x m n) m n) (eq-eqb (cause isErased x m n) 0 (sym (e ∙ cause-same) ∙ z));
      done = each;
    }
      where
        each : (b s : ℕ) → b < 128 → s < wide (b % 4) → array_in zs b s ≡ cond (before (b % 4) s m (n + 1)) (corrected isErased x b s) (x b s)
        each b s hb hs = h b s hb (small (b % 4) s hs) ∙ go (eqb (b % 4) m) refl (eqb s n) refl
          where
            keep : (ltb (b % 4) m || (eqb (b % 4) m && ltb s n)) ≡ (ltb (b % 4) m || (eqb (b % 4) m && ltb s (n + 1)))
                → array_in ys b s ≡ cond (before (b % 4) s m (n + 1)) (corrected isErased x b s) (x b s)
            keep q = l.done b s hb hs ∙ ap (λ t. cond t (corrected isErased x b s) (x b s)) q

            go : (p : Bool) → eqb (b % 4) m ≡ p → (q : Bool) → eqb s n ≡ q
                → cond (p && q) (corrected isErased (array_in ys) b s) (array_in ys b s) ≡ cond (before (b % 4) s m (n + 1)) (corrected isErased x b s) (x b s)
            go true i true j =
                corrected-same b s (eqb-true (b % 4) m i) (eqb-true s n j)
                ∙ sym (cond-true (before (b % 4) s m (n + 1)) (corrected isErased x b s) (x b s)
                (or_right (ltb (b % 4) m) (eqb (b % 4) m && ltb s (n + 1)) (and_from (eqb (b % 4) m) (ltb s (n + 1)) i (lt-ltb s (n + 1) (omega (arith, eqb-true s n j))))))
            go true i false j = keep (ap (λ z. ltb (b % 4) m || (eqb (b % 4) m && z)) (later (eqb-false s n j)))
              where
                later : (s ≡ n → ⊥) → ltb s n ≡ ltb s (n + 1)
                later d =
                    elim (cases_lt s n) [
                      | inl k ↦ lt-ltb s n k ∙ sym (lt-ltb s (n + 1) (omega arith))
                      | inr k ↦ le-ltb s n k ∙ sym (le-ltb s (n + 1) (omega (arith, d)))
                    ]
            go false i q j = keep (ap (λ z. ltb (b % 4) m || z) (and_left (eqb (b % 4) m) (ltb s n) i ∙ sym (and_left (eqb (b % 4) m) (ltb s (n + 1)) i)))

  pub left_out : (ys : List ℕ) (m n : ℕ) → n ≡ wide m → Left isErased x ys m n (words_on m n) → Left isErased x ys (m + 1) 0 (words_from (m + 1) (4 - (m + 1)))
  left_out ys m n e l = record {
    rest = λ f. let z : wide m - n ≡ 0 = omega arith in l.rest f ∙ ap (λ k. judged isErased x f (map (λ i. (m, i)) (range_with_len n k) ++ words_from (m + 1) (4 - (m + 1)))) z;
    done = λ b s hb hs. l.done b s hb hs ∙ ap (λ t. cond t (corrected isErased x b s) (x b s)) (turn b s hs);
  }
    where
      turn : (b s : ℕ) → s < wide (b % 4) → before (b % 4) s m n ≡ before (b % 4) s (m + 1) 0
      turn b s hs =
          elim (cases_lt (b % 4) m) [
            | inl k ↦ or_left (ltb (b % 4) m) (eqb (b % 4) m && ltb s n) (lt-ltb (b % 4) m k) ∙ sym (or_left (ltb (b % 4) (m + 1)) (eqb (b % 4) (m + 1) && ltb s 0) (lt-ltb (b % 4) (m + 1) (omega arith)))
            | inr k ↦ elim (cases_eq (b % 4) m) [ inl q ↦ there q | inr q ↦ past q k ]
          ]
        where
          there : b % 4 ≡ m → before (b % 4) s m n ≡ before (b % 4) s (m + 1) 0
          there q =
              or_right (ltb (b % 4) m) (eqb (b % 4) m && ltb s n)
              (and_from (eqb (b % 4) m) (ltb s n) (eq-eqb (b % 4) m q) (lt-ltb s n (subst (λ z. s < z) (ap wide q ∙ sym e) hs)))
              ∙ sym (or_left (ltb (b % 4) (m + 1)) (eqb (b % 4) (m + 1) && ltb s 0) (lt-ltb (b % 4) (m + 1) (omega arith)))

          past : (b % 4 ≡ m → ⊥) → m ≤ b % 4 → before (b % 4) s m n ≡ before (b % 4) s (m + 1) 0
          past q k =
              or_from (ltb (b % 4) m) (eqb (b % 4) m && ltb s n) (le-ltb (b % 4) m k) (and_left (eqb (b % 4) m) (ltb s n) (ne_eqb (b % 4) m q))
              ∙ sym (or_from (ltb (b % 4) (m + 1)) (eqb (b % 4) (m + 1) && ltb s 0) (le-ltb (b % 4) (m + 1) (omega (arith, q))) (and_right (eqb (b % 4) (m + 1)) (ltb s 0) (le-ltb s 0 (omega arith))))

  pub left_end : (ys : List ℕ) (m : ℕ) → m ≡ 4 → Left isErased x ys m 0 (words_from m (4 - m)) → Found isErased x ys (0, 0, 0)
  unfolding words_from
  left_end ys m e l = record {
    first = λ f. l.rest f ∙ ap (λ m. judged isErased x f (words_from m (4 - m))) e;
    whole = λ _ b s hb hs. l.done b s hb hs ∙ cond-true (before (b % 4) s m 0) (corrected isErased x b s) (x b s) (or_left (ltb (b % 4) m) (eqb (b % 4) m && ltb s 0) (lt-ltb (b % 4) m (omega arith)));
  }

-- ---- arrays and losses that agree on the 4,096 places are judged alike

module _ (isErased other : ℕ → ℕ → Bool) (x y : Array) (same-erased : (b s : ℕ) → b < 128 → s < 32 → isErased b s ≡ other b s) (same : (b s : ℕ) → b < 128 → s < 32 → x b s ≡ y b s) where
  like-erasures : (m n : ℕ) → m < 4 → n < 32 → erasures isErased x m n ≡ erasures other y m n
  unfolding erasures
  like-erasures m n hm hn = which-same (λ j. isErased (m + 4 * j) n) (λ j. other (m + 4 * j) n) 32 (λ j hj. same-erased (m + 4 * j) n (omega arith) hn)

  like-filled : (m n : ℕ) → m < 4 → n < 32 → filled isErased x m n ≡ filled other y m n
  unfolding filled c2
  like-filled m n hm hn =
      ap₂ (filling 6) (like-erasures m n hm hn) (listed_same (λ j. x (m + 4 * j) n) (λ j. y (m + 4 * j) n) 32 (λ j hj. same (m + 4 * j) n (omega arith) hn))

  like-cause : (m n : ℕ) → m < 4 → n < 32 → cause isErased x m n ≡ cause other y m n
  unfolding cause
  like-cause m n hm hn = ap₂ (λ h o. cond (leb (length h) 6) (cause_of o) 2) (like-erasures m n hm hn) (like-filled m n hm hn)

  pub like-corrected : (b s : ℕ) → s < 32 → corrected isErased x b s ≡ corrected other y b s
  unfolding corrected
  like-corrected b s hs = ap (byte_at (b / 4)) (like-filled (b % 4) s (omega arith) hs)

  like-judged : (f : ℕ) (ps : List (ℕ × ℕ)) → AllByRecursion (λ p. (p.0 < 4) × (p.1 < wide p.0)) ps → judged isErased x f ps ≡ judged other y f ps
  unfolding judged row
  like-judged f [] a =
      ap₂ (λ (r : List ℕ) (t : Bool). cond t (read r) (lost 4 0 0))
      (listed_same (λ q. corrected isErased x (block_at q) (serial_at q)) (λ q. corrected other y (block_at q) (serial_at q)) 2912 (λ q h. like-corrected (block_at q) (serial_at q) (fits q h).1))
      (ap₂ (λ u v. eqb u (frame_byte f) && eqb v 0) (like-corrected 0 0 (omega arith)) (like-corrected 0 2 (omega arith)))
  like-judged f (p ∷ ps) a =
      ap₂ (λ k o. cond (eqb k 0) o (lost k p.0 p.1)) (like-cause p.0 p.1 a.0.0 (small p.0 p.1 a.0.1)) (like-judged f ps a.1)

  pub like-order : (f : ℕ) → judged isErased x f order ≡ judged other y f order
  like-order f = like-judged f order (words-from 0 4 (omega arith))
