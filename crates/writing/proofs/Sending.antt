-- Channel words one after another.
use Rattle.std.proofs.Common.{◌≡◌, ℕ, suc, ◌+◌, ◌*◌, ◌/◌, ◌%◌, ◌<◌, eqb, List, length, get_or, set, sym, refl, ap, ◌∙◌, subst, ap₂, add-one, arith, length-set, get_or-set_other, get_or-set_same, below_more}
use lib.Bits.{bit_xor}
use Rattle.std.proofs.lemmas.Bool.{cond-true, cond-false, eq-eqb, ne_eqb}
use Rattle.channel.specs.declared.state.State.{State}
use Rattle.channel.specs.declared.state.State.TheVariants.{Zero, One}
use Rattle.layout.specs.Words.{Array}
use Rattle.channel.specs.Line.{Code}
use Rattle.layout.specs.Line.{Address, label, content, sync, state, channel, track}
use Rattle.layout.proofs.Writing.{listed-is}
use Rattle.writing.specs.Sending.{Sent}

-- what stands at a word, by its number
pub at_byte : (t : Address) (x : Array) (b s : ℕ) → x b s ≡ content t x b (4 + s)
unfolding content
at_byte t x b s = let e : 4 + s ≡ suc (suc (suc (suc s))) = omega arith in sym (ap (content t x b) e)

pub at_one : (t : Address) (x : Array) (b : ℕ) → label t b ≡ content t x b 1
unfolding content
at_one t x b = refl

pub at-two : (t : Address) (x : Array) (b : ℕ) → b ≡ content t x b 2
unfolding content
at-two t x b = refl

pub at-three : (t : Address) (x : Array) (b : ℕ) → bit_xor (label t b) b ≡ content t x b 3
unfolding content
at-three t x b = refl

-- one more place written as a function has it
fill_step : (f : ℕ → ℕ) (ws : List ℕ) (i w : ℕ) → i < length ws → w ≡ f i → ((k : ℕ) → k < i → get_or ws k 0 ≡ f k) → (k : ℕ) → k < i + 1 → get_or (set ws i w) k 0 ≡ f k
fill_step f ws i w l e h =
    below_more (λ k. get_or (set ws i w) k 0 ≡ f k) i (λ k g. get_or-set_other ws i k w 0 (λ z. omega arith) ∙ h k g) (get_or-set_same ws i w 0 l ∙ e)

module _ (c : Code) (t : Address) (x : Array) where
  pub sent-none : (ws : List ℕ) → length ws ≡ 4608 → Sent c t x ws Zero 0
  unfolding state
  sent-none ws e = record { size = e; here = refl; words = λ k h. absurd (omega arith) }

  pub sent-sync : (ws : List ℕ) (s : State) (b w : ℕ) → b < 128 → w ≡ sync s → Sent c t x ws s (36 * b) → Sent c t x (set ws (36 * b) w) One (36 * b + 1)
  unfolding state channel
  sent-sync ws s b w hb e l =
      let i : ℕ = 36 * b in
      let z : i % 36 ≡ 0 = omega arith in
      record {
        size = length-set ws i w ∙ l.size;
        here = sym (ap (state c t x) (add-one i) ∙ cond-true (eqb (i % 36) 0) One (c.encode (state c t x i) (content t x (i / 36) (i % 36))).1 (eq-eqb (i % 36) 0 z));
        words =
            fill_step (channel c t x) ws i w (omega (arith, l.size))
            (e ∙ ap sync l.here
            ∙ sym (cond-true (eqb (i % 36) 0) (sync (state c t x i)) (c.encode (state c t x i) (content t x (i / 36) (i % 36))).0 (eq-eqb (i % 36) 0 z)))
            l.words;
      }

  pub sent-more : (ws : List ℕ) (s n : State) (b p v w : ℕ) → b < 128 → 0 < p → p < 36 → v ≡ content t x b p → w ≡ (c.encode s v).0 → n ≡ (c.encode s v).1
      → Sent c t x ws s (36 * b + p) → Sent c t x (set ws (36 * b + p) w) n (36 * b + p + 1)
  unfolding state channel
  sent-more ws s n b p v w hb h0 hp ev ew en l =
      let i : ℕ = 36 * b + p in
      let eb : i / 36 ≡ b = omega arith in
      let ep : i % 36 ≡ p = omega arith in
      let z : i % 36 ≡ 0 → ⊥ = λ e. omega (arith, e) in
      let ec : v ≡ content t x (i / 36) (i % 36) = ev ∙ sym (ap₂ (content t x) eb ep) in
      record {
        size = length-set ws i w ∙ l.size;
        here =
            en ∙ ap₂ (λ s v. (c.encode s v).1) l.here ec
            ∙ sym (ap (state c t x) (add-one i) ∙ cond-false (eqb (i % 36) 0) One (c.encode (state c t x i) (content t x (i / 36) (i % 36))).1 (ne_eqb (i % 36) 0 z));
        words =
            fill_step (channel c t x) ws i w (omega (arith, l.size))
            (ew ∙ ap₂ (λ s v. (c.encode s v).0) l.here ec
            ∙ sym (cond-false (eqb (i % 36) 0) (sync (state c t x i)) (c.encode (state c t x i) (content t x (i / 36) (i % 36))).0 (ne_eqb (i % 36) 0 z)))
            l.words;
      }

  -- the same, with the places and the words as the code has them
  pub sent-at : (ws ws' : List ℕ) (s n : State) (b p v i j k : ℕ) → b < 128 → 0 < p → p < 36 → i ≡ 36 * b + p → j ≡ 36 * b + p → k ≡ 36 * b + (p + 1) → v ≡ content t x b p
      → n ≡ (c.encode s v).1 → ws' ≡ set ws i (c.encode s v).0 → Sent c t x ws s j → Sent c t x ws' n k
  sent-at ws ws' s n b p v i j k hb h0 hp ei ej ek ev en ew l =
      let q : 36 * b + p + 1 ≡ k = omega arith in
      let w : set ws (36 * b + p) (c.encode s v).0 ≡ ws' = ap (λ z. set ws z (c.encode s v).0) (sym ei) ∙ sym ew in
      subst (λ z. Sent c t x ws' n z) q
      (subst (λ u. Sent c t x u n (36 * b + p + 1)) w
      (sent-more ws s n b p v (c.encode s v).0 hb h0 hp ev refl en (subst (λ z. Sent c t x ws s z) ej l)))

  pub sent-all : (ws : List ℕ) (s : State) (i : ℕ) → i ≡ 4608 → Sent c t x ws s i → ws ≡ track c t x
  unfolding track
  sent-all ws s i e l = sym (listed-is (channel c t x) ws 4608 l.size (λ k h. sym (l.words k (omega arith))))
