-- The words of a track: by the array alone, and all of ten bits.
use Rattle.std.proofs.Common.{◌≡◌, ℕ, zero, suc, ◌/◌, ◌%◌, ◌<◌, ◌≤◌, true, cond, eqb, List, [], ◌∷◌, length, get_or, set, Some, sym, refl, subst, ap₂, arith, lit<}
use Rattle.std.proofs.lemmas.Bool.{cond_both, eq-eqb, lt-ltb}
use Rattle.channel.specs.declared.state.State.{State}
use Rattle.channel.specs.declared.state.State.TheVariants.{Zero, One}
use Rattle.tape.specs.Tape.{Track, narrow, stored}
use Rattle.layout.specs.Words.{Array}
use Rattle.channel.specs.Line.{Code, Lawful}
use Rattle.layout.specs.Line.{Address, Valid, content, sync, state, channel, track}
use Rattle.layout.proofs.Counts.{length-listed, slice_index-listed, listed_same}
use Rattle.layout.proofs.Stored.{content-lt}

-- ---- arrays that agree have one track

module _ (c : Code) (t : Address) (x y : Array) (same : (b s : ℕ) → b < 128 → s < 32 → x b s ≡ y b s) where
  content-same : (b p : ℕ) → b < 128 → p < 36 → content t x b p ≡ content t y b p
  unfolding content
  content-same b zero hb hp = refl
  content-same b (suc zero) hb hp = refl
  content-same b (suc (suc zero)) hb hp = refl
  content-same b (suc (suc (suc zero))) hb hp = refl
  content-same b (suc (suc (suc (suc s)))) hb hp = same b s hb (omega arith)

  state-same : (i : ℕ) → i ≤ 4608 → state c t x i ≡ state c t y i
  unfolding state
  state-same zero h = refl
  state-same (suc i) h =
      ap₂ (λ s v. cond (eqb (i % 36) 0) One (c.encode s v).1) (state-same i (omega arith)) (content-same (i / 36) (i % 36) (omega arith) (omega arith))

  channel-same : (i : ℕ) → i < 4608 → channel c t x i ≡ channel c t y i
  unfolding channel
  channel-same i h =
      ap₂ (λ s v. cond (eqb (i % 36) 0) (sync s) (c.encode s v).0) (state-same i (omega arith)) (content-same (i / 36) (i % 36) (omega arith) (omega arith))

  pub track-same : track c t x ≡ track c t y
  unfolding track
  track-same = listed_same (channel c t x) (channel c t y) 4608 channel-same

-- ---- its words

sync-lt : (s : State) → sync s < 1024
sync-lt Zero = lit< tt
sync-lt One = lit< tt

narrow-from : (xs : List ℕ) → ((i : ℕ) → i < length xs → get_or xs i 0 < 1024) → narrow xs ≡ true
narrow-from [] h = refl
narrow-from (x ∷ xs) h = rw (lt-ltb x 1024 (h 0 (omega arith))) (narrow-from xs (λ i l. h (suc i) (omega arith)))

module _ (c : Code) (t : Address) (x : Array) (lawful : Lawful c) (valid : Valid t) (bytes : (b s : ℕ) → x b s < 256) where
  channel-lt : (i : ℕ) → i < 4608 → channel c t x i < 1024
  unfolding channel
  channel-lt i h =
      cond_both (eqb (i % 36) 0) (sync (state c t x i)) (c.encode (state c t x i) (content t x (i / 36) (i % 36))).0 (λ z. z < 1024)
      (λ _. sync-lt (state c t x i))
      (λ _. lawful.words (state c t x i) (content t x (i / 36) (i % 36)) (content-lt c t x lawful valid bytes (i / 36) (i % 36) (omega arith)))

  length-track : length (track c t x) ≡ 4608
  unfolding track
  length-track = length-listed (channel c t x) 4608

  track-narrow : narrow (track c t x) ≡ true
  unfolding track
  track-narrow =
      narrow-from (track c t x)
      (λ i l. let k : i < 4608 = subst (λ m. i < m) length-track l in subst (λ z. z < 1024) (sym (slice_index-listed (channel c t x) 4608 i k)) (channel-lt i k))

  -- such a track is stored
  pub track-stored : (ts : List Track) (k : ℕ) → k < length ts → stored ts k (track c t x) ≡ set ts k (Some (track c t x))
  track-stored ts k h = simp (eq-eqb (length (track c t x)) 4608 length-track, lt-ltb k (length ts) h, track-narrow)
