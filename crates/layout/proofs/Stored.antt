-- The channel words of an array give its bytes back.
use Rattle.std.proofs.Common.{◌≡◌, ℕ, zero, suc, ◌+◌, ◌*◌, ◌/◌, ◌%◌, ◌<◌, true, ◌||◌, eqb, Some, sym, refl, ap, ◌∙◌, subst, ap₂, arith}
use lib.Bits.{xor_lt}
use Rattle.std.proofs.lemmas.Bool.{eq-eqb, ne_eqb, cond-true, cond-false, cond_both}
use Rattle.layout.specs.Words.{Array}
use Rattle.channel.specs.Line.{Code, Lawful}
use Rattle.layout.specs.Line.{Address, Valid, label, content, sync, state, channel}
use Rattle.channel.specs.declared.state.State.{State}
use Rattle.channel.specs.declared.state.State.TheVariants.{Zero, One}

pub label-lt : (t : Address) (b : ℕ) → Valid t → label t b < 256
label-lt t b r =
    cond_both (eqb (b % 2) 0) (t.group % 256) (t.frame + 128 * t.minus) (λ z. z < 256) (λ e. omega arith) (λ e. omega (arith, r.frames, r.signs))

is-sync : (s : State) → (eqb (sync s) 273 || eqb (sync s) 785) ≡ true
is-sync Zero = refl
is-sync One = refl

module _ (c : Code) (t : Address) (x : Array) (lawful : Lawful c) (real : Valid t) (bytes : (b s : ℕ) → x b s < 256) where
  pub content-lt : (b p : ℕ) → b < 128 → content t x b p < 256
  unfolding content
  content-lt b zero h = omega arith
  content-lt b (suc zero) h = label-lt t b real
  content-lt b (suc (suc zero)) h = omega arith
  content-lt b (suc (suc (suc zero))) h = xor_lt 8 (label t b) b (label-lt t b real) (omega arith)
  content-lt b (suc (suc (suc (suc s)))) h = bytes b s

  -- word p of block b, p from 1 on
  pub stored-byte : (b p : ℕ) → b < 128 → 0 < p → p < 36 → c.decode (channel c t x (36 * b + p)) ≡ Some (content t x b p)
  unfolding channel
  stored-byte b p hb h0 hp =
      let i : ℕ = 36 * b + p in
      let eb : i / 36 ≡ b = omega arith in
      let ep : i % 36 ≡ p = omega arith in
      let z : i % 36 ≡ 0 → ⊥ = λ e. omega (arith, e) in
      ap c.decode (cond-false (eqb (i % 36) 0) (sync (state c t x i)) (c.encode (state c t x i) (content t x (i / 36) (i % 36))).0 (ne_eqb (i % 36) 0 z))
      ∙ lawful.law (state c t x i) (content t x (i / 36) (i % 36)) (content-lt (i / 36) (i % 36) (omega arith))
      ∙ ap₂ (λ b p. Some (content t x b p)) eb ep

  pub stored-sync : (b : ℕ) → (eqb (channel c t x (36 * b)) 273 || eqb (channel c t x (36 * b)) 785) ≡ true
  unfolding channel
  stored-sync b =
      let i : ℕ = 36 * b in
      let ep : i % 36 ≡ 0 = omega arith in
      subst (λ z. (eqb z 273 || eqb z 785) ≡ true)
      (sym (cond-true (eqb (i % 36) 0) (sync (state c t x i)) (c.encode (state c t x i) (content t x (i / 36) (i % 36))).0 (eq-eqb (i % 36) 0 ep)))
      (is-sync (state c t x i))
