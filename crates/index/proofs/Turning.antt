-- One turn of a walk over the entries that a reader has left.
use Rattle.std.proofs.Common.{◌≡◌, ℕ, suc, ◌+◌, ◌-◌, ◌≤◌, true, false, cond, ◌∷◌, length, Err, sym, ap, ◌∙◌, subst, ap₂, arith}
use Rattle.std.proofs.lemmas.Bool.{eq-eqb, ne_eqb, cond-true, cond-false}
use Rattle.index.specs.declared.fault.IndexFault.TheVariants.{EntryCount}
use Rattle.index.specs.declared.tally.Tally.{Tally}
use Rattle.index.specs.Entries.{Entry}
use Rattle.index.specs.Walk.{next, none}
use Rattle.index.specs.Cursors.{Cursor, Sound, ahead, coming, advanced, remaining}
use Rattle.index.specs.Counted.{stepped, closed, tallied}
use Rattle.index.proofs.Coming.{coming-bytes, left-some, remaining-more, remaining-none, sound-advanced, none-remaining}

module _ (limit i : ℕ) (t : Tally) (c d : Cursor) (p : Entry) (s : Sound c) (a : ahead c ≡ true) (e : p ≡ coming c) (f : d ≡ cond (ahead c) (advanced c) c) where
  -- the reader after its entry
  abbrev moved_on : d ≡ advanced c
  moved_on = f ∙ cond-true (ahead c) (advanced c) c a

  pub turn-sound : Sound d
  turn-sound = subst Sound (sym moved_on) (sound-advanced c s a)

  pub turn-left : c.left ≡ d.left + 1
  turn-left = omega (arith, ap (λ (x : Cursor). x.left) moved_on, (left-some c s a).0)

  pub turn-place : d.place ≡ c.place + length p.bytes
  turn-place = ap (λ (x : Cursor). x.place) moved_on ∙ ap (λ (x : Entry). c.place + length x.bytes) (sym e)

  pub turn-bytes : length p.bytes ≤ 126632 - c.place
  turn-bytes = subst (λ (x : Entry). length x.bytes ≤ 126632 - c.place) (sym e) (coming-bytes c s)

  entries-are : remaining c ≡ p ∷ remaining d
  entries-are = remaining-more c s a ∙ ap₂ (λ (x : Entry) (y : Cursor). x ∷ remaining y) (sym e) (sym moved_on)

  pub last_turn : d.left ≡ 0 → tallied limit i t (remaining c) ≡ closed limit i t p
  unfolding tallied
  last_turn z = ap (tallied limit i t) entries-are ∙ cond-true (none (remaining d)) _ _ (none-remaining d ∙ eq-eqb d.left 0 z)

  pub more_turn : (d.left ≡ 0 → ⊥) → tallied limit i t (remaining c) ≡ next (stepped limit i t p) (λ u. tallied limit (suc i) u (remaining d))
  unfolding tallied
  more_turn z = ap (tallied limit i t) entries-are ∙ cond-false (none (remaining d)) _ _ (none-remaining d ∙ ne_eqb d.left 0 z)

-- no entry is left
pub no-turn : (limit i : ℕ) (t : Tally) (c : Cursor) → Sound c → ahead c ≡ false → tallied limit i t (remaining c) ≡ Err EntryCount
unfolding tallied
no-turn limit i t c s a = ap (tallied limit i t) (remaining-none c s a).1
