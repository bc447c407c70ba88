-- What holds of every reading.
use Rattle.std.proofs.Common.{◌≡◌, ℕ, ◌<◌, Bool, ◌&&◌, eqb, leb, List, [], ◌∷◌, length, Some, None, Option, refl, ap, inl, inr, arith}
use Rattle.std.specs.List.{AllByRecursion}
use Rattle.std.proofs.lemmas.Bool.{cond_both, eqb-false}
use Rattle.tape.specs.Tape.{Track}
use Rattle.layout.specs.Words.{Array, wide, row, frame_byte}
use Rattle.channel.specs.Line.{Code}
use Rattle.layout.specs.Line.{Address}
use Rattle.layout.specs.Reading.{read, lost, reading, judged, order, erased, value, erasures, filled, corrected, cause, cause_of}
use Rattle.layout.specs.Group.{address, outcome}
use Rattle.layout.proofs.Light.{words-from, light-reads}
use Rattle.layout.proofs.Group
use Rattle.reading.specs.Arrays.{at}
use Rattle.losses.specs.Losses.{cause_number, cause_from, loss_row, row_after}
use Rattle.reading.specs.Groups.{tracks_of, findings, answer_of, group_after}
use Rattle.reading.specs.Laws.{outcome_number, RowsFit, TrackKept, GroupKept, GroupUnmixed}
use Rattle.reading.proofs.InOrder.{small}

module _ (isErased : ℕ → ℕ → Bool) (x : Array) where
  -- a C2 word fails by cause 2 or 3
  cause-back : (m n : ℕ) → (cause isErased x m n ≡ 0 → ⊥) → cause_number (Some (cause_from (cause isErased x m n))) ≡ cause isErased x m n
  unfolding cause
  cause-back m n =
      cond_both (leb (length (erasures isErased x m n)) 6) (cause_of (filled isErased x m n)) 2 (λ z. (z ≡ 0 → ⊥) → cause_number (Some (cause_from z)) ≡ z) (λ _. go (filled isErased x m n)) (λ _ _. refl)
    where
      go : (o : Option (List ℕ)) → (cause_of o ≡ 0 → ⊥) → cause_number (Some (cause_from (cause_of o))) ≡ cause_of o
      go None h = refl
      go (Some u) h = absurd (h refl)

  number_is : (f : ℕ) (ps : List (ℕ × ℕ)) → cause_number (loss_row (judged isErased x f ps)).cause ≡ outcome_number (judged isErased x f ps)
  unfolding judged
  number_is f [] =
      cond_both (eqb (corrected isErased x 0 0) (frame_byte f) && eqb (corrected isErased x 0 2) 0) (read (row (corrected isErased x))) (lost 4 0 0)
      (λ o. cause_number (loss_row o).cause ≡ outcome_number o) (λ _. refl) (λ _. refl)
  number_is f (p ∷ ps) =
      cond_both (eqb (cause isErased x p.0 p.1) 0) (judged isErased x f ps) (lost (cause isErased x p.0 p.1) p.0 p.1)
      (λ o. cause_number (loss_row o).cause ≡ outcome_number o) (λ _. number_is f ps) (λ e. cause-back p.0 p.1 (eqb-false (cause isErased x p.0 p.1) 0 e))

  word-is : (f : ℕ) (ps : List (ℕ × ℕ)) → AllByRecursion (λ p. (p.0 < 4) × (p.1 < wide p.0)) ps
      → ((loss_row (judged isErased x f ps)).m < 4) × ((loss_row (judged isErased x f ps)).n < 32)
  unfolding judged
  word-is f [] a =
      cond_both (eqb (corrected isErased x 0 0) (frame_byte f) && eqb (corrected isErased x 0 2) 0) (read (row (corrected isErased x))) (lost 4 0 0)
      (λ o. ((loss_row o).m < 4) × ((loss_row o).n < 32)) (λ _. (omega arith, omega arith)) (λ _. (omega arith, omega arith))
  word-is f (p ∷ ps) a =
      cond_both (eqb (cause isErased x p.0 p.1) 0) (judged isErased x f ps) (lost (cause isErased x p.0 p.1) p.0 p.1)
      (λ o. ((loss_row o).m < 4) × ((loss_row o).n < 32)) (λ _. word-is f ps a.1) (λ _. (a.0.0, small p.0 p.1 a.0.1))

cause-fits : (c : Code) (t : Address) (track : Track) → cause_number (loss_row (outcome c t track)).cause ≡ outcome_number (outcome c t track)
unfolding reading
cause-fits c t None = refl
cause-fits c t (Some ws) = number_is (erased c t (at ws)) (value c t (at ws)) t.frame order

word_fits : (c : Code) (t : Address) (track : Track) → ((loss_row (outcome c t track)).m < 4) × ((loss_row (outcome c t track)).n < 32)
unfolding reading
word_fits c t None = (omega arith, omega arith)
word_fits c t (Some ws) = word-is (erased c t (at ws)) (value c t (at ws)) t.frame order (words-from 0 4 (omega arith))

pub rows_fit : RowsFit
rows_fit = record { cause = cause-fits; word = word_fits }

pub track-kept : TrackKept
track-kept c g t x ws old lawful h checked headed light =
    let e : reading c (address g t) (at ws) ≡ read (row x) = light-reads c (address g t) x (at ws) lawful (record { frames = omega arith; signs = omega arith }) checked headed light in
    (ap loss_row e, ap (λ o. row_after o old) e)

pub group-kept : GroupKept
group-kept c tap start g tracks group old x bad lawful written spared blank =
    let e = Group.group-kept c tap start g group x (tracks_of g tracks) bad lawful written spared blank in
    (ap (answer_of (findings c g tracks)) e, ap (λ f. group_after f old) e)

pub group-unmixed : GroupUnmixed
group-unmixed c tap start g tracks group old x bad lawful written spared =
    elim (Group.group-never-mixed c tap start g group x (tracks_of g tracks) bad lawful written spared) [
      | inl e ↦ inl (ap (answer_of (findings c g tracks)) e, ap (λ f. group_after f old) e)
      | inr e ↦ inr (e.0, e.1, ap (answer_of (findings c g tracks)) e.2, ap (λ f. group_after f old) e.2)
    ]
