-- The reading of a whole track.
use Rattle.std.proofs.Common.{◌≡◌, ℕ, ◌+◌, ◌*◌, ◌/◌, ◌%◌, ◌<◌, Bool, true, false, cond, not, ◌&&◌, ◌||◌, eqb, List, [], get_or, Some, sym, refl, ap, ◌∙◌, ap₂, arith}
use Rattle.std.proofs.lemmas.Bool.{cond-true, cond-false, eq-eqb, ne_eqb}
use Rattle.reed_solomon.specs.Interleaves.{interleaved}
use Rattle.layout.specs.Placing.{block_at, serial_at}
use Rattle.layout.specs.Words.{row, frame_byte}
use Rattle.channel.specs.Line.{Code}
use Rattle.layout.specs.Line.{Address}
use Rattle.layout.specs.Reading.{value, erased, c1_read, checks, corrected, judged, order, reading, read, lost}
use Rattle.layout.proofs.Counts.{listed_same}
use Rattle.layout.proofs.Placing.{fits}
use Rattle.layout.proofs.Light.{occupied-wide}
use Rattle.losses.specs.declared.sheet.Cause.TheVariants.{WrongHeader}
use Rattle.losses.specs.declared.sheet.LossRow.{LossRow}
use Rattle.reading.specs.Arrays.{array_in, erased_in, Taken, Found}
use Rattle.losses.specs.Losses.{cause_number, is_loss, no_loss}
use Rattle.reading.specs.Outcomes.{Judged}
use Rattle.reading.proofs.Causes.{loss-number, read_number, judged-lost, judged-read}
use Rattle.reading.proofs.InOrder.{like-order}
use Rattle.reading.proofs.Marks.{flag_is}

-- the bytes xs and marks gs after decoding, the marks fs after C1, the bytes ys after C2, and what C2 found
module _ (c : Code) (t : Address) (w : ℕ → ℕ) (xs ys : List ℕ) (gs fs : List Bool) (r : LossRow) (taken : Taken c t w xs gs 4096)
    (marks : (k : ℕ) → k < 128 → get_or fs k false ≡ (get_or gs k false || not (checks 4 (interleaved xs (64 * (k / 2) + k % 2) 2 32))))
    (f : Found (erased_in fs) (array_in xs) ys (cause_number r.cause, r.m, r.n)) where
  values : (b s : ℕ) → b < 128 → s < 32 → array_in xs b s ≡ value c t w b s
  values b s hb hs =
      let p : (32 * b + s) / 32 ≡ b = omega arith in
      let q : (32 * b + s) % 32 ≡ s = omega arith in
      taken.bytes (32 * b + s) (omega arith) ∙ ap₂ (value c t w) p q

  losses : (b s : ℕ) → b < 128 → s < 32 → erased_in fs b s ≡ erased c t w b s
  unfolding erased
  losses b s hb hs =
      let k : ℕ = 2 * (b / 2) + s % 2 in
      let l : k < 128 = omega arith in
      let p : k / 2 ≡ b / 2 = omega arith in
      let q : k % 2 ≡ s % 2 = omega arith in
      flag_is c t w k l xs gs taken (get_or fs k false) (marks k l) ∙ ap₂ (λ h l. not (c1_read c t w h l)) p q

  reads : reading c t w ≡ judged (erased_in fs) (array_in xs) t.frame order
  unfolding reading
  reads = sym (like-order (erased_in fs) (erased c t w) (array_in xs) (value c t w) losses values t.frame)

  -- a C2 word has no filling
  pub track-lost : true ≡ is_loss r.cause → Judged (reading c t w) ys r
  track-lost h =
      judged-lost (reading c t w) ys r
      (sym (reads ∙ f.first t.frame ∙ cond-false (eqb (cause_number r.cause) 0) (judged (erased_in fs) (array_in xs) t.frame []) (lost (cause_number r.cause) r.m r.n) (ne_eqb (cause_number r.cause) 0 (loss-number r.cause h))))
      h

  -- all have one
  module _ (h : false ≡ is_loss r.cause) where
    z : cause_number r.cause ≡ 0
    z = read_number r.cause h

    headed : Bool
    headed = eqb (get_or ys 0 0) (frame_byte t.frame) && eqb (get_or ys 2 0) 0

    by-header : reading c t w ≡ cond headed (read (row (corrected (erased_in fs) (array_in xs)))) (lost 4 0 0)
    unfolding judged headed
    by-header =
        reads ∙ f.first t.frame ∙ cond-true (eqb (cause_number r.cause) 0) (judged (erased_in fs) (array_in xs) t.frame []) (lost (cause_number r.cause) r.m r.n) (eq-eqb (cause_number r.cause) 0 z)
        ∙ sym (ap₂ (λ a b. cond (eqb a (frame_byte t.frame) && eqb b 0) (read (row (corrected (erased_in fs) (array_in xs)))) (lost 4 0 0))
        (f.whole z 0 0 (omega arith) (omega arith)) (f.whole z 0 2 (omega arith) (omega arith)))

    pub track-unheaded : false ≡ (eqb (get_or ys 0 0) (frame_byte t.frame) && eqb (get_or ys 2 0) 0) → Judged (reading c t w) ys (record { cause = Some WrongHeader; m = 0; n = 0 })
    unfolding headed
    track-unheaded e =
        judged-lost (reading c t w) ys (record { cause = Some WrongHeader; m = 0; n = 0 })
        (sym (by-header ∙ cond-false headed (read (row (corrected (erased_in fs) (array_in xs)))) (lost 4 0 0) (sym e))) refl

    pub track-read : true ≡ (eqb (get_or ys 0 0) (frame_byte t.frame) && eqb (get_or ys 2 0) 0) → Judged (reading c t w) ys no_loss
    unfolding row headed
    track-read e =
        judged-read (reading c t w) ys
        (ap read
        (listed_same (λ q. array_in ys (block_at q) (serial_at q)) (λ q. corrected (erased_in fs) (array_in xs) (block_at q) (serial_at q)) 2912
        (λ q h. let p = fits q h in f.whole z (block_at q) (serial_at q) p.0 (occupied-wide (block_at q) (serial_at q) p.1 p.2)))
        ∙ sym (by-header ∙ cond-true headed (read (row (corrected (erased_in fs) (array_in xs)))) (lost 4 0 0) (sym e)))
