-- Causes and their numbers, and the finding on a track.
use Rattle.std.proofs.Common.{◌≡◌, ℕ, true, false, List, Some, None, Option, sym, refl, ap, subst, arith}
use Rattle.std.proofs.lemmas.Bool.{cond-true, true≢false, false≢true}
use Rattle.layout.specs.Reading.{Outcome, read, lost}
use Rattle.layout.specs.Words.{row}
use Rattle.losses.specs.declared.sheet.Cause.{Cause}
use Rattle.losses.specs.declared.sheet.Cause.TheVariants.{Blank, TooManyLost, NoFilling, WrongHeader}
use Rattle.losses.specs.declared.sheet.LossRow.{LossRow}
use Rattle.reading.specs.Arrays.{array_in}
use Rattle.losses.specs.Losses.{cause_number, cause_from, is_loss, no_loss}
use Rattle.reading.specs.Outcomes.{Judged}

pub loss-number : (x : Option Cause) → true ≡ is_loss x → cause_number x ≡ 0 → ⊥
loss-number None h e = true≢false h
loss-number (Some Blank) h e = omega (arith, e)
loss-number (Some TooManyLost) h e = omega (arith, e)
loss-number (Some NoFilling) h e = omega (arith, e)
loss-number (Some WrongHeader) h e = omega (arith, e)

pub read_number : (x : Option Cause) → false ≡ is_loss x → cause_number x ≡ 0
read_number None h = refl
read_number (Some c) h = absurd (false≢true h)

cause-back : (x : Option Cause) → true ≡ is_loss x → Some (cause_from (cause_number x)) ≡ x
cause-back None h = absurd (true≢false h)
cause-back (Some Blank) h = refl
cause-back (Some TooManyLost) h = refl
cause-back (Some NoFilling) h = refl
cause-back (Some WrongHeader) h = refl

pub judged-lost : (o : Outcome) (ys : List ℕ) (r : LossRow) → lost (cause_number r.cause) r.m r.n ≡ o → true ≡ is_loss r.cause → Judged o ys r
judged-lost o ys r e h =
    subst (λ z. Judged z ys r) e
    (record {
      finding = ap (λ x. record { cause = x; m = r.m; n = r.n }) (sym (cause-back r.cause h));
      bytes = λ old. sym (cond-true (is_loss r.cause) old (row (array_in ys)) (sym h));
    })

pub judged-read : (o : Outcome) (ys : List ℕ) → read (row (array_in ys)) ≡ o → Judged o ys no_loss
judged-read o ys e = subst (λ z. Judged z ys no_loss) e (record { finding = refl; bytes = λ old. refl })
