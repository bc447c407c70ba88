use Rattle.std.proofs.Common.{◌≡◌, ℕ, ◌<◌, min, refl, inl, inr, arith}
use Rattle.std.proofs.lemmas.Bool.{cases_lt}
use Rattle.reed_solomon.specs.Words.{syndrome}
use Rattle.reed_solomon.proofs.Cycle.{checks-all}
use Rattle.reed_solomon.proofs.syndromes.checks.Goals as goal

pub returns-then-first_vanish : goal.returns-then-first_vanish
returns-then-first_vanish c =
    let w = c.args.word.now in
    let r = c.args.r in
    let low : (e : ℕ) → e < min r 6 → syndrome e w ≡ 0 = λ e h. c.if-first_vanish.ensures.0 refl e (omega (arith, c.min.ensures)) in (
      λ t. checks-all r w
          (λ e h. elim (cases_lt e 6) [ inl l ↦ low e (omega arith) | inr g ↦ c.others_vanish.ensures.0 t e g (omega (arith, c.min-then-first_vanish.ensures)) ]),
      λ h. c.others_vanish.ensures.1 (λ e g l. h e (omega (arith, c.min-then-first_vanish.ensures))),
    )
