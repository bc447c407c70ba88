-- Calls that are declined by their sizes.
use Rattle.std.proofs.Common.{◌≡◌, ℕ, Some, None, Err, Option, Result, sym, ap, arith}
use Rattle.losses.specs.declared.fault.ReadFault.{ReadFault}
use Rattle.losses.specs.Faults.{answered, unless, declined_or, group_decline}

pub declined-by : {X E : Type 0} (d : Option E) (e : E) (x : X) → Err e ≡ answered d x → d ≡ Some e
declined-by None e x h = let z : ◌≡◌ {A = ℕ} 0 1 = cc in absurd (omega arith)
declined-by (Some y) e x h = cc

pub left : {X E : Type 0} (d : Option E) (e : E) (new old : X) → d ≡ Some e → old ≡ unless d new old
left d e new old h = sym (ap (λ z. unless z new old) h)

pub group-left : {X : Type 0} (d : Option ReadFault) (e : ReadFault) (g n : ℕ) (new old : X) → d ≡ Some e → old ≡ unless (group_decline d g n) new old
group-left d e g n new old h = sym (ap (λ z. unless (group_decline z g n) new old) h)

pub group-declined : {X : Type 0} (d : Option ReadFault) (e : ReadFault) (g n : ℕ) (r : Result X ReadFault) → d ≡ Some e → Err e ≡ declined_or (group_decline d g n) r
group-declined d e g n r h = sym (ap (λ z. declined_or (group_decline z g n) r) h)
