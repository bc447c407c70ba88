use Rattle.std.proofs.Common.{sym, ap, ◌∙◌, ap₂, inl, inr}
use Rattle.galois.specs.Galois.{gmul}
use Rattle.galois.proofs.Laws.{gmul-zero-l, gmul-zero-r}
use Rattle.galois.proofs.Powers.{gpow-add}
use Rattle.galois.proofs.field.multiply.Goals as goal

pub returns-then-b-eq0 : goal.returns-then-b-eq0
returns-then-b-eq0 c =
    elim c.if-b-eq0.either [
      | inl e ↦ sym (ap (λ x. gmul x c.args.b) e ∙ gmul-zero-l c.args.b)
      | inr h ↦ sym (ap (gmul c.args.a) h.1 ∙ gmul-zero-r c.args.a)
    ]

pub returns-else-b-eq0 : goal.returns-else-b-eq0
returns-else-b-eq0 c =
    c.listed_power.ensures ∙ gpow-add 2 c.log.result c.log-else-b-eq0.result
    ∙ ap₂ gmul c.log.ensures.power c.log-else-b-eq0.ensures.power
