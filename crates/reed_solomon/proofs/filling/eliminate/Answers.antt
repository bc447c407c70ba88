use Rattle.std.proofs.Common.{ℕ, suc, ap, ◌∙◌, inl, inr, arith}
use Rattle.std.proofs.lemmas.Bool.{cases_lt}
use lib.Bits.{bit_xor, xor_zero_r}
use Rattle.galois.proofs.Laws.{gmul-zero-r}
use Rattle.reed_solomon.proofs.filling.eliminate.Goals as goal

pub returns : goal.returns
returns c =
    let i : ℕ = c.loop-sum.sum-index in
    record {
      head =
          elim (cases_lt 0 i) [
            | inl h ↦ c.loop-sum.invariant.swept 0 h ∙ ap (bit_xor _) (gmul-zero-r c.args.weight) ∙ xor_zero_r _
            | inr h ↦ c.loop-sum.invariant.kept 0 h
          ];
      tail = λ e h. c.loop-sum.invariant.swept (suc e) (omega arith);
    }
