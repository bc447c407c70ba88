use Rattle.std.proofs.Common.{◌≡◌, ℕ, ◌+◌, ◌*◌, ◌/◌, ◌%◌, Bool, false, not, ◌||◌, get_or, set, refl, sym, ap, ◌∙◌, inl, inr, arith, length-set, get_or-set_other, get_or-set_same}
use Rattle.std.proofs.lemmas.Bool.{cases_eq}
use Rattle.layout.specs.Reading.{checks}
use Rattle.reed_solomon.specs.Interleaves.{interleaved}
use Rattle.reading.proofs.c1.mark_unchecked.Goals as goal

pub loop-k-init : goal.loop-k-init
loop-k-init c = record { size = c.args.lost.now.size; done = λ k h. absurd (omega arith); rest = λ k h. refl }

pub loop-k-preserved : goal.loop-k-preserved
loop-k-preserved c =
    let f : ℕ → Bool = λ k. not (checks 4 (interleaved c.args.array.now (64 * (k / 2) + k % 2) 2 32)) in
    let fs = c.loop-k.mark-items in
    let i = c.loop-k.k in
    let v : Bool = c.is_lost.result in
    let e : v ≡ (get_or c.args.lost.now.marks i false || f i) =
    c.is_lost.ensures ∙ ap (λ a. a || f i) (c.loop-k.invariant.rest i (omega arith)) in
    record {
      size = length-set fs i v ∙ c.loop-k.invariant.size;
      done = λ k h.
          elim (cases_eq k i) [
            | inl q ↦ ap (λ z. get_or (set fs i v) z false) q ∙ get_or-set_same fs i v false (omega (arith, c.loop-k.invariant.size)) ∙ e
                ∙ ap (λ z. get_or c.args.lost.now.marks z false || f z) (sym q)
            | inr q ↦ get_or-set_other fs i k v false q ∙ c.loop-k.invariant.done k (omega (arith, q))
          ];
      rest = λ k h. get_or-set_other fs i k v false (λ q. omega arith) ∙ c.loop-k.invariant.rest k (omega arith);
    }

pub returns : goal.returns
returns c = λ k h. c.loop-k.invariant.done k (omega arith)
