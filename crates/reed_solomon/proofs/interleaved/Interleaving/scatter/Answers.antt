use Rattle.std.proofs.Common.{ℕ, ◌+◌, ◌*◌, ◌<◌, length, get_or, ◌∙◌, arith, get_or-set_other, get_or-set_same, below_more}
use native.Mathlib.Nat.{mul-lt-mul_of_pos_left}
use Rattle.reed_solomon.proofs.interleaved.Interleaving.scatter.Goals as goal

pub loop-j-preserved : goal.loop-j-preserved
loop-j-preserved c =
    let at : ℕ = c.args.self.start + c.args.self.stride * c.loop-j.j in
    let v : ℕ = get_or c.args.word.now c.loop-j.j 0 in
    let l : at < length c.loop-j.memory = omega (arith, c.requires.reaches c.loop-j.j c.loop-j-test.true) in (
      below_more _ _
          (λ k h.
          let m : c.args.self.stride * k < c.args.self.stride * c.loop-j.j = mul-lt-mul_of_pos_left h c.requires.stride_nonzero in
          get_or-set_other c.loop-j.memory at (c.args.self.start + c.args.self.stride * k) v 0 (λ e. omega arith) ∙ c.loop-j.invariant.0 k h)
          (get_or-set_same c.loop-j.memory at v 0 l),
      λ p h. get_or-set_other c.loop-j.memory at p v 0 (h c.loop-j.j (omega arith)) ∙ c.loop-j.invariant.1 p (λ k g. h k (omega arith)),
    )
