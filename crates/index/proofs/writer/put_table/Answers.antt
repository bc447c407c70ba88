use Rattle.std.proofs.Common.{ℕ, List, [], ◌∷◌, ◌++◌, refl, arith}
use Rattle.index.specs.Bytes.{zeros, two, four}
use Rattle.index.proofs.Reread.{length-zeros}
use Rattle.index.proofs.Replacing.{replaced-then}
use Rattle.index.proofs.writer.put_table.Goals as goal

pub returns : goal.returns
returns c =
    let g = c.args.group.now in
    let t = c.args.table in
    let x₁ : List ℕ = two t.number in
    let x₂ : List ℕ = x₁ ++ two t.entries in
    let x₃ : List ℕ = x₂ ++ four t.counts.items in
    let x₄ : List ℕ = x₃ ++ four t.counts.ones in
    let x₅ : List ℕ = x₄ ++ four t.counts.twos in
    let x₆ : List ℕ = x₅ ++ (t.last ∷ []) in
    let e₂ = replaced-then g _ _ 126600 126602 x₁ (two t.entries) c.put_u16.ensures c.put_u16-2.ensures refl (omega arith) in
    let e₃ = replaced-then g _ _ 126600 126604 x₂ (four t.counts.items) e₂ c.put_u32.ensures refl (omega arith) in
    let e₄ = replaced-then g _ _ 126600 126608 x₃ (four t.counts.ones) e₃ c.put_u32-2.ensures refl (omega arith) in
    let e₅ = replaced-then g _ _ 126600 126612 x₄ (four t.counts.twos) e₄ c.put_u32-3.ensures refl (omega arith) in
    let e₆ = replaced-then g _ _ 126600 126616 x₅ (t.last ∷ []) e₅ c.put_bytes.ensures refl (omega arith) in
    replaced-then g _ _ 126600 126617 x₆ (zeros 15) e₆ c.put_zeros.ensures refl (omega (arith, length-zeros 15))
