use Rattle.std.proofs.Common.{None, sym, refl, ◌∙◌, arith}
use Rattle.std.proofs.lemmas.List.{get_or-replicate, length-set}
use Rattle.channel.specs.Laws.{byte_of-start, table_more, table-shared}
use Rattle.channel.proofs.sheet.checking.inverted.Goals as goal

pub loop-i-init : goal.loop-i-init
loop-i-init c = (
  refl,
  λ w l. get_or-replicate 1024 w None None l ∙ sym (byte_of-start c.args.numbers.now w),
  λ i j (il, jl, e). absurd (let no : ⊥ = omega arith in no),
)

pub returns-then-not-is_free : goal.returns-then-not-is_free
returns-then-not-is_free c =
    table-shared c.loop-i.bytes c.args.numbers.now c.loop-i.i c.loop-i.invariant.1 (sym c.if-not-is_free.ensures) (omega (arith, c.requires))

pub loop-i-preserved : goal.loop-i-preserved
loop-i-preserved c =
    let t = table_more c.loop-i.bytes c.args.numbers.now c.loop-i.i c.loop-i.invariant.0 c.loop-i.invariant.1 c.loop-i.invariant.2 (sym c.if-not-is_free.ensures) in
    (length-set _ _ _ ∙ c.loop-i.invariant.0, t.0, t.1)
