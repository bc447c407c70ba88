use Rattle.std.proofs.Common.{◌≡◌, ◌+◌, ◌-◌, ◌*◌, ◌/◌, ◌%◌, false, ◌||◌, get_or, take, drop, set, refl, ap, ◌∙◌, subst, sym, arith}
use Rattle.std.proofs.lemmas.List.{get_or-take, get_or-drop}
use Rattle.layout.specs.Group.{address}
use Rattle.reading.specs.Arrays.{at, Taken}
use Rattle.channel.proofs.Turns.{or_zero-is, is_lost-is}
use Rattle.reading.proofs.Marks.{taken_more}
use Rattle.reading.proofs.decoding.take_block.Goals as goal

pub loop-s-preserved : goal.loop-s-preserved
loop-s-preserved g c =
    let k = g.C.LineCode.line c.args.code.now in
    let t = address c.args.position.group c.args.position.track in
    let w = at c.args.words.now in
    let b = c.args.b in
    let s = c.loop-s.s in
    let fs = c.loop-s.lost.marks in
    let word : get_or (take (36 * b + 4 + 32 - (36 * b + 4)) (drop (36 * b + 4) c.args.words.now)) s 0 ≡ w (36 * b + (4 + s)) =
    get_or-take _ (drop (36 * b + 4) c.args.words.now) s 0 (omega arith) ∙ get_or-drop (36 * b + 4) c.args.words.now s 0 ∙ ap w (omega arith) in
    subst (λ m. Taken k t w (set c.loop-s.array (32 * b + s) c.unwrap_or.result) m (32 * b + (s + 1))) (sym c.add.ensures)
    (taken_more k t w c.loop-s.array fs b s c.unwrap_or.result c.block_lost-all.result c.is_none.result (c.block_lost-all.result || c.is_none.result)
    (get_or fs (2 * (b / 2) + s % 2) false || (c.block_lost-all.result || c.is_none.result)) c.decode-byte.result c.requires.block (omega arith) (omega arith) c.loop-s.lost.size
    c.block_lost-all.ensures (c.decode-byte.ensures ∙ ap k.decode word) (c.unwrap_or.ensures ∙ or_zero-is c.decode-byte.result)
    (is_lost-is c.decode-byte.result c.is_none.result c.is_none.ensures) refl refl c.loop-s.invariant)

pub returns : goal.returns
returns g c =
    let e : 32 * c.args.b + c.loop-s.s ≡ 32 * (c.args.b + 1) = omega arith in
    subst (Taken (g.C.LineCode.line c.args.code.now) (address c.args.position.group c.args.position.track) (at c.args.words.now) c.loop-s.array c.loop-s.lost.marks) e c.loop-s.invariant
