use Rattle.std.proofs.lemmas.List.{get_or-take, get_or-drop}
use Rattle.std.proofs.Common.{◌≡◌, ◌+◌, ◌-◌, ◌*◌, get_or, take, drop, refl, ap, ◌∙◌, arith, lit<}
use lib.Bits.{bit_xor}
use Rattle.layout.specs.Group.{address}
use Rattle.writing.specs.Arrays.{array_in}
use Rattle.writing.proofs.Sending.{sent-sync, sent-at, at_one, at-two, at-three, at_byte}
use Rattle.writing.proofs.words.send_block.Goals as goal

pub loop-s-init : goal.loop-s-init
loop-s-init g c =
    let k = g.C.LineCode.line c.args.code.now in
    let t = address c.args.position.group c.args.position.track in
    let x = array_in c.args.array.now in
    let b = c.args.b in
    let zero = sent-sync k t x c.args.words.now c.args.before b c.sync_after.result c.requires.b_bound c.sync_after.ensures c.requires.sent in
    let one = sent-at k t x _ c.send-after_one.new.words _ c.send-after_one.result b 1 c.label-w1.result _ (36 * b + 1) (36 * b + 2)
    c.requires.b_bound (lit< tt) (lit< tt) (omega arith) refl (omega arith) (c.label-w1.ensures ∙ at_one t x b) c.send-after_one.ensures.next c.send-after_one.ensures.words zero in
    let two = sent-at k t x _ c.send-after_two.new.words _ c.send-after_two.result b 2 b _ (36 * b + 2) (36 * b + 3)
    c.requires.b_bound (lit< tt) (lit< tt) (omega arith) refl (omega arith) (at-two t x b) c.send-after_two.ensures.next c.send-after_two.ensures.words one in
    sent-at k t x _ c.send-state.new.words _ c.send-state.result b 3 (bit_xor c.label-w1.result b) _ (36 * b + 3) _
    c.requires.b_bound (lit< tt) (lit< tt) (omega arith) refl (omega arith) (ap (λ w. bit_xor w b) c.label-w1.ensures ∙ at-three t x b) c.send-state.ensures.next c.send-state.ensures.words two

pub loop-s-preserved : goal.loop-s-preserved
loop-s-preserved g c =
    let k = g.C.LineCode.line c.args.code.now in
    let t = address c.args.position.group c.args.position.track in
    let x = array_in c.args.array.now in
    let byte : get_or (take (32 * c.args.b + 32 - 32 * c.args.b) (drop (32 * c.args.b) c.args.array.now)) c.loop-s.s 0 ≡ x c.args.b c.loop-s.s =
    get_or-take _ (drop (32 * c.args.b) c.args.array.now) c.loop-s.s 0 (omega arith) ∙ get_or-drop (32 * c.args.b) c.args.array.now c.loop-s.s 0 in
    sent-at k t x _ c.send-state-in-loop-s.new.words _ c.send-state-in-loop-s.result c.args.b (4 + c.loop-s.s) _ _ _ _
    c.requires.b_bound (omega arith) (omega arith) (omega arith) refl (omega arith) (byte ∙ at_byte t x c.args.b c.loop-s.s) c.send-state-in-loop-s.ensures.next c.send-state-in-loop-s.ensures.words
    c.loop-s.invariant
