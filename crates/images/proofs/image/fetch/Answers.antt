use Rattle.std.proofs.Common.{◌≡◌, ℕ, ◌+◌, ◌-◌, ◌*◌, true, false, not, take, drop, sym, ap, ◌∙◌, arith}
use Rattle.images.proofs.Imaging.{fetch-blank, fetch-done}
use Rattle.images.proofs.image.fetch.Goals as goal

pub returns-then-ne : goal.returns-then-ne
returns-then-ne g c =
    let law = g.met.N.Number in
    let f = g.N.Number.format in
    let h = c.in_ok-reach.ensures in
    let n = c.tracks.ensures in
    let i = c.index-memory-start in
    let z : true ≡ not (f.marks i.result) = rw (c.WRITTEN.ensures, law.marks i.result) at c.if-ne.ensures in
    let d = fetch-blank f c.args.memory.now c.args.track c.args.buffer.now c.tracks.result n.answer h.answer h.within.1 c.STRIDE.result (c.STRIDE.ensures ∙ law.stride) law.lawful.some i.result i.is z in
    record { answer = sym d.0; words = sym d.1; sound = n.sound }

pub returns : goal.returns
returns g c =
    let law = g.met.N.Number in
    let f = g.N.Number.format in
    let h = c.in_ok-reach.ensures in
    let n = c.tracks.ensures in
    let i = c.index-memory-start in
    let at = c.args.track * c.STRIDE.result + 1 in
    let z : false ≡ not (f.marks i.result) = rw (c.WRITTEN.ensures, law.marks i.result) at c.if-ne.ensures in
    let d = fetch-done f c.args.memory.now c.args.track c.args.buffer.now c.tracks.result n.answer h.answer h.within.1 c.STRIDE.result (c.STRIDE.ensures ∙ law.stride) law.lawful.some i.result i.is z in
    let w : c.args.track * c.STRIDE.result + c.STRIDE-2.result - at ≡ c.STRIDE.result - 1 = omega (arith, c.STRIDE.ensures, c.STRIDE-2.ensures) in
    record {
      answer = sym d.0;
      words = c.read.ensures ∙ (ap (λ (q : ℕ). f.words (take q (drop at c.args.memory.now))) w ∙ sym d.1);
      sound = n.sound;
    }
