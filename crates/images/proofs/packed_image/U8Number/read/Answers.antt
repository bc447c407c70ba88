use Rattle.std.proofs.Common.{◌≡◌, ℕ, ◌+◌, ◌*◌, ◌-◌, ◌/◌, ◌<◌, List, [], ◌++◌, length, get_or, drop, sym, ap, ◌∙◌, arith}
use Rattle.images.specs.Images.{part, chain, unpacked_at, four_words, from_bytes}
use Rattle.images.specs.Laws.{chain-none, four-long}
use Rattle.images.proofs.Chaining.{get_or-first_chunks, chain_more, chain-whole}
use Rattle.images.proofs.packed_image.U8Number.read.Goals as goal

pub loop-q-init : goal.loop-q-init
loop-q-init c = sym (ap (λ (xs : List ℕ). xs ++ c.args.words.now) (chain-none (unpacked_at c.args.bytes.now)))

pub loop-q-preserved : goal.loop-q-preserved
loop-q-preserved c =
    let xs = c.args.bytes.now in
    let q = c.loop-q.q in
    let n = c.as_chunks.ensures in
    let l : q < length xs / 5 = rw n.front_len at c.loop-q-test.true in
    let item : get_or c.as_chunks.result.0.now q [] ≡ part 5 xs q = rw n.front (get_or-first_chunks 5 (length xs / 5) xs q l) in
    let made = c.copy_from_slice.ensures.after ∙ (c.split_words.ensures ∙ ap four_words (c.join_bytes.ensures ∙ ap from_bytes item)) in
    chain_more 4 (unpacked_at xs) (four-long xs) c.args.words.now c.loop-q.words c.copy_from_slice.new.self q (q * 4 + 4 - q * 4) c.loop-q.invariant made (omega arith)

pub returns : goal.returns
returns c =
    let xs = c.args.bytes.now in
    let q : c.loop-q.q ≡ 1152 = omega (arith, c.as_chunks.ensures.front_len) in
    chain-whole 4 (unpacked_at xs) (four-long xs) c.args.words.now c.loop-q.words 1152
    (c.loop-q.invariant ∙ ap (λ (n : ℕ). chain (unpacked_at xs) n ++ drop (n * 4) c.args.words.now) q) (omega arith)
