use Rattle.std.proofs.Common.{◌≡◌, ℕ, ◌+◌, ◌*◌, ◌-◌, ◌/◌, ◌<◌, List, [], ◌++◌, length, get_or, drop, sym, ap, ◌∙◌, arith}
use Rattle.images.specs.Images.{part, chain, packed_at, five_bytes, from_words}
use Rattle.images.specs.Laws.{chain-none, five-long}
use Rattle.images.proofs.Chaining.{get_or-first_chunks, chain_more, chain-whole}
use Rattle.images.proofs.packed_image.U8Number.write.Goals as goal

pub loop-q-init : goal.loop-q-init
loop-q-init c = sym (ap (λ (xs : List ℕ). xs ++ c.args.bytes.now) (chain-none (packed_at c.args.words.now)))

pub loop-q-preserved : goal.loop-q-preserved
loop-q-preserved c =
    let xs = c.args.words.now in
    let q = c.loop-q.q in
    let n = c.as_chunks.ensures in
    let l : q < length xs / 4 = rw n.front_len at c.loop-q-test.true in
    let item : get_or c.as_chunks.result.0.now q [] ≡ part 4 xs q = rw n.front (get_or-first_chunks 4 (length xs / 4) xs q l) in
    let made = c.split_bytes.ensures ∙ ap five_bytes (c.join_words.ensures ∙ ap from_words item) in
    chain_more 5 (packed_at xs) (five-long xs) c.args.bytes.now c.loop-q.bytes c.split_bytes.new.bytes q (q * 5 + 5 - q * 5) c.loop-q.invariant made (omega arith)

pub returns : goal.returns
returns c =
    let xs = c.args.words.now in
    let q : c.loop-q.q ≡ 1152 = omega (arith, c.as_chunks.ensures.front_len) in
    chain-whole 5 (packed_at xs) (five-long xs) c.args.bytes.now c.loop-q.bytes 1152
    (c.loop-q.invariant ∙ ap (λ (n : ℕ). chain (packed_at xs) n ++ drop (n * 5) c.args.bytes.now) q) (omega arith)
