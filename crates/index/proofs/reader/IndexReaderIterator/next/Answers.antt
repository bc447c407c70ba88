use Rattle.std.proofs.Common.{◌≡◌, ℕ, ◌^◌, ◌<◌, cond, List, [], length, take, drop, sym, ap, ◌∙◌, arith, rules}
use Rattle.index.specs.declared.kind.Kind.{Kind}
use Rattle.index.specs.Bytes.{named}
use Rattle.index.specs.Cursors.{Cursor, cursor_of}
use Rattle.index.specs.Contents.{kind_in, bytes_in}
use Rattle.index.specs.Entries.{Entry}
use Rattle.index.proofs.Reading.{place-fits}
use Rattle.index.proofs.Coming.{there, read-coming, behind-coming}
use Rattle.index.proofs.reader.IndexReaderIterator.next.Goals as goal

pub overflow_add-self : goal.overflow_add-self
overflow_add-self c =
    let r = c.args.self.now in
    let p : r.place < 2 ^ 64 = search rules in
    let g : length r.group.now < 2 ^ 64 = search rules in
    let k = named c.from-kind.result in
    let f = place-fits r.group.now r.place c.in_ok-flag.count k p g in
    let e : c.length.result ≡ length (cond k (take c.in_ok-flag.count (drop r.place r.group.now)) []) =
    c.length.ensures ∙ ap length (c.new-content.ensures.bytes ∙ ap (λ (x : List ℕ). cond k x []) c.part_at-bytes.ensures) in
    omega arith

pub returns-clause-steps : goal.returns-clause-steps
returns-clause-steps c =
    let r = c.args.self.now in
    let t = c.in_ok-flag.ensures in
    let l : 0 < r.left = search rules in
    let u : Cursor = cursor_of r in
    let f = c.in_ok-flag.flag in
    let n = c.in_ok-flag.count in
    let xs = c.in_ok-flag.rest.now in
    let new = c.new-content.ensures in
    let k = new.kind ∙ c.from-kind.ensures in
    let b = new.bytes ∙ ap (λ (x : Kind). cond (named x) c.part_at-bytes.result.now []) (sym new.kind) in
    let e = read-coming u f n xs t (kind_in c.new-content.result) (bytes_in c.new-content.result) c.part_at-bytes.result.now k c.part_at-bytes.ensures b in
    record {
      answer = (there u f n xs t l, e, new.place ∙ ap (λ (x : Kind). cond (named x) r.place 0) (sym new.kind));
      after = behind-coming u f n xs t (bytes_in c.new-content.result) c.length.result l (ap (λ (x : Entry). x.bytes) e) c.length.ensures;
    }
