use Rattle.std.proofs.Common.{◌≡◌, ℕ, List, length, ap, ◌∙◌}
use Rattle.index.specs.Bytes.{entry_bytes}
use Rattle.index.specs.Entries.{Entry}
use Rattle.index.specs.Writing.{replaced, entry_place, entry_laid}
use Rattle.index.proofs.Laying.{entry-laid, has_room}
use Rattle.index.proofs.writer.lay_entry.Goals as goal

pub returns : goal.returns
returns c =
    let g = c.args.group.now in
    let f = c.args.fill in
    let p : Entry = record { kind = c.args.kind; count = c.args.count; warned = c.args.warned; bytes = c.args.bytes.now } in
    let h : c.put_entry.new.group ≡ entry_laid g f p = c.put_entry.ensures ∙ ap (λ (x : List ℕ). replaced x (entry_place f) (entry_bytes p)) c.put_bytes.ensures in
    record {
      answer = c.in_ok-check_room.ensures;
      held = h;
      laid = λ ps e. h ∙ entry-laid g f ps p e (has_room g f (length p.bytes) p.warned c.in_ok-check_room.ensures).2;
    }
