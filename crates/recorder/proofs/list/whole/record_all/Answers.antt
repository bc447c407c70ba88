use Rattle.std.proofs.Common.{◌≡◌, ℕ, List, length, ap, ◌∙◌, ap₂, rules}
use Rattle.runs.specs.Run.{Lent}
use Rattle.calls.specs.Held.{Held}
use Rattle.calls.specs.Declines.{Answer}
use Rattle.calls.specs.Laying.{Desk, desk}
use Rattle.calls.specs.Calls.{cleared, admits, close_answer, closed_on, groups_stored}
use Rattle.calls.specs.Lists.{desk_made, answers_to, done_all}
use Rattle.recorder.specs.Views.{held_in, decline_of}
use Rattle.recorder.specs.Asking.{calls_of, answers_of, spent_all}
use Rattle.recorder.proofs.Whole.{lent-after, whole_run}
use Rattle.recorder.proofs.list.whole.record_all.Goals as goal

pub returns : goal.returns
returns g c =
    let k = g.C.LineCode.line c.args.code.now in
    let lent : ℕ → ℕ → Lent = λ t b. record { track = t; bench = b } in
    let m : Lent = lent (length c.args.buffer.now) (length c.args.bench.now) in
    let n : Lent = lent (length c.call_all.new.buffer) (length c.call_all.new.bench) in
    let ts = g.T.Playable.tracks c.args.tape.now in
    let cs = calls_of c.args.list.now in
    let a = c.call_all.ensures in
    let e = c.close.ensures in
    let made = c.make-open.ensures.held in
    let q : n ≡ m = ap₂ lent c.call_all.auto.buffer c.call_all.auto.bench in
    let d : Desk = done_all k m cs (desk_made c.args.settings c.args.group.now ts) in
    let s : desk (held_in c.call_all.new.self) (g.T.Playable.tracks c.call_all.new.tape) ≡ d = a.desk ∙ ap (λ (h : Held). done_all k m cs (desk h ts)) made in
    let answers = a.answers ∙ ap (λ (h : Held). answers_to k m cs (desk h ts)) made in
    let decline = e.answer ∙ ap₂ (λ (x : Lent) (y : Desk). decline_of (close_answer x y)) q s in
    let groups = e.groups ∙ ap₂ groups_stored q s in
    let tape = e.tape ∙ ap₂ (closed_on k) q s in
    record {
      calls = a.calls;
      answers = answers;
      decline = decline;
      groups = groups;
      items = e.items ∙ ap (λ (y : Desk). y.held.book.counts.items) s;
      tape = tape;
      kept = e.kept ∙ a.kept;
      group = search rules;
      bench = e.bench ∙ ap₂ (λ (x : Answer) (y : List ℕ). cleared x y) (ap₂ admits q s) (a.bench ∙ ap (λ (h : Held). spent_all k m cs (desk h ts) c.args.bench.now) made)
          ∙ lent-after k m cs (desk_made c.args.settings c.args.group.now ts) c.args.bench.now;
      buffer = e.buffer ∙ ap₂ (λ (x : Answer) (y : List ℕ). cleared x y) (ap₂ admits q s) (a.buffer ∙ ap (λ (h : Held). spent_all k m cs (desk h ts) c.args.buffer.now) made)
          ∙ lent-after k m cs (desk_made c.args.settings c.args.group.now ts) c.args.buffer.now;
      run =
          whole_run k c.args.settings m c.args.group.now ts (g.T.Playable.tracks c.close.new.tape) cs (calls_of c.call_all.new.list) (answers_of c.call_all.new.list)
          c.close.result.groups c.close.result.decline a.sends a.calls answers tape groups decline;
    }
