-- A whole list of calls: the lent memory after it, and the run that it is.
use Rattle.std.proofs.Common.{◌≡◌, ℕ, List, [], ◌∷◌, length, replicate, Some, None, Ok, Err, Option, sym, refl, ap, ◌∙◌, subst, ap₂}
use lib.ListN.{length-replicate}
use Rattle.std.specs.List.{AllByRecursion}
use Rattle.tape.specs.Tape.{Track}
use Rattle.channel.specs.Line.{Code}
use Rattle.layout.specs.declared.settings.Settings.{Settings}
use Rattle.laying.specs.Calls.{Call, Call.record', Call.mark', Call.warn', Sends, nothing}
use Rattle.runs.specs.Run.{Lent, Finished}
use Rattle.calls.specs.declared.fault.Decline.{Decline}
use Rattle.calls.specs.Declines.{Answer}
use Rattle.calls.specs.Laying.{Desk}
use Rattle.calls.specs.Calls.{checked, cleared, admits, close_answer, closed_on, groups_stored}
use Rattle.calls.specs.Lists.{desk_made, answers_to, done_to, done_all, list_of}
use Rattle.calls.proofs.Whole.{ran, admits-kept}
use Rattle.recorder.specs.Views.{decline_of}
use Rattle.recorder.specs.Asking.{spent, spent_all}

-- what is cleared stays so
cleared-twice : (r : Answer) (xs : List ℕ) → cleared r (cleared r xs) ≡ cleared r xs
cleared-twice (Ok u) xs = ap (λ (n : ℕ). replicate n 0) (length-replicate (length xs) 0)
cleared-twice (Err e) xs = refl

spent-once : (m : Lent) (a : Call) (d : Desk) (xs : List ℕ) → cleared (admits m d) (spent m a d xs) ≡ cleared (admits m d) xs
spent-once m (record' bs) d xs = cleared-twice (admits m d) xs
spent-once m (mark' k) d xs = cleared-twice (admits m d) xs
spent-once m warn' d xs = refl

admits-done : (c : Code) (m : Lent) (a : Call) (d : Desk) → admits m (done_to c m a d) ≡ admits m d
unfolding done_all
admits-done c m a d = admits-kept c m (a ∷ []) d

-- closing clears what the calls before it left
cleared-spent_all : (c : Code) (m : Lent) (cs : List Call) (d : Desk) (xs : List ℕ) → cleared (admits m d) (spent_all c m cs d xs) ≡ cleared (admits m d) xs
unfolding spent_all
cleared-spent_all c m [] d xs = refl
cleared-spent_all c m (a ∷ cs) d xs =
    ap (λ (r : Answer). cleared r (spent_all c m cs (done_to c m a d) (spent m a d xs))) (sym (admits-done c m a d))
    ∙ (cleared-spent_all c m cs (done_to c m a d) (spent m a d xs)
    ∙ (ap (λ (r : Answer). cleared r (spent m a d xs)) (admits-done c m a d) ∙ spent-once m a d xs))

pub lent-after : (c : Code) (m : Lent) (cs : List Call) (d : Desk) (xs : List ℕ) → cleared (admits m (done_all c m cs d)) (spent_all c m cs d xs) ≡ cleared (admits m d) xs
lent-after c m cs d xs = ap (λ (r : Answer). cleared r (spent_all c m cs d xs)) (admits-kept c m cs d) ∙ cleared-spent_all c m cs d xs

carried-out : (r : Answer) → decline_of r ≡ None → r ≡ Ok tt
carried-out (Ok tt) e = refl
carried-out (Err x) e = absurd (some-none e)
  where
    is-none : Option Decline → Type 0
    is-none None = Unit {0}
    is-none (Some y) = ⊥

    some-none : Some x ≡ None → ⊥
    some-none e = subst is-none (sym e) tt

-- a list of calls that is closed without a decline is a run
pub whole_run : (c : Code) (x : Settings) (m : Lent) (group : List ℕ) (before after : List Track) (cs es : List Call) (rs : List Answer) (n : ℕ) (o : Option Decline)
    → AllByRecursion Sends cs → es ≡ cs → rs ≡ answers_to c m cs (desk_made x group before) → after ≡ closed_on c m (done_all c m cs (desk_made x group before))
    → n ≡ groups_stored m (done_all c m cs (desk_made x group before)) → o ≡ decline_of (close_answer m (done_all c m cs (desk_made x group before)))
    → checked x (length group) (length before) ≡ Ok tt → o ≡ None → Finished c x before after n (list_of nothing es rs).items
whole_run c x m group before after cs es rs n o s p q t g d h e =
    let f = ran c x m group before cs s h (carried-out (close_answer m (done_all c m cs (desk_made x group before))) (sym d ∙ e)) in
    record {
      state = f.state;
      tape = f.tape;
      list = f.list;
      run = f.run;
      lent = f.lent;
      taken = f.taken;
      after = t ∙ f.after;
      number = g ∙ f.number;
      items = ap₂ (λ (l : List Call) (k : List Answer). (list_of nothing l k).items) p q ∙ f.items;
    }
