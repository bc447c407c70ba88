-- A whole list of calls, from making to closing.
use Rattle.std.specs.Prelude.{◌≡◌, ℕ, List, [], ◌∷◌, length, Ok}
use Rattle.std.specs.List.{AllByRecursion}
use Rattle.tape.specs.Tape.{Track}
use Rattle.channel.specs.Line.{Code}
use Rattle.layout.specs.declared.settings.Settings.{Settings}
use Rattle.laying.specs.Calls.{Call, Call.record', Call.mark', Call.warn', Sends, Listed, nothing, listed}
use Rattle.runs.specs.Run.{Lent, Finished}
use Rattle.calls.specs.Declines.{Answer, outcome}
use Rattle.calls.specs.Laying.{Desk, desk}
use Rattle.calls.specs.Calls.{checked, held_made, record_answer, recorded, mark_answer, marked, warn_answer, warned, close_answer, closed_on, groups_stored}

-- the answer to a call
abbrev pub answer_to : Lent → Call → Desk → Answer
answer_to m (record' bs) d = record_answer m bs d
answer_to m (mark' k) d = mark_answer m k d
answer_to m warn' d = warn_answer d.held

-- the recording and the tape after it
abbrev pub done_to : Code → Lent → Call → Desk → Desk
done_to c m (record' bs) d = recorded c m bs d
done_to c m (mark' k) d = marked c m k d
done_to c m warn' d = desk (warned d.held) d.tracks

-- the answers to calls, one after another
unfoldable pub answers_to : Code → Lent → List Call → Desk → List Answer
answers_to c m [] d = []
answers_to c m (a ∷ cs) d = answer_to m a d ∷ answers_to c m cs (done_to c m a d)

-- the recording and the tape after them
unfoldable pub done_all : Code → Lent → List Call → Desk → Desk
done_all c m [] d = d
done_all c m (a ∷ cs) d = done_all c m cs (done_to c m a d)

-- the list that follows from the calls that were carried out
unfoldable pub list_of : Listed → List Call → List Answer → Listed
list_of l [] rs = l
list_of l (a ∷ cs) [] = l
list_of l (a ∷ cs) (r ∷ rs) = list_of (outcome r (listed l a) l) cs rs

-- a recording as it is made on a tape
abbrev pub desk_made : Settings → List ℕ → List Track → Desk
desk_made x group ts = desk (held_made x group (length ts)) ts

-- a list of calls that is closed without a decline is a run, and its list follows from the calls carried out
abbrev pub Ran : Type 0
Ran = (c : Code) (x : Settings) (m : Lent) (group : List ℕ) (before : List Track) (cs : List Call) → AllByRecursion Sends cs
    → checked x (length group) (length before) ≡ Ok tt → close_answer m (done_all c m cs (desk_made x group before)) ≡ Ok tt
    → Finished c x before (closed_on c m (done_all c m cs (desk_made x group before))) (groups_stored m (done_all c m cs (desk_made x group before)))
    (list_of nothing cs (answers_to c m cs (desk_made x group before))).items
