-- Calls as the code writes them, in a list with their answers.
use Rattle.std.specs.Prelude.{ℕ, List, [], ◌∷◌, map}
use Rattle.laying.specs.Calls.{Call as Asks, Call.record', Call.mark', Call.warn'}
use Rattle.runs.specs.Run.{Lent}
use Rattle.calls.specs.Declines.{Answer}
use Rattle.calls.specs.Laying.{Desk}
use Rattle.channel.specs.Line.{Code}
use Rattle.calls.specs.Lists.{done_to}
use Rattle.calls.specs.Calls.{cleared, admits}
use Rattle.recorder.specs.declared.list.Call.{Call}
use Rattle.recorder.specs.declared.list.Call.TheVariants.{Record, Mark, Warn}
use Rattle.recorder.specs.declared.list.Asked.{Asked}

-- the call that is meant
abbrev pub call_of : Call → Asks
call_of (Record bytes) = record' bytes.now
call_of (Mark kind) = mark' kind
call_of Warn = warn'

-- what is lent, after a call: a warning needs none of it
abbrev pub spent : Lent → Asks → Desk → List ℕ → List ℕ
spent m (record' bs) d xs = cleared (admits m d) xs
spent m (mark' k) d xs = cleared (admits m d) xs
spent m warn' d xs = xs

-- and after calls, one after another
unfoldable pub spent_all : Code → Lent → List Asks → Desk → List ℕ → List ℕ
spent_all c m [] d xs = xs
spent_all c m (a ∷ cs) d xs = spent_all c m cs (done_to c m a d) (spent m a d xs)

-- the calls of a list, and the answers in it
unfoldable pub calls_of : List Asked → List Asks
calls_of l = map (λ (a : Asked). call_of a.call) l

unfoldable pub answers_of : List Asked → List Answer
answers_of l = map (λ (a : Asked). a.answer) l
