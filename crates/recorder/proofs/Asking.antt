-- Going through a list of calls.
use Rattle.std.proofs.Common.{◌≡◌, ℕ, zero, suc, ◌+◌, ◌<◌, ◌≤◌, List, [], ◌∷◌, ◌++◌, length, get_or, take, drop, set, sym, refl, ap, ◌∙◌, subst, ap₂, arith, take_all}
use Rattle.std.proofs.lemmas.List.{append-nil, append_assoc}
use lib.ListN.{length-map}
use Rattle.index.specs.Bytes.{Small}
use Rattle.channel.specs.Line.{Code}
use Rattle.runs.specs.Run.{Lent}
use Rattle.std.specs.List.{AllByRecursion}
use Rattle.laying.specs.Calls.{Call, Sends}
use Rattle.calls.specs.Declines.{Answer}
use Rattle.calls.specs.Laying.{Desk}
use Rattle.calls.specs.Lists.{answer_to, done_to, answers_to, done_all}
use Rattle.recorder.specs.declared.list.Asked.{Asked}
use Rattle.recorder.specs.Asking.{call_of, spent, spent_all, calls_of, answers_of}

-- the first i calls of a list are answered: what was before, and what is now
pub record Going (c : Code) (m : Lent) (i : ℕ) (list now : List Asked) (d e : Desk) (b b' f f' : List ℕ) : Type 0 where
  pub desk : done_all c m (drop i (calls_of list)) e ≡ done_all c m (calls_of list) d
  pub calls : calls_of now ≡ calls_of list
  pub answers : take i (answers_of now) ++ answers_to c m (drop i (calls_of list)) e ≡ answers_to c m (calls_of list) d
  pub bench : spent_all c m (drop i (calls_of list)) e b' ≡ spent_all c m (calls_of list) d b
  pub buffer : spent_all c m (drop i (calls_of list)) e f' ≡ spent_all c m (calls_of list) d f
  pub sends : AllByRecursion Sends (take i (calls_of list))

one_more : (i : ℕ) → suc i ≡ i + 1
one_more i = omega arith

-- the call at place i, and those behind it
calls_at : (l : List Asked) (i : ℕ) (x : Asked) → i < length l → drop i (calls_of l) ≡ call_of (get_or l i x).call ∷ drop (suc i) (calls_of l)
unfolding calls_of
calls_at [] i x h = absurd (omega arith)
calls_at (a ∷ l) zero x h = refl
calls_at (a ∷ l) (suc i) x h = calls_at l i x (omega arith)

-- an answer put beside a call leaves the calls
calls-answered : (l : List Asked) (i : ℕ) (x : Asked) (r : Answer) → calls_of (set l i (record { call = (get_or l i x).call; answer = r })) ≡ calls_of l
unfolding calls_of
calls-answered [] i x r = refl
calls-answered (a ∷ l) zero x r = refl
calls-answered (a ∷ l) (suc i) x r = ap (λ (k : List Call). call_of a.call ∷ k) (calls-answered l i x r)

-- and is the last of the answers so far
answers-answered : (l : List Asked) (i : ℕ) (y : Asked) → i < length l → take (suc i) (answers_of (set l i y)) ≡ take i (answers_of l) ++ (y.answer ∷ [])
unfolding answers_of
answers-answered [] i y h = absurd (omega arith)
answers-answered (a ∷ l) zero y h = refl
answers-answered (a ∷ l) (suc i) y h = ap (λ (k : List Answer). a.answer ∷ k) (answers-answered l i y (omega arith))

sends_more : (cs : List Call) (i : ℕ) (a : Call) (rest : List Call) → drop i cs ≡ a ∷ rest → AllByRecursion Sends (take i cs) → Sends a → AllByRecursion Sends (take (suc i) cs)
sends_more [] zero a rest e h s = tt
sends_more [] (suc i) a rest e h s = tt
sends_more (b ∷ cs) zero a rest e h s = (subst Sends (sym (ap (λ (l : List Call). get_or l 0 a) e)) s, tt)
sends_more (b ∷ cs) (suc i) a rest e h s = (h.0, sends_more cs i a rest e h.1 s)

-- one more call is answered
pub going_on : (c : Code) (m n : Lent) (i : ℕ) (list now : List Asked) (d e g : Desk) (b b' b'' f f' f'' : List ℕ) (x : Asked) (r : Answer)
    → Going c m i list now d e b b' f f' → n ≡ m → i < length now → r ≡ answer_to n (call_of (get_or now i x).call) e
    → g ≡ done_to c n (call_of (get_or now i x).call) e → b'' ≡ spent n (call_of (get_or now i x).call) e b' → f'' ≡ spent n (call_of (get_or now i x).call) e f'
    → Sends (call_of (get_or now i x).call) → Going c m (i + 1) list (set now i (record { call = (get_or now i x).call; answer = r })) d g b b'' f f''
unfolding done_all answers_to spent_all
going_on c m n i list now d e g b b' b'' f f' f'' x r t q h ra ga ba fa sa = subst (λ (j : ℕ). Going c m j list after d g b b'' f f'') (one_more i) (record {
  desk = ap (done_all c m rest) (ga ∙ ap (λ (k : Lent). done_to c k a e) q) ∙ (sym (ap (λ (k : List Call). done_all c m k e) here) ∙ t.desk);
  calls = calls-answered now i x r ∙ t.calls;
  answers =
      ap₂ ◌++◌ (answers-answered now i (record { call = (get_or now i x).call; answer = r }) h) (ap (answers_to c m rest) (ga ∙ ap (λ (k : Lent). done_to c k a e) q))
      ∙ (append_assoc (take i (answers_of now)) (r ∷ []) (answers_to c m rest (done_to c m a e))
      ∙ (ap (λ (k : Answer). take i (answers_of now) ++ (k ∷ answers_to c m rest (done_to c m a e))) (ra ∙ ap (λ (k : Lent). answer_to k a e) q)
      ∙ (sym (ap (λ (k : List Call). take i (answers_of now) ++ answers_to c m k e) here) ∙ t.answers)));
  bench =
      ap₂ (spent_all c m rest) (ga ∙ ap (λ (k : Lent). done_to c k a e) q) (ba ∙ ap (λ (k : Lent). spent k a e b') q)
      ∙ (sym (ap (λ (k : List Call). spent_all c m k e b') here) ∙ t.bench);
  buffer =
      ap₂ (spent_all c m rest) (ga ∙ ap (λ (k : Lent). done_to c k a e) q) (fa ∙ ap (λ (k : Lent). spent k a e f') q)
      ∙ (sym (ap (λ (k : List Call). spent_all c m k e f') here) ∙ t.buffer);
  sends = sends_more (calls_of list) i a rest here t.sends sa;
})
  where
    a : Call
    a = call_of (get_or now i x).call

    rest : List Call
    rest = drop (suc i) (calls_of list)

    after : List Asked
    after = set now i (record { call = (get_or now i x).call; answer = r })

    here : drop i (calls_of list) ≡ a ∷ rest
    here = ap (drop i) (sym t.calls) ∙ (calls_at now i x h ∙ ap (λ (k : List Call). a ∷ drop (suc i) k) t.calls)

-- all calls are answered
pub record Gone (c : Code) (m : Lent) (list now : List Asked) (d e : Desk) (b b' f f' : List ℕ) : Type 0 where
  pub desk : e ≡ done_all c m (calls_of list) d
  pub answers : answers_of now ≡ answers_to c m (calls_of list) d
  pub bench : b' ≡ spent_all c m (calls_of list) d b
  pub buffer : f' ≡ spent_all c m (calls_of list) d f
  pub sends : AllByRecursion Sends (calls_of list)

long-calls : (l : List Asked) → length (calls_of l) ≡ length l
unfolding calls_of
long-calls l = length-map l (λ (a : Asked). call_of a.call)

long-answers : (l : List Asked) → length (answers_of l) ≡ length l
unfolding answers_of
long-answers l = length-map l (λ (a : Asked). a.answer)

drop_past : (i : ℕ) (l : List Call) → length l ≤ i → drop i l ≡ []
drop_past zero [] h = refl
drop_past (suc i) [] h = refl
drop_past zero (a ∷ l) h = absurd (omega arith)
drop_past (suc i) (a ∷ l) h = drop_past i l (omega arith)

pub going-ends : (c : Code) (m : Lent) (i : ℕ) (list now : List Asked) (d e : Desk) (b b' f f' : List ℕ) → Going c m i list now d e b b' f f' → length now ≤ i
    → Gone c m list now d e b b' f f'
unfolding done_all answers_to spent_all
going-ends c m i list now d e b b' f f' t h = record {
  desk = sym (ap (λ (k : List Call). done_all c m k e) none) ∙ t.desk;
  answers =
      sym (ap₂ ◌++◌ (take_all i (answers_of now) (omega (arith, long-answers now))) (ap (λ (k : List Call). answers_to c m k e) none) ∙ append-nil (answers_of now)) ∙ t.answers;
  bench = sym (ap (λ (k : List Call). spent_all c m k e b') none) ∙ t.bench;
  buffer = sym (ap (λ (k : List Call). spent_all c m k e f') none) ∙ t.buffer;
  sends = subst (λ (k : List Call). AllByRecursion Sends k) (take_all i (calls_of list) (omega (arith, long-calls now, ap length t.calls))) t.sends;
}
  where
    none : drop i (calls_of list) ≡ []
    none = drop_past i (calls_of list) (omega (arith, long-calls now, ap length t.calls))

pub small_all : (xs : List ℕ) → ((i : ℕ) → get_or xs i 0 < 256) → Small xs
small_all [] h = tt
small_all (x ∷ xs) h = (h 0, small_all xs (λ i. h (suc i)))
