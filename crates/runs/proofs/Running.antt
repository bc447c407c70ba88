-- What holds of every run.
use Rattle.std.proofs.Common.{◌≡◌, ℕ, suc, ◌+◌, ◌≤◌, List, [], ◌∷◌, ◌++◌, map, length, drop, sym, refl, ap, ◌∙◌, subst, add-zero, arith, length-append}
use lib.Seq.{drop-append_seam}
use Rattle.tape.specs.Tape.{Track}
use Rattle.channel.specs.Line.{Code}
use Rattle.layout.specs.declared.settings.Settings.{Settings}
use Rattle.index.specs.Entries.{Group, Numbered}
use Rattle.index.specs.Bytes.{group_of}
use Rattle.laying.specs.Lay.{Recording}
use Rattle.laying.specs.Calls.{Call, Sends, Listed, made, nothing, declines, carried, listed}
use Rattle.laying.proofs.Laid.{laid-numbered}
use Rattle.laying.proofs.Runs.{Kept, Keeps, carries, start}
use Rattle.runs.specs.Run.{all_on_tape, groups_on, completes, Run, Run.make, Run.carry, Run.decline}
use Rattle.runs.specs.Stand.{Placed, Stays, Staying}
use Rattle.runs.proofs.Placing.{placed-none, placed-all}

numbered-behind : (gs hs : List Group) (n m : ℕ) → m ≡ n + length gs → Numbered n (gs ++ hs) → Numbered m hs
numbered-behind [] hs n m e h = subst (λ (k : ℕ). Numbered k hs) (sym (e ∙ add-zero n)) h
numbered-behind (g ∷ gs) hs n m e h = numbered-behind gs hs (suc n) m (omega arith) h.1

-- what every call keeps
pub record Keeping (c : Code) (x : Settings) (before : List Track) (s : Recording) (ts : List Track) (l : Listed) : Type 0 where
  pub kept : Kept (record { state = s; list = l })
  pub stays : Stays c x before s ts

module _ (c : Code) (x : Settings) (before : List Track) where
  made-keeping : 46 ≤ length before → Keeping c x before (made (groups_on (length before))) before nothing
  made-keeping h =
      let k : 1 ≤ groups_on (length before) = omega arith in
      record { kept = start (groups_on (length before)) k; stays = record { placed = placed-none c x before; limit = refl; within = k } }

  carried-keeping : (s : Recording) (ts : List Track) (l : Listed) (a : Call) → Sends a → declines s a ≡ 0 → Keeping c x before s ts l
      → Keeping c x before (carried s a) (all_on_tape c x (completes s a) ts) (listed l a)
  carried-keeping s ts l a sm d i =
      let k : Keeps (record { state = s; list = l }) (record { state = carried s a; list = listed l a }) = carries (record { state = s; list = l }) a sm i.kept d in
      let new : List Group = k.grown.new in
      let e : (carried s a).done ≡ s.done ++ new = k.grown.is in
      let w : completes s a ≡ new = ap (λ (z : List Group). drop (length s.done) z) e ∙ drop-append_seam s.done new in
      let n : length (carried s a).done ≡ length s.done + length new = ap length e ∙ length-append s.done new in
      let m : Numbered (suc (length s.done)) new = numbered-behind s.done new 1 (suc (length s.done)) (omega arith) (subst (λ (z : List Group). Numbered 1 z) e (laid-numbered k.kept.inv)) in
      let p : Placed c x (map group_of (s.done ++ new)) before (all_on_tape c x new ts) = placed-all c x before new s.done ts m (omega (arith, k.kept.within, k.limit, i.stays.limit, i.stays.placed.same)) i.stays.placed in
      record {
        kept = k.kept;
        stays = record {
          placed = subst (λ (z : List Group). Placed c x (map group_of (carried s a).done) before (all_on_tape c x z ts)) (sym w)
              (subst (λ (z : List Group). Placed c x (map group_of z) before (all_on_tape c x new ts)) (sym e) p);
          limit = k.limit ∙ i.stays.limit;
          within = k.kept.within;
        };
      }

  pub run-keeping : {s : Recording} {ts : List Track} {l : Listed} → Run c x before s ts l → Keeping c x before s ts l
  run-keeping (make a b h) = made-keeping h
  run-keeping (carry {s = s} {ts = ts} {l = l} m a sm r k d) = carried-keeping s ts l a sm d (run-keeping r)
  run-keeping (decline m a r n) = run-keeping r

pub staying : Staying
staying c x before ts s l r = (run-keeping c x before r).stays
