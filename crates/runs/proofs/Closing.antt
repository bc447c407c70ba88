-- The groups of a recording that was closed stand at their places, and are read.
use Rattle.std.proofs.Common.{◌≡◌, ℕ, suc, ◌<◌, ◌≤◌, cond, eqb, ◌⊎◌, List, [], ◌∷◌, ◌++◌, map, length, get_or, Ok, sym, refl, ap, ◌∙◌, subst, inl, inr, arith}
use Rattle.std.specs.List.{AllByRecursion}
use Rattle.std.proofs.ByRecursion.{All-get_or}
use Rattle.std.proofs.lemmas.List.{length-map, get_or-map, get_or_append_left, get_or_push}
use Rattle.std.proofs.lemmas.Bool.{cond-true, cond-false, eq-eqb, ne_eqb, cases_lt}
use Rattle.tape.specs.Tape.{Track}
use Rattle.index.specs.Entries.{Item, Group}
use Rattle.index.specs.Bytes.{Whole, Small, group_of, read_group}
use Rattle.index.specs.Walk.{Position.idle, walk_groups, beginning}
use Rattle.index.proofs.Walks.{length-snoc}
use Rattle.index.proofs.Reread.{reread}
use Rattle.laying.specs.Lay.{Recording, stored}
use Rattle.laying.specs.Calls.{Running, closed, groups_of}
use Rattle.laying.proofs.Runs.{closed-whole, kept-closes}
use Rattle.runs.specs.Run.{on_tape}
use Rattle.runs.specs.Stand.{Placed, Standing}
use Rattle.runs.proofs.Placing.{placed-group}
use Rattle.runs.proofs.Running.{run-keeping}

final-byte : (g : Group) → Whole g → get_or (group_of g) 126616 0 ≡ g.final
unfolding read_group
final-byte g h = ap (λ (z : Group). z.final) (reread g h).1

-- what holds of the bytes of every whole group
of-groups : (P : Group → List ℕ → Type 0) → ((g : Group) → Whole g → P g (group_of g)) → (gs : List Group) (d : Group) → AllByRecursion Whole gs
    → (k : ℕ) → k < length gs → P (get_or gs k d) (get_or (map group_of gs) k [])
of-groups P f gs d w k h = subst (P (get_or gs k d)) (sym (get_or-map group_of gs k d [] h)) (f (get_or gs k d) (All-get_or Whole gs k d h w))

-- only the last group is final
final-is : (gs : List Group) (g d : Group) (n k : ℕ) → AllByRecursion (λ (g : Group). g.final ≡ 0) gs → g.final ≡ 1 → n ≡ suc (length gs) → k < n
    → (get_or (gs ++ (g ∷ [])) k d).final ≡ cond (eqb (suc k) n) 1 0
final-is gs g d n k on e m h = go (cases_lt k (length gs))
  where
    go : (k < length gs) ⊎ (length gs ≤ k) → (get_or (gs ++ (g ∷ [])) k d).final ≡ cond (eqb (suc k) n) 1 0
    go (inl l) =
        ap (λ (z : Group). z.final) (get_or_append_left gs (g ∷ []) d k l)
        ∙ All-get_or (λ (g : Group). g.final ≡ 0) gs k d l on
        ∙ sym (cond-false (eqb (suc k) n) 1 0 (ne_eqb (suc k) n (λ q. omega arith)))
    go (inr l) =
        ap (λ (z : Group). z.final) (get_or_push gs g d k (omega arith)) ∙ e ∙ sym (cond-true (eqb (suc k) n) 1 0 (eq-eqb (suc k) n (omega arith)))

pub standing : Standing
standing c x before ts n l r =
    let s : Recording = r.state in
    let t : Running = record { state = s; list = r.list } in
    let i = run-keeping c x before r.run in
    let b : s.limit ≤ 65535 = omega (arith, i.stays.limit) in
    let q = kept-closes t i.kept b in
    let w : AllByRecursion Whole (closed s) = closed-whole t i.kept b in
    let m : n ≡ suc (length s.done) = r.number ∙ length-snoc s.done (stored 1 s) in
    let p : Placed c x (groups_of s) before (on_tape c x (stored 1 s) r.tape) =
    placed-group c x before s.done (stored 1 s) r.tape refl (omega (arith, i.stays.within, i.stays.limit, i.stays.placed.same)) i.stays.placed in
    record {
      groups = groups_of s;
      count = r.number ∙ sym (length-map (closed s) group_of);
      some = omega arith;
      few = omega (arith, i.stays.within, i.stays.limit);
      placed = subst (λ (z : List Track). Placed c x (groups_of s) before z) (sym r.after) p;
      sizes = λ g h. of-groups (λ _ z. length z ≡ 126632) (λ g h. (reread g h).0) (closed s) (stored 1 s) w g (omega (arith, r.number));
      small = λ g h. of-groups (λ _ z. Small z) (λ g h. (reread g h).2) (closed s) (stored 1 s) w g (omega (arith, r.number));
      lasts = λ g h.
          of-groups (λ y z. get_or z 126616 0 ≡ y.final) final-byte (closed s) (stored 1 s) w g (omega (arith, r.number))
          ∙ final-is s.done (stored 1 s) (stored 1 s) n g q.on refl m h;
      walked = ap (walk_groups 1 beginning) q.read ∙ (q.walked ∙ ap (λ (z : List Item). Ok (record { position = idle; items = z })) (sym r.items));
    }
