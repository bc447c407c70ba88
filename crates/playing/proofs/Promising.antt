-- Playing keeps its promise.
use Rattle.std.proofs.Common.{◌≡◌, ℕ, suc, ◌+◌, ◌-◌, ◌≤◌, Bool, ◌⊎◌, List, [], ◌∷◌, ◌++◌, length, take, drop, None, sym, refl, ap, ◌∙◌, subst, inl, inr, arith}
use lib.Seq.{take-append_seam}
use Rattle.std.proofs.lemmas.List.{append-nil}
use Rattle.layout.specs.Counts.{count}
use Rattle.losses.specs.declared.fault.ReadFault.TheVariants.{Unchecked}
use Rattle.index.specs.Entries.{Item}
use Rattle.index.specs.Walk.{Between}
use Rattle.playing.specs.declared.fault.GroupCause.TheVariants.{Tracks}
use Rattle.playing.specs.declared.rows.Row.{Row}
use Rattle.playing.specs.Play.{bytes_given, rows_given, given, Sizes, End, played, answered, output_after, rows_after}
use Rattle.playing.specs.Promise.{Large, Gives, Refuses, Promised}
use Rattle.playing.proofs.Comes.{list_given, Comes, blanked-comes, damaged-comes}

length-rows : (l : List Item) (place : ℕ) → length (rows_given place l) ≡ length l
unfolding rows_given
length-rows [] place = refl
length-rows (i ∷ l) place = ap suc (length-rows l (place + length i.bytes))

take-front : {A : Type 0} (n : ℕ) (xs ys : List A) → length xs ≡ n → take n (xs ++ ys) ≡ xs
take-front n xs ys e = subst (λ (k : ℕ). take k (xs ++ ys) ≡ xs) e (take-append_seam xs ys)

-- an end without a fault, with a list given whole
gives-list : (e : End) (output : List ℕ) (rows : List Row) (l : List Item) → e.fault ≡ None → e.upto ≡ list_given l
    → Gives (answered e) (output_after e output) (rows_after e rows) l
gives-list e output rows l n u = record {
  carried = n;
  items = ap (λ (b : Between). length b.items) u;
  bytes = ap (λ (b : Between). length (given b)) u ∙ ap length (append-nil (bytes_given l));
  first =
      ap (λ (b : Between). take (length l) (rows_given 0 b.items ++ drop (length b.items) rows)) u
      ∙ take-front (length l) (rows_given 0 l) (drop (length l) rows) (length-rows l 0);
  opens =
      ap (λ (b : Between). take (length (bytes_given l)) (given b ++ drop (length (given b)) output)) u
      ∙ (ap (λ (r : List ℕ). take (length (bytes_given l)) (r ++ drop (length r) output)) (append-nil (bytes_given l))
      ∙ take-front (length (bytes_given l)) (bytes_given l) (drop (length (bytes_given l)) output) refl);
}

pub promised : Promised
promised c x ts z output rows lawful _ _ = record {
  kept = λ before us n l bad f w g.
      let h = blanked-comes c x before us ts n l bad lawful z f g w in
      gives-list (played c x ts z) output rows l h.0 h.1;
  never-mixed = λ before us n l bad f w g. unmixed l n bad g (damaged-comes c x before us ts n l bad lawful z f g w);
  told-apart = λ before us after vs ws m n k l bad worse p q v w.
      let big : Sizes = record { track = 4608; group = 126632; bench = 138048; output = length (bytes_given k) + length (bytes_given l); rows = length k + length l } in
      let h = blanked-comes c x before us ws m k bad lawful big p (record { track = refl; group = refl; bench = refl; output = omega arith; rows = omega arith }) v in
      let i = blanked-comes c x after vs ws n l worse lawful big q (record { track = refl; group = refl; bench = refl; output = omega arith; rows = omega arith }) w in
      ap (λ (b : Between). b.items) (sym h.1 ∙ i.1);
}
  where
    unmixed : (l : List Item) (n : ℕ) (bad : ℕ → ℕ → Bool) (g : Large z l) → Comes c x ts z l (λ m. 1 ≤ count (bad (m - 1)) 46) n g.output g.rows (played c x ts z)
        → Gives (answered (played c x ts z)) (output_after (played c x ts z) output) (rows_after (played c x ts z) rows) l ⊎ Refuses (answered (played c x ts z)) n bad
    unmixed l n bad g (inl h) = inl (gives-list (played c x ts z) output rows l h.0 h.1)
    unmixed l n bad g (inr h) = inr (record {
      group = h.group;
      cause = Tracks (Unchecked h.block h.serial);
      fault = h.fault;
      number = refl;
      first = h.first;
      last = h.last;
      bad-track = h.bad;
    })
