-- One turn over the entries that a reader has left.
use Rattle.std.proofs.Common.{◌≡◌, ◌+◌, ◌≤◌, Bool, true, false, cond, [], ◌∷◌, length, sym, ap, ◌∙◌, subst, ap₂, arith}
use Rattle.std.proofs.lemmas.Bool.{cond-true}
use Rattle.index.specs.Entries.{Entry, finishes}
use Rattle.index.specs.Bytes.{named}
use Rattle.index.specs.declared.kind.Kind.{Kind}
use Rattle.index.specs.declared.kind.Kind.TheVariants.{Total, Mark, Middle, Start, Last, Entire, Skip, Unknown}
use Rattle.index.specs.Cursors.{Cursor, Sound, ahead, coming, advanced, remaining}
use Rattle.index.proofs.Coming.{left-some, remaining-more, remaining-none, sound-advanced}
use Rattle.player.specs.Shelves.{Shelf, part, laid, laid_all, FitsOne, Fits, size_in, finished_in}

part-few : (p : Entry) → length (part p) ≤ length p.bytes
part-few p = go (named p.kind)
  where
    go : (b : Bool) → length (cond b p.bytes []) ≤ length p.bytes
    go true = omega arith
    go false = omega arith

finishes-few : (k : Kind) → finishes k ≤ 1
finishes-few Total = omega arith
finishes-few Mark = omega arith
finishes-few Middle = omega arith
finishes-few Start = omega arith
finishes-few Last = omega arith
finishes-few Entire = omega arith
finishes-few Skip = omega arith
finishes-few Unknown = omega arith

module _ (c d : Cursor) (p : Entry) (s : Sound c) (a : ahead c ≡ true) (e : p ≡ coming c) (f : d ≡ cond (ahead c) (advanced c) c) where
  -- the reader after its entry
  abbrev moved_on : d ≡ advanced c
  moved_on = f ∙ cond-true (ahead c) (advanced c) c a

  pub turn-sound : Sound d
  turn-sound = subst Sound (sym moved_on) (sound-advanced c s a)

  pub turn-left : c.left ≡ d.left + 1
  turn-left = omega (arith, ap (λ (x : Cursor). x.left) moved_on, (left-some c s a).0)

  pub turn-place : c.place + length (part p) ≤ d.place
  turn-place = omega (arith, ap (λ (x : Cursor). x.place) moved_on, ap (λ (x : Entry). length x.bytes) e, part-few p)

  pub turn-few : finishes p.kind ≤ 1
  turn-few = finishes-few p.kind

  entries-are : remaining c ≡ p ∷ remaining d
  entries-are = remaining-more c s a ∙ ap₂ (λ (x : Entry) (y : Cursor). x ∷ remaining y) (sym e) (sym moved_on)

  pub turn-fits : (x : Shelf) → Fits x (remaining c) → FitsOne x p × Fits (laid x p) (remaining d)
  unfolding Fits
  turn-fits x h = subst (Fits x) entries-are h

  pub turn-laid : (x : Shelf) → laid_all x (remaining c) ≡ laid_all (laid x p) (remaining d)
  unfolding laid_all
  turn-laid x = ap (laid_all x) entries-are

  pub turn-size : size_in (remaining c) ≡ length (part p) + size_in (remaining d)
  unfolding size_in
  turn-size = ap size_in entries-are

  pub turn-finished : finished_in (remaining c) ≡ finishes p.kind + finished_in (remaining d)
  unfolding finished_in
  turn-finished = ap finished_in entries-are

-- no entry is left
module _ (c : Cursor) (s : Sound c) (a : ahead c ≡ false) where
  pub end-laid : (x : Shelf) → laid_all x (remaining c) ≡ x
  unfolding laid_all
  end-laid x = ap (laid_all x) (remaining-none c s a).1

  pub end-size : size_in (remaining c) ≡ 0
  unfolding size_in
  end-size = ap size_in (remaining-none c s a).1

  pub end-finished : finished_in (remaining c) ≡ 0
  unfolding finished_in
  end-finished = ap finished_in (remaining-none c s a).1
