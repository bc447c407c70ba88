-- The next entry of an index, as the code reads it.
use Rattle.std.proofs.Common.{◌≡◌, ℕ, zero, suc, ◌+◌, ◌-◌, ◌*◌, ◌/◌, ◌%◌, ◌<◌, ◌≤◌, Bool, true, false, cond, ◌&&◌, eqb, ltb, leb, List, [], ◌∷◌, length, get_or, take, drop, sym, refl, ap, ◌∙◌, ap₂, arith, length-drop, length-take}
use Rattle.std.proofs.lemmas.Bool.{lt-ltb, le-leb, ltb-true, ltb-false, leb-true, leb-false, cond-true, and_from, and_parts, ne_eqb}
use Rattle.std.proofs.lemmas.List.{get_or-take, take-take, length-take-le}
use Rattle.index.specs.declared.kind.Kind.{Kind}
use Rattle.index.specs.Entries.{Entry}
use Rattle.index.specs.Bytes.{kind_of, named, number, entry_with, read_entry, read_entries, EntryTaken}
use Rattle.index.specs.Walk.{none}
use Rattle.index.specs.Cursors.{Cursor, Sound, started_with, remaining, ahead, coming, advanced}

module _ (c : Cursor) (flag count : ℕ) (rest : List ℕ) (h : EntryTaken c.index flag count rest) where
  pub there : 0 < c.left → ahead c ≡ true
  there l = and_from _ _ (lt-ltb 0 c.left l) (le-leb 4 (length c.index) h.long)

  pub read-coming : (kind : Kind) (bytes part : List ℕ) → kind ≡ kind_of (flag - 8 * (flag / 8 % 2)) → part ≡ take count (drop c.place c.group)
      → bytes ≡ cond (named kind) part [] → ◌≡◌ {A = Entry} (record { kind = kind; count = count; warned = flag / 8 % 2; bytes = bytes }) (coming c)
  read-coming kind bytes part k p b =
      let f = h.flag in let n = h.count in cc

  pub behind-coming : (bytes : List ℕ) (n : ℕ) → 0 < c.left → bytes ≡ (coming c).bytes → n ≡ length bytes
      → ◌≡◌ {A = Cursor} (record { group = c.group; index = rest; left = c.left - 1; place = c.place + n }) (cond (ahead c) (advanced c) c)
  behind-coming bytes n l b e =
      (λ i. record { group = c.group; index = h.rest i; left = c.left - 1; place = c.place + (e ∙ ap length b) i })
      ∙ sym (cond-true (ahead c) _ _ (there l))

-- ---- entries that are left

number-front : (xs g : List ℕ) (n k i : ℕ) → xs ≡ take n g → i + k ≤ n → number k i xs ≡ number k i g
unfolding number
number-front xs g n zero i e h = refl
number-front xs g n (suc k) i e h =
    ap₂ (λ (a b : ℕ). a * 256 + b) (number-front xs g n k i e (omega arith))
    (ap (λ (l : List ℕ). get_or l (i + k) 0) e ∙ get_or-take n g (i + k) 0 (omega arith))

module _ (c : Cursor) (s : Sound c) where
  coming-read : 4 ≤ length c.index → coming c ≡ read_entry c.group (length c.index - 4) c.place
  coming-read h = ap₂ (λ (f n : ℕ). entry_with (kind_of (f - 8 * (f / 8 % 2))) (f / 8 % 2) n (drop c.place c.group))
      (ap (λ (l : List ℕ). get_or l (length c.index - 4) 0) s.front ∙ get_or-take (length c.index) c.group (length c.index - 4) 0 (omega arith))
      (number-front c.index c.group (length c.index) 3 (length c.index - 4 + 1) s.front (omega arith))

  pub coming-bytes : length (coming c).bytes ≤ 126632 - c.place
  coming-bytes = go (named (coming c).kind) (coming c).count
    where
      go : (b : Bool) (n : ℕ) → length (cond b (take n (drop c.place c.group)) []) ≤ 126632 - c.place
      go true n = omega (arith, length-take n (drop c.place c.group), length-drop c.place c.group, s.size)
      go false n = omega arith

  pub left-some : ahead c ≡ true → (0 < c.left) × (4 ≤ length c.index)
  left-some a = let b = and_parts _ _ a in (ltb-true 0 c.left b.0, leb-true 4 (length c.index) b.1)

  -- the index without its last entry
  shorter : 4 ≤ length c.index → length (take (length c.index - 4) c.index) ≡ length c.index - 4
  shorter h = length-take-le (length c.index - 4) c.index (omega arith)

  pub remaining-more : ahead c ≡ true → remaining c ≡ coming c ∷ remaining (advanced c)
  unfolding read_entries
  remaining-more a =
      let b = left-some a in
      let e : c.left ≡ suc (c.left - 1) = omega arith in
      let r = coming-read b.1 in
      ap (λ (k : ℕ). read_entries c.group k (length c.index) c.place) e
      ∙ ap₂ (λ (x : Entry) (n : ℕ). x ∷ read_entries c.group (c.left - 1) n (c.place + length x.bytes)) (sym r) (sym (shorter b.1))

  pub remaining-none : ahead c ≡ false → (c.left ≡ 0) × (remaining c ≡ [])
  unfolding read_entries
  remaining-none a = let z = zero_left (ltb 0 c.left) refl (leb 4 (length c.index)) refl a in
      (z, ap (λ (k : ℕ). read_entries c.group k (length c.index) c.place) z)
    where
      zero_left : (x : Bool) → ltb 0 c.left ≡ x → (y : Bool) → leb 4 (length c.index) ≡ y → (x && y) ≡ false → c.left ≡ 0
      zero_left false p y q h = let n = ltb-false 0 c.left p in omega arith
      zero_left true p false q h = let n = ltb-true 0 c.left p in let m = leb-false 4 (length c.index) q in absurd (omega (arith, s.room))
      zero_left true p true q h = let z : ◌≡◌ {A = ℕ} 0 1 = cc in absurd (omega arith)

  pub sound-advanced : ahead c ≡ true → Sound (advanced c)
  sound-advanced a =
      let b = left-some a in
      let n = shorter b.1 in
      let k = length c.index - 4 in
      record {
        size = s.size;
        front = ap (take k) s.front ∙ (take-take k (length c.index) c.group (omega arith) ∙ ap (λ (m : ℕ). take m c.group) (sym n));
        long = omega (arith, s.long);
        room = omega (arith, s.room);
        place = omega (arith, coming-bytes, s.place);
      }

pub none-remaining : (c : Cursor) → none (remaining c) ≡ eqb c.left 0
unfolding read_entries
none-remaining c = go c.left
  where
    go : (k : ℕ) → none (read_entries c.group k (length c.index) c.place) ≡ eqb k 0
    go zero = refl
    go (suc k) = sym (ne_eqb (suc k) 0 (λ e. omega arith))

pub started-sound : (k : ℕ) (g : List ℕ) → length g ≡ 126632 → k ≤ 31650 → Sound (started_with k g)
started-sound k g l h =
    let n = length-take-le 126600 g (omega arith) in
    record {
      size = l;
      front = ap (λ (m : ℕ). take m g) (sym n);
      long = omega arith;
      room = omega arith;
      place = omega arith;
    }
