-- Laying from an open recording lays the same into the recording of a run, and stores its groups on the tape.
use Rattle.std.proofs.Common.{◌≡◌, ℕ, zero, suc, ◌+◌, ◌-◌, ◌≤◌, Bool, true, false, cond, leb, List, [], ◌∷◌, ◌++◌, length, take, drop, sym, refl, ap, ◌∙◌, subst, arith, length-take}
use lib.Seq.{drop-append_seam}
use Rattle.std.proofs.lemmas.List.{append-nil, append_assoc}
use Rattle.std.proofs.lemmas.Bool.{leb-true, leb-false, le-leb, lt-leb, cond-true, cond-false, cond_both}
use Rattle.tape.specs.Tape.{Track}
use Rattle.channel.specs.Line.{Code}
use Rattle.layout.specs.declared.settings.Settings.{Settings}
use Rattle.index.specs.declared.kind.Kind.{Kind}
use Rattle.index.specs.declared.kind.Kind.TheVariants.{Total, Mark, Middle, Start, Last, Entire}
use Rattle.index.specs.Entries.{Group}
use Rattle.laying.specs.Lay.{Recording, entry, part, stored, complete}
use Rattle.laying.specs.Lay
use Rattle.runs.specs.Run.{on_tape, all_on_tape}
use Rattle.calls.specs.Held.{free}
use Rattle.calls.specs.Laying.{Desk, put, put_part, room, stored_on, lay_mark, lay_rest, lay_parts, lay_begun, lay_record}
use Rattle.calls.specs.Calls.{Follows}
use Rattle.calls.proofs.Following.{follows-free, follows-put, follows-stored, taped-stored}

-- one more group stored
pub tape-snoc : (c : Code) (x : Settings) (gs : List Group) (g : Group) (ts : List Track)
    → all_on_tape c x (gs ++ (g ∷ [])) ts ≡ on_tape c x g (all_on_tape c x gs ts)
unfolding all_on_tape
tape-snoc c x [] g ts = refl
tape-snoc c x (h ∷ gs) g ts = tape-snoc c x gs g (on_tape c x h ts)

-- an item begins where it has room
pub room-free : (c : Code) (n : ℕ) (d : Desk) → n ≤ 126596 → n ≤ free (room c n d).held.book
room-free c n d h = cond_both (leb n (free d.held.book)) d (stored_on c d) (λ e. n ≤ free e.held.book) (λ t. leb-true n _ t) (λ t. h)

-- from the recording s₀ on the tape ts to the recording s, which the desk d holds
pub record Carries (c : Code) (x : Settings) (ts : List Track) (s₀ : Recording) (d : Desk) (s : Recording) : Type 0 where
  pub follows : Follows x d.held s
  pub new : List Group
  pub grown : s.done ≡ s₀.done ++ new
  pub tape : d.tracks ≡ all_on_tape c x new ts

module _ (c : Code) (x : Settings) (ts : List Track) (s₀ : Recording) where
  pub carries-put : (d : Desk) (s : Recording) → Carries c x ts s₀ d s → (k : Kind) (n : ℕ) (bs : List ℕ)
      → length bs + 4 ≤ free d.held.book → Carries c x ts s₀ (put k n bs d) (Lay.put (entry s k n bs) s)
  carries-put d s i k n bs h = record {
    follows = follows-put x d.held s i.follows k n bs (omega (arith, i.follows.fits));
    new = i.new;
    grown = i.grown;
    tape = i.tape;
  }

  pub carries-stored : (d : Desk) (s : Recording) → Carries c x ts s₀ d s → Carries c x ts s₀ (stored_on c d) (complete s)
  carries-stored d s i = record {
    follows = follows-stored x d.held s i.follows;
    new = i.new ++ (stored 0 s ∷ []);
    grown = ap (λ (z : List Group). z ++ (stored 0 s ∷ [])) i.grown ∙ append_assoc s₀.done i.new (stored 0 s ∷ []);
    tape = taped-stored x d.held s i.follows c 0 d.tracks ∙ ap (on_tape c x (stored 0 s)) i.tape ∙ sym (tape-snoc c x i.new (stored 0 s) ts);
  }

  pub carries-room : (n : ℕ) (d : Desk) (s : Recording) → Carries c x ts s₀ d s → Carries c x ts s₀ (room c n d) (Lay.room n s)
  carries-room n d s i =
      subst (λ (z : ℕ). Carries c x ts s₀ (room c n d) (cond (leb n z) s (complete s))) (follows-free x d.held s i.follows) (go (leb n (free d.held.book)))
    where
      go : (b : Bool) → Carries c x ts s₀ (cond b d (stored_on c d)) (cond b s (complete s))
      go true = i
      go false = carries-stored d s i

  pub carries-mark : (k : ℕ) (d : Desk) (s : Recording) → Carries c x ts s₀ d s → Carries c x ts s₀ (lay_mark c k d) (Lay.lay_mark k s)
  carries-mark k d s i = carries-put (room c 4 d) (Lay.room 4 s) (carries-room 4 d s i) Mark (k - 1) [] (room-free c 4 d (omega arith))

  -- a part of what is free
  pub carries-part : (k : Kind) (bs : List ℕ) (d : Desk) (s : Recording) → Carries c x ts s₀ d s → 4 ≤ free d.held.book
      → Carries c x ts s₀ (stored_on c (put_part k (take (free d.held.book - 4) bs) d)) (complete (Lay.put (part s k (take (free d.held.book - 4) bs)) s))
  carries-part k bs d s i h =
      let bs₁ : List ℕ = take (free d.held.book - 4) bs in
      carries-stored (put_part k bs₁ d) (Lay.put (part s k bs₁) s) (carries-put d s i k (length bs₁) bs₁ (omega (arith, length-take (free d.held.book - 4) bs)))

  -- the last part and its total: here, or the total in a new group
  pub carries-last : (n : ℕ) (bs : List ℕ) (d : Desk) (s : Recording) → Carries c x ts s₀ d s → length bs + 4 ≤ free d.held.book
      → Carries c x ts s₀ (put Total n [] (room c 4 (put_part Last bs d)))
      (cond (leb (length bs + 8) (free d.held.book)) (Lay.put (entry s Total n []) (Lay.put (part s Last bs) s)) (Lay.put (entry s Total n []) (complete (Lay.put (part s Last bs) s))))
  carries-last n bs d s i h = go (leb (length bs + 8) (free d.held.book)) refl
    where
      d₁ : Desk
      d₁ = put_part Last bs d

      s₁ : Recording
      s₁ = Lay.put (part s Last bs) s

      i₁ : Carries c x ts s₀ d₁ s₁
      i₁ = carries-put d s i Last (length bs) bs h

      go : (b : Bool) → leb (length bs + 8) (free d.held.book) ≡ b
          → Carries c x ts s₀ (put Total n [] (room c 4 d₁)) (cond b (Lay.put (entry s Total n []) s₁) (Lay.put (entry s Total n []) (complete s₁)))
      go true e =
          let m = leb-true (length bs + 8) (free d.held.book) e in
          let r : 4 ≤ free d₁.held.book = omega arith in
          subst (λ (z : Desk). Carries c x ts s₀ (put Total n [] z) (Lay.put (entry s Total n []) s₁)) (sym (cond-true (leb 4 (free d₁.held.book)) d₁ (stored_on c d₁) (le-leb 4 _ r)))
          (carries-put d₁ s₁ i₁ Total n [] r)
      go false e =
          let m = leb-false (length bs + 8) (free d.held.book) e in
          let r : suc (free d₁.held.book) ≤ 4 = omega arith in
          subst (λ (z : Desk). Carries c x ts s₀ (put Total n [] z) (Lay.put (entry s Total n []) (complete s₁))) (sym (cond-false (leb 4 (free d₁.held.book)) d₁ (stored_on c d₁) (lt-leb 4 _ r)))
          (carries-put (stored_on c d₁) (complete s₁) (carries-stored d₁ s₁ i₁) Total n [] (omega arith))

  pub carries-rest : (f n : ℕ) (bs : List ℕ) (d : Desk) (s : Recording) → Carries c x ts s₀ d s → 4 ≤ free d.held.book
      → Carries c x ts s₀ (lay_rest c f n bs d) (Lay.lay_rest f n bs s)
  unfolding lay_rest Lay.lay_rest
  carries-rest zero n bs d s i h = i
  carries-rest (suc f) n bs d s i h =
      subst (λ (w : ℕ). Carries c x ts s₀ (lay_rest c (suc f) n bs d) (with-free w)) (follows-free x d.held s i.follows)
      (go (leb (length bs + 8) (free d.held.book)) (leb (length bs + 4) (free d.held.book)) refl refl
      (carries-rest f n (drop (free d.held.book - 4) bs) _ _ (carries-part Middle bs d s i h) (omega arith)))
    where
      with-free : ℕ → Recording
      with-free w =
          cond (leb (length bs + 8) w) (Lay.put (entry s Total n []) (Lay.put (part s Last bs) s))
          (cond (leb (length bs + 4) w) (Lay.put (entry s Total n []) (complete (Lay.put (part s Last bs) s)))
          (Lay.lay_rest f n (drop (w - 4) bs) (complete (Lay.put (part s Middle (take (w - 4) bs)) s))))

      go : (a b : Bool) → leb (length bs + 8) (free d.held.book) ≡ a → leb (length bs + 4) (free d.held.book) ≡ b → {d₁ : Desk} {s₁ : Recording}
          → Carries c x ts s₀ d₁ s₁
          → Carries c x ts s₀ (cond b (put Total n [] (room c 4 (put_part Last bs d))) d₁)
          (cond a (Lay.put (entry s Total n []) (Lay.put (part s Last bs) s)) (cond b (Lay.put (entry s Total n []) (complete (Lay.put (part s Last bs) s))) s₁))
      go a true p q j =
          subst (λ (z : Bool). Carries c x ts s₀ (put Total n [] (room c 4 (put_part Last bs d)))
          (cond z (Lay.put (entry s Total n []) (Lay.put (part s Last bs) s)) (Lay.put (entry s Total n []) (complete (Lay.put (part s Last bs) s))))) p
          (carries-last n bs d s i (leb-true _ _ q))
      go true false p q j = absurd (omega (arith, leb-true (length bs + 8) _ p, leb-false (length bs + 4) _ q))
      go false false p q j = j

  pub carries-begun : (bs : List ℕ) (d : Desk) (s : Recording) → Carries c x ts s₀ d s → 4 ≤ free d.held.book → Carries c x ts s₀ (lay_begun c bs d) (Lay.lay_begun bs s)
  carries-begun bs d s i h =
      subst (λ (w : ℕ). Carries c x ts s₀ (lay_begun c bs d) (with-free w)) (follows-free x d.held s i.follows) (go (leb (length bs + 4) (free d.held.book)) refl)
    where
      parts : ℕ → Recording
      parts w = Lay.lay_rest (length bs) (length bs) (drop (w - 4) bs) (complete (Lay.put (part s Start (take (w - 4) bs)) s))

      with-free : ℕ → Recording
      with-free w = cond (leb (length bs + 4) w) (Lay.put (part s Entire bs) s) (parts w)

      go : (b : Bool) → leb (length bs + 4) (free d.held.book) ≡ b
          → Carries c x ts s₀ (cond b (put_part Entire bs d) (lay_parts c bs d)) (cond b (Lay.put (part s Entire bs) s) (parts (free d.held.book)))
      go true e = carries-put d s i Entire (length bs) bs (leb-true _ _ e)
      go false e = carries-rest (length bs) (length bs) (drop (free d.held.book - 4) bs) _ _ (carries-part Start bs d s i h) (omega arith)

  pub carries-record : (bs : List ℕ) (d : Desk) (s : Recording) → Carries c x ts s₀ d s → Carries c x ts s₀ (lay_record c bs d) (Lay.lay_record bs s)
  carries-record bs d s i = carries-begun bs (room c 5 d) (Lay.room 5 s) (carries-room 5 d s i) (omega (arith, room-free c 5 d (omega arith)))

  -- the groups completed on the way are on the tape
  pub carries-tape : (d : Desk) (s : Recording) → Carries c x ts s₀ d s → d.tracks ≡ all_on_tape c x (drop (length s₀.done) s.done) ts
  carries-tape d s i =
      i.tape ∙ ap (λ (z : List Group). all_on_tape c x z ts) (sym (ap (drop (length s₀.done)) i.grown ∙ drop-append_seam s₀.done i.new))

module _ (c : Code) (x : Settings) (d : Desk) (s : Recording) (f : Follows x d.held s) where
  pub carries-none : Carries c x d.tracks s d s
  unfolding all_on_tape
  carries-none = record { follows = f; new = []; grown = sym (append-nil s.done); tape = refl }

  pub record-laid : (bs : List ℕ) → Carries c x d.tracks s (lay_record c bs d) (Lay.lay_record bs s)
  record-laid bs = carries-record c x d.tracks s bs d s carries-none

  pub mark-laid : (k : ℕ) → Carries c x d.tracks s (lay_mark c k d) (Lay.lay_mark k s)
  mark-laid k = carries-mark c x d.tracks s k d s carries-none
