-- What comes of playing the groups of a recording.
use Rattle.std.proofs.Common.{◌≡◌, ℕ, zero, suc, ◌+◌, ◌-◌, ◌*◌, ◌/◌, ◌<◌, ◌≤◌, min, Bool, cond, eqb, ◌⊎◌, List, [], ◌∷◌, map, length, get_or, Some, None, Ok, Err, Option, Result, sym, refl, ap, ◌∙◌, subst, inl, inr, arith}
use Rattle.std.proofs.lemmas.List.{append-nil}
use Rattle.std.proofs.lemmas.Bool.{cond-true, cond-false, le-leb, eq-eqb, ne_eqb, and_from}
use Rattle.tape.specs.Tape.{Track}
use Rattle.channel.specs.Line.{Code, Lawful}
use Rattle.layout.specs.Counts.{count}
use Rattle.layout.specs.Group.{Found, whole, unchecked}
use Rattle.layout.specs.declared.settings.Settings.{Settings}
use Rattle.losses.specs.declared.fault.ReadFault.TheVariants.{Unchecked}
use Rattle.reading.specs.Groups.{found, findings}
use Rattle.index.specs.declared.fault.IndexFault.{IndexFault}
use Rattle.index.specs.Entries.{Item, Group as GroupIn}
use Rattle.index.specs.Bytes.{read_group}
use Rattle.index.specs.Walk.{Position.idle, Between, next, walk_group, walk_groups, beginning}
use Rattle.laying.specs.Lay.{Recording}
use Rattle.laying.specs.Calls.{Listed}
use Rattle.runs.specs.Run.{Run, Run.make, Run.carry, Run.decline, Finished}
use Rattle.runs.specs.Stand.{Stands}
use Rattle.runs.proofs.Closing.{standing}
use Rattle.playing.specs.declared.fault.GroupCause.TheVariants.{Tracks, Index}
use Rattle.playing.specs.declared.fault.PlayFault.{PlayFault}
use Rattle.playing.specs.declared.fault.PlayFault.TheVariants.{Group}
use Rattle.playing.specs.Play.{bytes_given, given, Sizes, End, stopped, fitting, goes, on_walk, on_found, plays, size_fault, lent_fault, past, played}
use Rattle.playing.specs.Promise.{Damaged, Blanked, Large}
use Rattle.playing.proofs.Grows.{More, more_same, groups-more}
use Rattle.playing.proofs.ReadBack.{blanked-read, damaged-read}

-- the first of some groups that are walked
record Firsts (n : ℕ) (b d : Between) (g : GroupIn) (gs : List GroupIn) : Type 0 where
  then' : Between
  walks : walk_group n b g ≡ Ok then'
  on : walk_groups (suc n) then' gs ≡ Ok d

firsts : (n : ℕ) (b d : Between) (g : GroupIn) (gs : List GroupIn) → walk_groups n b (g ∷ gs) ≡ Ok d → Firsts n b d g gs
unfolding walk_groups
firsts n b d g gs h = go (walk_group n b g) refl h
  where
    go : (r : Result Between IndexFault) → walk_group n b g ≡ r → next r (λ c. walk_groups (suc n) c gs) ≡ Ok d → Firsts n b d g gs
    go (Ok c) e f = record { then' = c; walks = e; on = f }
    go (Err x) e f = let z : ◌≡◌ {A = ℕ} 0 1 = cc in absurd (omega arith)

walked_none : (n : ℕ) (b d : Between) → walk_groups n b [] ≡ Ok d → b ≡ d
unfolding walk_groups
walked_none n b d h = cc

-- the end of a walk that gave a list
abbrev pub list_given : List Item → Between
list_given l = record { position = idle; items = l }

module _ (c : Code) (x : Settings) (ts : List Track) (z : Sizes) where
  -- one group read and walked
  play-one : (k n : ℕ) (b d : Between) (bs : List ℕ) → found c x.tap x.start n ts ≡ whole bs → walk_group n b (read_group bs) ≡ Ok d
      → plays c x ts z (suc k) n b ≡ goes z n b (read_group bs).final d (plays c x ts z k (suc n) d)
  unfolding plays
  play-one k n b d bs r e =
      ap (λ (f : Found). on_found (findings c n ts) f (λ f. stopped n (Tracks f) n b)
      (λ bs. on_walk (walk_group n b (read_group bs)) (λ e. stopped n (Index e) n b)
      (λ w. goes z n b (read_group bs).final w (plays c x ts z k (suc n) w)))) r
      ∙ ap (λ (w : Result Between IndexFault). on_walk w (λ e. stopped n (Index e) n b) (λ w. goes z n b (read_group bs).final w (plays c x ts z k (suc n) w))) e

  -- one group with a C3 word that does not check
  play-unchecked : (k n i j : ℕ) (b : Between) → found c x.tap x.start n ts ≡ unchecked i j → plays c x ts z (suc k) n b ≡ stopped n (Tracks (Unchecked i j)) n b
  unfolding plays
  play-unchecked k n i j b r =
      ap (λ (f : Found). on_found (findings c n ts) f (λ f. stopped n (Tracks f) n b)
      (λ bs. on_walk (walk_group n b (read_group bs)) (λ e. stopped n (Index e) n b)
      (λ w. goes z n b (read_group bs).final w (plays c x ts z k (suc n) w)))) r

  module _ (l : List Item) (Bad : ℕ → Type 0) (top : ℕ) (output : length (bytes_given l) ≤ z.output) (rows : length l ≤ z.rows) where
    -- playing stops at a bad group
    pub record Stops (e : End) : Type 0 where
      pub group : ℕ
      pub block : ℕ
      pub serial : ℕ
      pub fault : e.fault ≡ Some (Group group (Tracks (Unchecked block serial)))
      pub first : 1 ≤ group
      pub last : group ≤ top
      pub bad : Bad group

    -- the list is given whole, or playing stops so
    abbrev pub Comes : End → Type 0
    Comes e = ((e.fault ≡ None) × (e.upto ≡ list_given l)) ⊎ Stops e

    -- group n reads as these bytes, or is bad
    abbrev pub Readable : ℕ → List ℕ → Type 0
    Readable n bs = (found c x.tap x.start n ts ≡ whole bs) ⊎ (((i : ℕ) × (j : ℕ) × (found c x.tap x.start n ts ≡ unchecked i j)) × Bad n)

    fits : (n : ℕ) (b d : Between) (e : End) → More d (list_given l) → fitting z n b d e ≡ e
    fits n b d e m =
        cond-true _ _ _ (le-leb (length (given d)) z.output (omega (arith, m.bytes, ap length (append-nil (bytes_given l)))))
        ∙ cond-true _ _ _ (le-leb (length d.items) z.rows (omega (arith, m.rows)))

    unread : (k n : ℕ) (b : Between) → 1 ≤ n → n ≤ top → ((i : ℕ) × (j : ℕ) × (found c x.tap x.start n ts ≡ unchecked i j)) × Bad n → Comes (plays c x ts z (suc k) n b)
    unread k n b o t q = subst Comes (sym (play-unchecked k n q.0.0 q.0.1 b q.0.2))
        (inr (record { group = n; block = q.0.0; serial = q.0.1; fault = refl; first = o; last = t; bad = q.1 }))

    -- the groups gs, from number n on, with so many on the tape
    pub comes : (gs : List (List ℕ)) (k n : ℕ) (b : Between) → 1 ≤ n → n ≤ top → n + length gs ≡ suc top → length gs ≤ k
        → ((m i : ℕ) → i < length gs → m ≡ n + i → Readable m (get_or gs i []))
        → ((m i : ℕ) → i < length gs → m ≡ n + i → (read_group (get_or gs i [])).final ≡ cond (eqb m top) 1 0)
        → walk_groups n b (map read_group gs) ≡ Ok (list_given l) → Comes (plays c x ts z k n b)
    comes [] k n b o t s f r w h = absurd (omega arith)
    comes (bs ∷ gs) zero n b o t s f r w h = absurd (omega arith)
    comes (bs ∷ []) (suc k) n b o t s f r w h = go (r n 0 (omega arith) (omega arith))
      where
        i : Firsts n b (list_given l) (read_group bs) []
        i = firsts n b (list_given l) (read_group bs) [] h

        d : i.then' ≡ list_given l
        d = walked_none (suc n) i.then' (list_given l) i.on

        final : (read_group bs).final ≡ 1
        final = w n 0 (omega arith) (omega arith) ∙ cond-true (eqb n top) 1 0 (eq-eqb n top (omega arith))

        e : End
        e = record { fault = None; fetched = n; upto = list_given l }

        ends : goes z n b (read_group bs).final (list_given l) (plays c x ts z k (suc n) (list_given l)) ≡ e
        ends = fits n b (list_given l) _ (more_same _) ∙ cond-true (eqb (read_group bs).final 1) e _ (eq-eqb (read_group bs).final 1 final)

        go : Readable n bs → Comes (plays c x ts z (suc k) n b)
        go (inl q) = subst Comes (sym (play-one k n b (list_given l) bs q (i.walks ∙ ap (λ (a : Between). Ok a) d) ∙ ends)) (inl (refl, refl))
        go (inr q) = unread k n b o t q
    comes (bs ∷ (cs ∷ gs)) (suc k) n b o t s f r w h =
        go (r n 0 (omega arith) (omega arith))
        (comes (cs ∷ gs) k (suc n) i.then' (omega arith) (omega arith) (omega arith) (omega arith) (λ m j u v. r m (suc j) (omega arith) (omega arith))
        (λ m j u v. w m (suc j) (omega arith) (omega arith)) i.on)
      where
        i : Firsts n b (list_given l) (read_group bs) (map read_group (cs ∷ gs))
        i = firsts n b (list_given l) (read_group bs) (map read_group (cs ∷ gs)) h

        final : (read_group bs).final ≡ 0
        final = w n 0 (omega arith) (omega arith) ∙ cond-false (eqb n top) 1 0 (ne_eqb n top (λ q. omega arith))

        e : End
        e = plays c x ts z k (suc n) i.then'

        goes_on : goes z n b (read_group bs).final i.then' e ≡ e
        goes_on = fits n b i.then' _ (groups-more (map read_group (cs ∷ gs)) (suc n) i.then' (list_given l) i.on)
            ∙ cond-false (eqb (read_group bs).final 1) _ e (ap (λ (a : ℕ). eqb a 1) final)

        go : Readable n bs → Comes e → Comes (plays c x ts z (suc k) n b)
        go (inl q) a = subst Comes (sym (play-one k n b i.then' bs q i.walks ∙ goes_on)) a
        go (inr q) a = unread k n b o t q

-- ---- what is lent

settings-small : (c : Code) (x : Settings) (before : List Track) {s : Recording} {ts : List Track} {l : Listed} → Run c x before s ts l
    → (x.tap < 32768) × (x.start < 32768)
settings-small c x before (make a b h) = (a, b)
settings-small c x before (carry m a sm r k d) = settings-small c x before r
settings-small c x before (decline m a r n) = settings-small c x before r

lent-large : (x : Settings) (z : Sizes) (l : List Item) → (x.tap < 32768) × (x.start < 32768) → Large z l → lent_fault x z ≡ None
lent-large x z l s g = ap size_fault
    (cond-true _ _ _ (eq-eqb z.track 4608 g.track)
    ∙ (cond-true _ _ _ (and_from _ _ (le-leb x.tap 32767 (omega (arith, s.0))) (le-leb x.start 32767 (omega (arith, s.1))))
    ∙ (cond-true _ _ _ (eq-eqb z.group 126632 g.group) ∙ cond-true _ _ _ (eq-eqb z.bench 138048 g.bench))))

played-large : (c : Code) (x : Settings) (ts : List Track) (z : Sizes) → lent_fault x z ≡ None
    → plays c x ts z (min 65535 (length ts / 46)) 1 beginning ≡ played c x ts z
played-large c x ts z e =
    sym (ap (λ (o : Option PlayFault). past o (plays c x ts z (min 65535 (length ts / 46)) 1 beginning) (λ e. record { fault = Some e; fetched = 0; upto = beginning })) e)

-- ---- a recording

module _ (c : Code) (x : Settings) (before us ts : List Track) (n : ℕ) (l : List Item) (bad : ℕ → ℕ → Bool) (lawful : Lawful c) (z : Sizes) (finished : Finished c x before us n l)
    (large : Large z l) where
  stands : Stands c x before us n l
  stands = standing c x before us n l finished

  last : (m i : ℕ) → i < n → m ≡ 1 + i → (read_group (get_or stands.groups i [])).final ≡ cond (eqb m n) 1 0
  unfolding read_group
  last m i h e = stands.lasts i h ∙ ap (λ (k : ℕ). cond (eqb k n) 1 0) (omega arith)

  -- from what each group reads as
  played-comes : (Bad : ℕ → Type 0) → 46 * n ≤ length ts
      → ((m i : ℕ) → i < n → m ≡ 1 + i → Readable c x ts z l Bad n large.output large.rows m (get_or stands.groups i []))
      → Comes c x ts z l Bad n large.output large.rows (played c x ts z)
  played-comes Bad there r =
      subst (Comes c x ts z l Bad n large.output large.rows) (played-large c x ts z (lent-large x z l (settings-small c x before finished.run) large))
      (comes c x ts z l Bad n large.output large.rows stands.groups (min 65535 (length ts / 46)) 1 beginning (omega arith) stands.some
      (omega (arith, stands.count)) (omega (arith, stands.count, stands.few)) (λ m i h e. r m i (omega (arith, stands.count)) e)
      (λ m i h e. last m i (omega (arith, stands.count)) e) stands.walked)

  -- with the bad tracks blank the list is given
  pub blanked-comes : Blanked n bad us ts → ((played c x ts z).fault ≡ None) × ((played c x ts z).upto ≡ list_given l)
  blanked-comes w = given-whole (played-comes (λ m. ⊥) w.damaged.there reads)
    where
      reads : (m i : ℕ) → i < n → m ≡ 1 + i → Readable c x ts z l (λ m. ⊥) n large.output large.rows m (get_or stands.groups i [])
      reads m i h e =
          let k : suc i ≡ m = omega arith in
          let q = blanked-read c x.tap x.start i (get_or stands.groups i []) us ts (bad i) lawful (stands.sizes i h) (stands.small i h)
          (λ t b. stands.placed.written i t (omega (arith, stands.count)) b) (w.damaged.few i h) (λ t b f. w.damaged.light i t h b f) (λ t b f. w.blank i t h b f) in
          inl (subst (λ (j : ℕ). found c x.tap x.start j ts ≡ whole (get_or stands.groups i [])) k q)

      given-whole : Comes c x ts z l (λ m. ⊥) n large.output large.rows (played c x ts z) → ((played c x ts z).fault ≡ None) × ((played c x ts z).upto ≡ list_given l)
      given-whole (inl h) = h
      given-whole (inr h) = absurd h.bad

  abbrev ReadOrBad : ℕ → ℕ → Type 0
  ReadOrBad i m = Readable c x ts z l (λ m. 1 ≤ count (bad (m - 1)) 46) n large.output large.rows m (get_or stands.groups i [])

  -- else the list is given, or playing stops at a group with a bad track
  pub damaged-comes : Damaged n bad us ts → Comes c x ts z l (λ m. 1 ≤ count (bad (m - 1)) 46) n large.output large.rows (played c x ts z)
  damaged-comes w = played-comes (λ m. 1 ≤ count (bad (m - 1)) 46) w.there reads
    where
      numbered : (i : ℕ) → (found c x.tap x.start (suc i) ts ≡ whole (get_or stands.groups i []))
          ⊎ (((a : ℕ) × (b : ℕ) × (found c x.tap x.start (suc i) ts ≡ unchecked a b)) × (1 ≤ count (bad i) 46))
          → ReadOrBad i (suc i)
      numbered i (inl q) = inl q
      numbered i (inr q) = let k : i ≡ suc i - 1 = omega arith in inr (q.0, subst (λ (j : ℕ). 1 ≤ count (bad j) 46) k q.1)

      reads : (m i : ℕ) → i < n → m ≡ 1 + i → ReadOrBad i m
      reads m i h e =
          let k : suc i ≡ m = omega arith in
          subst (ReadOrBad i) k (numbered i
          (damaged-read c x.tap x.start i (get_or stands.groups i []) us ts (bad i) lawful (stands.sizes i h) (stands.small i h)
          (λ t b. stands.placed.written i t (omega (arith, stands.count)) b) (w.few i h) (λ t b f. w.light i t h b f)))
