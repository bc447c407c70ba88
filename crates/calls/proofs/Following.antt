-- What an open recording holds stays the recording of a run through an entry, a group stored and a warning.
use Rattle.std.proofs.Common.{◌≡◌, ℕ, ◌+◌, ◌-◌, ◌*◌, ◌≤◌, List, [], ◌++◌, length, replicate, sym, refl, ap, ◌∙◌, ap₂, arith, length-append}
use Rattle.tape.specs.Tape.{Track}
use Rattle.channel.specs.Line.{Code}
use Rattle.layout.specs.declared.settings.Settings.{Settings}
use Rattle.writing.specs.Groups.{with_group}
use Rattle.index.specs.declared.kind.Kind.{Kind}
use Rattle.index.specs.declared.tally.Counts.{Counts}
use Rattle.index.specs.Entries.{Entry, used}
use Rattle.index.specs.Bytes.{zeros, user_bytes, index_bytes, group_of}
use Rattle.index.specs.Writing.{open_group, entry_laid, Filled, group_with}
use Rattle.index.specs.Counted.{counted}
use Rattle.index.proofs.Walks.{used-snoc, length-snoc}
use Rattle.index.proofs.Reread.{length-zeros, length-entries, length-bytes}
use Rattle.index.proofs.Laying.{entry-laid, group-completed, opens-empty}
use Rattle.laying.specs.Lay.{Recording, entry, stored, complete}
use Rattle.laying.specs.Lay
use Rattle.laying.specs.Calls.{warning}
use Rattle.runs.specs.Run.{on_tape}
use Rattle.calls.specs.Held.{Held, free, turned, alerted}
use Rattle.calls.specs.Laying.{desk, laid, closing, taped}
use Rattle.calls.specs.Calls.{Follows}

pub length-open : (ps : List Entry) → used ps + 4 * length ps ≤ 126600 → length (open_group ps) ≡ 126632
unfolding open_group
length-open ps h =
    length-append (user_bytes ps) _
    ∙ omega (arith, length-append (zeros gap) (index_bytes ps ++ zeros 32), length-append (index_bytes ps) (zeros 32), length-bytes ps, length-zeros gap, length-entries ps, length-zeros 32)
  where
    gap : ℕ
    gap = 126600 - used ps - 4 * length ps

zeros-are : (n : ℕ) → replicate n 0 ≡ zeros n
unfolding zeros
zeros-are n = refl

-- a group of zeros is an open group without entries
pub filled_none : (n : ℕ) → n ≡ 126632 → Filled (replicate n 0) (record { entries = 0; used = 0 }) []
unfolding used
filled_none n e = record { bytes = zeros-are n ∙ ap zeros e ∙ sym opens-empty; entries = refl; used' = refl }

module _ (x : Settings) (h : Held) (s : Recording) (f : Follows x h s) where
  -- as much is free
  pub follows-free : free h.book ≡ Lay.free s
  follows-free = ap₂ (λ (u e : ℕ). 126596 - u - 4 * e) f.filled.used' f.filled.entries

  pub follows-long : length h.group ≡ 126632
  follows-long = ap length f.filled.bytes ∙ length-open s.open' (omega (arith, f.filled.used', f.filled.entries, f.fits))

  pub follows-put : (k : Kind) (n : ℕ) (bs : List ℕ) → h.book.fill.used + length bs + 4 * (h.book.fill.entries + 1) ≤ 126596
      → Follows x (laid k n bs h) (Lay.put (entry s k n bs) s)
  follows-put k n bs r = record {
    settings = f.settings;
    limit = f.limit;
    number = f.number;
    filled = record {
      bytes = ap (λ (w : ℕ). entry_laid h.group h.book.fill (record { kind = k; count = n; warned = w; bytes = bs })) f.warned
          ∙ entry-laid h.group h.book.fill s.open' (entry s k n bs) f.filled (omega arith);
      entries = omega (arith, length-snoc s.open' (entry s k n bs), f.filled.entries);
      used' = omega (arith, used-snoc s.open' (entry s k n bs), f.filled.used');
    };
    counts = ap (λ (z : Counts). counted z k n) f.counts;
    warned = f.warned;
    fits = omega arith;
  }

  -- the open group completed is the group that the recording stores
  pub closing-stored : (last : ℕ) → closing last h ≡ group_of (stored last s)
  closing-stored last =
      group-completed h.group h.book.fill s.open' h.book.warned h.book.number h.book.counts last f.filled (omega arith)
      ∙ ap (λ (w : ℕ). group_of (group_with s.open' w h.book.number h.book.counts last)) f.warned
      ∙ ap₂ (λ (n : ℕ) (k : Counts). group_of (group_with s.open' s.warned n k last)) f.number f.counts

  pub taped-stored : (c : Code) (last : ℕ) (ts : List Track) → taped c last (desk h ts) ≡ on_tape c x (stored last s) ts
  taped-stored c last ts =
      ap (λ (z : Settings). with_group c z.tap z.start h.book.number (closing last h) ts) f.settings
      ∙ ap₂ (λ (n : ℕ) (g : List ℕ). with_group c x.tap x.start n g ts) f.number (closing-stored last)

  pub follows-stored : Follows x (record { book = turned h.book; group = replicate (length h.group) 0 }) (complete s)
  follows-stored = record {
    settings = f.settings;
    limit = f.limit;
    number = omega (arith, f.number, length-snoc s.done (stored 0 s));
    filled = filled_none (length h.group) follows-long;
    counts = f.counts;
    warned = f.warned;
    fits = omega arith;
  }

  pub follows-warned : Follows x (record { book = alerted h.book; group = h.group }) (warning s)
  follows-warned = record
      { settings = f.settings; limit = f.limit; number = f.number; filled = f.filled; counts = f.counts; warned = refl; fits = f.fits }
