-- What is lent to a call that writes, reads or plays groups.
use Rattle.std.specs.Prelude.{ℕ, cond, Some, None, Option, ◌==◌}
use Rattle.layout.specs.Randomizer.{small}
use Rattle.layout.specs.declared.lent.LentFault.{LentFault}
use Rattle.layout.specs.declared.lent.LentFault.TheVariants.{TrackBuffer, Setting, GroupBuffer, Bench}

-- why it is declined, by the sizes of track buffer, group buffer and bench, and the settings, in the order of checking
abbrev pub lent_fault : ℕ → ℕ → ℕ → ℕ → ℕ → Option LentFault
lent_fault buffer tap start group bench =
    cond (buffer == 4608) (cond (small tap start) (cond (group == 126632) (cond (bench == 138048) None (Some Bench)) (Some GroupBuffer)) (Some Setting)) (Some TrackBuffer)
