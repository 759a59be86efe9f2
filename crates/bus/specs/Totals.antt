-- The sum of the tally's numbers: what keeps each of them within 32 bits. The contracts of the counting cite it.
--
-- total   the sum of the fifteen numbers
-- Room    so many events may still be counted, and no number passes 32 bits
use Rattle.std.specs.Prelude.{ℕ, ◌+◌, ◌^◌, ◌<◌}
use Rattle.rules.specs.declared.tally.Tally.{Tally}

-- the sum of the fifteen numbers
abbrev pub total : Tally → ℕ
total t =
    t.reads
    + t.writes
    + t.hits
    + t.rs
    + t.rx
    + t.inv
    + t.up
    + t.tu
    + t.ti
    + t.wb
    + t.reflected
    + t.fills
    + t.displaced
    + t.flushed
    + t.invalidated

-- k more fit
abbrev pub Room : ℕ → Tally → Type 0
Room k t = total t + k < 2 ^ 32
