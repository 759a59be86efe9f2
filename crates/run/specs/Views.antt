-- The code's run as the rules have it; every contract of the run cites it.
--
-- system_of   the system of the rules that a run stands for, by what its protocol and its memory mean
-- sizes      what was agreed, with lines of four words
-- look_due    the refusal of a look at a seat's copy of a line
use Rattle.std.specs.Prelude.{ℕ, cond, List, length, Some, None, Option, nat_le}
use Rattle.refusal.specs.Refusals.{Told, plain}
use Rattle.rules.specs.Systems.{System}
use Rattle.rules.specs.Coherence.{Sizes}
use Rattle.caches.specs.Views.{caches_of}
use Rattle.run.specs.declared.run.Run.{Run}

-- the system that a run stands for
abbrev pub system_of : {P M : Type 0} → (P → ℕ → ℕ → ℕ) → (M → List (List ℕ)) → Run P M → System
system_of cells lines run = record {
  cell = cells run.bus.protocol;
  caches = caches_of run.bus.caches;
  memory = lines run.bus.memory;
  tally = run.bus.tally;
  answered = run.calls;
}

-- what was agreed, with lines of four words
abbrev pub sizes : (seats sets lines : ℕ) → Sizes
sizes seats sets lines = record { seats = seats; sets = sets; lines = lines; width = 4 }

-- a look at a seat's copy of a line is refused with 6 for a seat not on the bus, then with 7 for a line beyond memory
abbrev pub look_due : System → (seat line : ℕ) → Option Told
look_due s seat line = cond (nat_le (length s.caches) seat) (Some (plain 6)) (cond (nat_le (length s.memory) line) (Some (plain 7)) None)
