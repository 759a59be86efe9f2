-- The ledger beside a run: it takes what opening and each call are handed, and nothing from the run.
--
-- Ledger    a word for every address, and a count of calls
-- begun     at opening: memory's words, and no call
-- entered   after one more call: a refused call leaves the ledger as it was, a write puts its value at its address
use Rattle.std.specs.Prelude.{ℕ, ◌+◌, cond, List, [], ◌∷◌, Some, None, Option, ◌==◌}
use Rattle.refusal.specs.Refusals.{Told}
use Rattle.rules.specs.declared.call.Call.{Call}
use Rattle.rules.specs.declared.call.Call.TheVariants.{Read, Write, Flush, Settle}
use Rattle.rules.specs.Systems.{due, weight, word_of}

-- a word for every address, and a count of calls
pub record Ledger : Type 0 where
  pub word : ℕ → ℕ
  pub count : ℕ

-- at opening
abbrev pub begun : (width : ℕ) → List (List ℕ) → Ledger
begun width memory = record { word = word_of width memory; count = 0 }

-- the words after an answered call
abbrev pub word_after : Call → (ℕ → ℕ) → ℕ → ℕ
word_after (Read seat address places) word a = word a
word_after (Write seat address value places) word a = cond (a == address) value (word a)
word_after (Flush seat address places) word a = word a
word_after Settle word a = word a

-- by the refusal that is due
abbrev pub entered_if : Option Told → Call → Ledger → Ledger
entered_if None call l = record { word = word_after call l.word; count = l.count + weight call }
entered_if (Some refusal) call l = l

-- after one more call, on a bus of so many seats over a memory of so many addresses
abbrev pub entered : (seats addresses : ℕ) → Call → Ledger → Ledger
entered seats addresses call l = entered_if (due l.count seats addresses call) call l

-- after each of the calls in turn
abbrev pub ledger_after : (seats addresses : ℕ) → List Call → Ledger → Ledger
ledger_after seats addresses [] l = l
ledger_after seats addresses (call ∷ calls) l = ledger_after seats addresses calls (entered seats addresses call l)
