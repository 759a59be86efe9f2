-- What closing gives.
--
-- lines, settled, aside   the meaning of the memory: what reads answer, what stands at the bottom, what no call changes
-- Balanced   every copy that was filled was displaced, flushed or invalidated
-- Squared    what is given back, against the ledger
-- Closes     the closed run settled, its memory drained
use Rattle.std.specs.Prelude.{◌≡◌, ℕ, ◌+◌, List}
use Rattle.rules.specs.declared.tally.Tally.{Tally}
use Rattle.rules.specs.Systems.{closed}
use Rattle.rules.specs.Ledgers.{Ledger}
use Rattle.rules.specs.Coherence.{Sizes, Sized, Since, Equals}
use Rattle.run.specs.declared.closed.Closed.{Closed}
use Rattle.run.specs.declared.run.Run.{Run}
use Rattle.run.specs.Views.{system_of, sizes}

-- every copy that was filled was displaced, flushed or invalidated
abbrev pub Balanced : Tally → Type 0
Balanced t = t.fills ≡ t.displaced + t.flushed + t.invalidated

-- memory's two lists and the tally, against the ledger
pub record Squared (z : Sizes) (lines settled : List (List ℕ)) (tally : Tally) (l : Ledger) : Type 0 where
  -- what reads answer, and what stands at the bottom, is the ledger's word at every address
  pub reads : Equals z lines l
  pub bottom : Equals z settled l
  -- memory has kept its size
  pub sized : Sized z lines
  -- no copy is unaccounted for
  pub balanced : Balanced tally

-- a run closed
pub record Closes {P M A : Type 0} (cells : P → ℕ → ℕ → ℕ) (lines settled : M → List (List ℕ)) (aside : M → A) (run : Run P M) (c : Closed M) : Type 0 where
  -- memory answers what the rules' closing leaves, and has settled it
  pub reads : lines c.memory ≡ (closed (system_of cells lines run)).memory
  pub bottom : settled c.memory ≡ (closed (system_of cells lines run)).memory
  -- the tally and the lines written are the rules'
  pub tally : c.tally ≡ (closed (system_of cells lines run)).tally
  pub written : c.written ≡ (closed (system_of cells lines run)).lines
  -- what memory keeps aside is as it was
  pub apart : aside c.memory ≡ aside run.bus.memory
  -- whatever calls came before: both lists are the ledger's, and the tally balances
  pub squares : (seats sets count : ℕ) (l : Ledger) → Since (sizes seats sets count) (system_of cells lines run) l
      → Squared (sizes seats sets count) (lines c.memory) (settled c.memory) c.tally l
