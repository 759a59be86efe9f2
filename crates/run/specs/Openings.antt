-- What opening gives.
--
-- Opened   the run just opened, and the ledger begun beside it
use Rattle.std.specs.Prelude.{◌≡◌, ℕ, List, length}
use Rattle.rules.specs.Systems.{opened}
use Rattle.rules.specs.Ledgers.{begun}
use Rattle.rules.specs.Coherence.{Since, Promise}
use Rattle.caches.specs.declared.agreed.Agreed.{Agreed}
use Rattle.run.specs.declared.run.Run.{Run}
use Rattle.run.specs.Views.{system_of, sizes}

-- a run opened with these sizes over this memory, under this protocol
pub record Opened {P M : Type 0} (cells : P → ℕ → ℕ → ℕ) (lines : M → List (List ℕ)) (agreed : Agreed) (protocol : P) (memory : M) (run : Run P M) : Type 0 where
  -- every copy Invalid, nothing counted, nothing answered
  pub system : system_of cells lines run ≡ opened (cells protocol) agreed.seats agreed.sets (lines memory)
  -- the protocol and the memory are the ones handed in
  pub under : run.bus.protocol ≡ protocol
  pub over : run.bus.memory ≡ memory
  -- a history begins, beside the ledger of memory's words, and the promise holds
  pub since : Since (sizes agreed.seats agreed.sets (length (lines memory))) (system_of cells lines run) (begun 4 (lines memory))
  pub promise : Promise (sizes agreed.seats agreed.sets (length (lines memory))) (system_of cells lines run) (begun 4 (lines memory))
