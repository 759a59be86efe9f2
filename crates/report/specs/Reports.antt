-- The report of a text, from bytes to bytes; the contract of `report_text` cites it.
--
-- Reported   these bytes are the report of the text
use Rattle.std.specs.Prelude.{◌≡◌, ℕ, List}
use Rattle.account.specs.Accounts.{Outcome}
use Rattle.session.specs.Texts.{Gives, Keeps}
use Rattle.report.specs.Printed.{printed}

-- the bytes are the printed form of the one outcome that the text gives, and that outcome is the ledger's
pub record Reported (t : List ℕ) (bytes : List ℕ) : Type 0 where
  pub outcome : Outcome
  -- it is what the text gives, and nothing else is
  pub gives : Gives t outcome
  pub only : (p : Outcome) → Gives t p → p ≡ outcome
  -- the bytes are its printed form
  pub shown : bytes ≡ printed outcome
  -- reads answer the ledger's words, memory at the end is the ledger's, and every fill is accounted for
  pub keeps : Keeps t outcome
