-- The transaction of a write, by the writing seat's cells and the state of its copy. `choose` answers it.
--
-- code_at   the byte that decides: cell 0 at Invalid, 1 at Shared, 2 at Owned; an exclusive copy asks no cell
-- chosen   the transaction, or none where the copy is exclusive
use Rattle.std.specs.Prelude.{ℕ, Option}
use Rattle.protocol.specs.declared.state.State.{State}
use Rattle.protocol.specs.declared.state.State.TheVariants.{Invalid, Shared, Exclusive, Owned, Modified}
use Rattle.protocol.specs.declared.transaction.Transaction.{Transaction}
use Rattle.protocol.specs.Transactions.{digit_transaction}

-- the byte that decides a write, of the seat's cells
abbrev pub code_at : (ℕ → ℕ) → State → ℕ
code_at c Invalid = c 0
code_at c Shared = c 1
code_at c Exclusive = 0
code_at c Owned = c 2
code_at c Modified = 0

-- the transaction of a write, of the seat's cells
abbrev pub chosen : (ℕ → ℕ) → State → Option Transaction
chosen c s = digit_transaction (code_at c s)
