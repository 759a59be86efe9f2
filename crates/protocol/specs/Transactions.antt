-- The seven bus transactions: codes, digits, mnemonics and names.
--
-- code              1 to 7
-- digit_transaction  the transaction of a digit in a cell
-- mnemonic          the two letters of a report
use Rattle.std.specs.Prelude.{ℕ, cond, List, Some, None, codes, Option, ◌==◌}
use Rattle.protocol.specs.declared.transaction.Transaction.{Transaction}
use Rattle.protocol.specs.declared.transaction.Transaction.TheVariants.{ReadShared, ReadInvalidate, Invalidate, Update, ThroughUpdate, ThroughInvalidate, WriteBack}

-- the code of a transaction
abbrev pub code : Transaction → ℕ
code ReadShared = 1
code ReadInvalidate = 2
code Invalidate = 3
code Update = 4
code ThroughUpdate = 5
code ThroughInvalidate = 6
code WriteBack = 7

-- the transaction of a digit, where the byte is one: the digit 1 is byte 49
abbrev pub digit_transaction : ℕ → Option Transaction
digit_transaction b =
    cond (b == 49) (Some ReadShared)
    (cond (b == 50) (Some ReadInvalidate)
    (cond (b == 51) (Some Invalidate)
    (cond (b == 52) (Some Update)
    (cond (b == 53) (Some ThroughUpdate) (cond (b == 54) (Some ThroughInvalidate) (cond (b == 55) (Some WriteBack) None))))))

-- the two letters of a transaction
abbrev pub mnemonic : Transaction → List ℕ
mnemonic ReadShared = codes "RS"
mnemonic ReadInvalidate = codes "RX"
mnemonic Invalidate = codes "IN"
mnemonic Update = codes "UP"
mnemonic ThroughUpdate = codes "TU"
mnemonic ThroughInvalidate = codes "TI"
mnemonic WriteBack = codes "WB"

-- the name of a transaction
abbrev pub transaction_name : Transaction → List ℕ
transaction_name ReadShared = codes "read shared"
transaction_name ReadInvalidate = codes "read and invalidate"
transaction_name Invalidate = codes "invalidate"
transaction_name Update = codes "update"
transaction_name ThroughUpdate = codes "through with update"
transaction_name ThroughInvalidate = codes "through with invalidate"
transaction_name WriteBack = codes "write back"
