-- The caches of all seats over the memory, with what the present call has counted and told so far.
--
-- Machine   caches, memory's lines, the tally, and the records that the present call has made, oldest first
-- column    one line seen across the bus
-- change    one line's copies and words change, and nothing is told of it
-- transact  a bus transaction on one line: the line changes, a record tells of it, the tally counts it
-- lost      the other seats that held the line before, and do not after
use Rattle.std.specs.Prelude.{ℕ, ◌+◌, Bool, false, not, ◌&&◌, List, [], ◌∷◌, ◌++◌, map, Some, None, Option, slice_index_or, slice_set}
use Rattle.protocol.specs.declared.transaction.Transaction.{Transaction}
use Rattle.protocol.specs.declared.transaction.Transaction.TheVariants.{ReadShared, ReadInvalidate, Invalidate, Update, ThroughUpdate, ThroughInvalidate, WriteBack}
use Rattle.protocol.specs.States.{valid}
use Rattle.rules.specs.declared.record.Record.{Record}
use Rattle.rules.specs.declared.record.Supplier.{Supplier}
use Rattle.rules.specs.declared.record.Supplier.TheVariants.{Nobody, Memory, Seat}
use Rattle.rules.specs.declared.tally.Tally.{Tally}
use Rattle.rules.specs.Columns.{Copy, none, Column, state_at, alone, owner_of, one}
use Rattle.rules.specs.Transactions.{reflects}
use Rattle.rules.specs.Caches.{Cache, look, put, held_in}
use Rattle.rules.specs.Tallies.{tallied}

-- the bus at work
pub record Machine : Type 0 where
  pub caches : List Cache
  pub memory : List (List ℕ)
  pub tally : Tally
  pub records : List Record

-- every seat's copy of line n
abbrev pub copies_of : ℕ → List Cache → List Copy
copies_of n cs = map (λ c. look c n) cs

-- line n seen across the bus
abbrev pub column : Machine → ℕ → Column
column m n = record { copies = copies_of n m.caches; home = slice_index_or m.memory n [] }

-- every seat's copy of line n is now the one listed
abbrev pub put_each : ℕ → List Cache → List Copy → List Cache
put_each n [] xs = []
put_each n (c ∷ cs) [] = c ∷ cs
put_each n (c ∷ cs) (x ∷ xs) = put n c x ∷ put_each n cs xs

-- the copies that all seats hold
abbrev pub copies_held : List Cache → ℕ
copies_held [] = 0
copies_held (c ∷ cs) = held_in c + copies_held cs

-- the seat holds the line
abbrev pub holds : ℕ → ℕ → Machine → Bool
holds r n m = valid (state_at (column m n).copies r)

-- the seats, of two lists of copies, that held the line before and do not after
abbrev pub lost_in : List Copy → List Copy → ℕ
lost_in [] ys = 0
lost_in (x ∷ xs) [] = 0
lost_in (x ∷ xs) (y ∷ ys) = one (valid x.state && not (valid y.state)) + lost_in xs ys

-- the same, of the seats other than r
abbrev pub lost : ℕ → List Copy → List Copy → ℕ
lost r xs ys = lost_in (slice_set xs r none) ys

-- line n is now as the column says
abbrev pub install : ℕ → Column → Machine → Machine
install n c m = record
    { caches = put_each n m.caches c.copies; memory = slice_set m.memory n c.home; tally = m.tally; records = m.records }

-- line n changes, and no transaction is made
unfoldable pub change : ℕ → (Column → Column) → Machine → Machine
change n f m = install n (f (column m n)) m

-- an owner's seat, or else memory
abbrev pub owner_or_memory : Option ℕ → Supplier
owner_or_memory None = Memory
owner_or_memory (Some k) = Seat k

-- who supplies the line, of the copies before
abbrev pub supplier_of : Transaction → List Copy → Supplier
supplier_of ReadShared xs = owner_or_memory (owner_of xs)
supplier_of ReadInvalidate xs = owner_or_memory (owner_of xs)
supplier_of Invalidate xs = Nobody
supplier_of Update xs = Nobody
supplier_of ThroughUpdate xs = Nobody
supplier_of ThroughInvalidate xs = Nobody
supplier_of WriteBack xs = Nobody

-- whether memory receives the owner's line too: read shared alone does it
abbrev pub reflected_by : Transaction → List Copy → List Copy → Bool
reflected_by ReadShared xs ys = reflects xs ys
reflected_by ReadInvalidate xs ys = false
reflected_by Invalidate xs ys = false
reflected_by Update xs ys = false
reflected_by ThroughUpdate xs ys = false
reflected_by ThroughInvalidate xs ys = false
reflected_by WriteBack xs ys = false

-- the record of a transaction of seat r on line n, of the column before and after it
abbrev pub record_of : Transaction → (r n : ℕ) → Column → Column → Record
record_of t r n before after = record {
  transaction = t;
  seat = r;
  line = n;
  shared = not (alone r after.copies);
  reflected = reflected_by t before.copies after.copies;
  supplier = supplier_of t before.copies;
}

-- a transaction told and counted, and the line changed, of the column before and after it
abbrev pub transacted : Transaction → (r n : ℕ) → Column → Column → Machine → Machine
transacted t r n before after m = record {
  caches = put_each n m.caches after.copies;
  memory = slice_set m.memory n after.home;
  tally = tallied (record_of t r n before after) (lost r before.copies after.copies) m.tally;
  records = m.records ++ (record_of t r n before after ∷ []);
}

-- seat r makes transaction t on line n, which does f to the line
unfoldable pub transact : Transaction → (r n : ℕ) → (Column → Column) → Machine → Machine
transact t r n f m = transacted t r n (column m n) (f (column m n)) m
