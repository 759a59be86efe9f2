-- What an access does: transactions and changes in turn.
--
-- let_go     a seat's copy goes, after a write back if it is owned
-- emptied   the line's place in a seat has room: another line went, if there was none
-- fetched   a read: a line that is not held is read shared
-- through   through with invalidate, after the write back of an owner in another seat
-- written   a write, by the seat's state and its cells 0, 1, 2
-- flushed   a seat drops its copy of a line, if it holds one
-- settled   every seat drops every copy, seats upward, sets upward, ways upward
use Rattle.std.specs.Prelude.{ℕ, zero, suc, Bool, true, false, List, [], ◌∷◌, length, Some, None, Option, slice_index_or, slice_set}
use Rattle.protocol.specs.declared.state.State.{State}
use Rattle.protocol.specs.declared.state.State.TheVariants.{Invalid, Shared, Exclusive, Owned, Modified}
use Rattle.protocol.specs.declared.transaction.Transaction.{Transaction}
use Rattle.protocol.specs.declared.transaction.Transaction.TheVariants.{ReadShared, ReadInvalidate, Invalidate, Update, ThroughUpdate, ThroughInvalidate, WriteBack}
use Rattle.protocol.specs.States.{owned}
use Rattle.protocol.specs.Transactions.{digit_transaction}
use Rattle.rules.specs.declared.tally.Tally.{Tally}
use Rattle.rules.specs.Columns.{none, state_at, owner_of}
use Rattle.rules.specs.Transactions.{Protocol, read_shared, read_invalidate, invalidate, update, through_update, through_invalidate, write_back, silent, dropped}
use Rattle.rules.specs.Caches.{room, victim, lines_at}
use Rattle.rules.specs.Tallies.{one_displaced, one_flushed}
use Rattle.rules.specs.Machines.{Machine, column, holds, change, transact}

-- the tally moves, and nothing else
abbrev pub counting : (Tally → Tally) → Machine → Machine
counting f m = record { caches = m.caches; memory = m.memory; tally = f m.tally; records = m.records }

-- the state of seat r's copy of line n
abbrev pub state_in : (r n : ℕ) → Machine → State
state_in r n m = state_at (column m n).copies r

-- seat r writes line n back, or not
abbrev pub written_back_if : Bool → (r n : ℕ) → Machine → Machine
written_back_if true r n m = transact WriteBack r n (write_back r) m
written_back_if false r n m = m

-- seat r lets its copy of line n go, after a write back if it is owned
unfoldable pub let_go : (r n : ℕ) → Machine → Machine
let_go r n m = change n (dropped r) (written_back_if (owned (state_in r n m)) r n m)

-- by whether there is room for line n in seat r
abbrev pub emptied_if : Bool → (r n : ℕ) → Machine → Machine
emptied_if true r n m = m
emptied_if false r n m = counting one_displaced (let_go r (victim (slice_index_or m.caches r []) n) m)

-- seat r has room for line n: if there was none, another line went
unfoldable pub emptied : (r n : ℕ) → Machine → Machine
emptied r n m = emptied_if (room (slice_index_or m.caches r []) n) r n m

-- by whether seat r holds line n
abbrev pub flushed_if : Bool → (r n : ℕ) → Machine → Machine
flushed_if true r n m = counting one_flushed (let_go r n m)
flushed_if false r n m = m

-- seat r drops its copy of line n, if it holds one
unfoldable pub flushed : (r n : ℕ) → Machine → Machine
flushed r n m = flushed_if (holds r n m) r n m

-- the place is emptied and the line read shared
abbrev pub filled : Protocol → (r n : ℕ) → Machine → Machine
filled cell r n m = transact ReadShared r n (read_shared cell r) (emptied r n m)

-- by whether seat r holds line n
abbrev pub fetched_if : Bool → Protocol → (r n : ℕ) → Machine → Machine
fetched_if true cell r n m = m
fetched_if false cell r n m = filled cell r n m

-- a read by seat r of line n: a held line uses no bus
unfoldable pub fetched : Protocol → (r n : ℕ) → Machine → Machine
fetched cell r n m = fetched_if (holds r n m) cell r n m

-- an owner, if there is one, writes the line back
abbrev pub owner_writes_back : Option ℕ → ℕ → Machine → Machine
owner_writes_back None n m = m
owner_writes_back (Some k) n m = transact WriteBack k n (write_back k) m

-- an owner of line n in a seat other than r writes it back
unfoldable pub saved_from : (r n : ℕ) → Machine → Machine
saved_from r n m = owner_writes_back (owner_of (slice_set (column m n).copies r none)) n m

-- writes: seat r writes value v at word o of line n
module _ (cell : Protocol) (r n o v : ℕ) where
  -- through with invalidate; an owner in another seat writes back first
  unfoldable pub through : Machine → Machine
  through m = transact ThroughInvalidate r n (through_invalidate cell r o v) (saved_from r n m)

  -- a write at Shared or Owned, by the transaction that its cell names
  abbrev pub sent_by : Option Transaction → Machine → Machine
  sent_by None m = m
  sent_by (Some ReadShared) m = m
  sent_by (Some ReadInvalidate) m = m
  sent_by (Some Invalidate) m = transact Invalidate r n (invalidate r o v) m
  sent_by (Some Update) m = transact Update r n (update cell r o v) m
  sent_by (Some ThroughUpdate) m = transact ThroughUpdate r n (through_update cell r o v) m
  sent_by (Some ThroughInvalidate) m = through m
  sent_by (Some WriteBack) m = m

  -- a write of a held line, by its state: Shared follows cell 1, Owned cell 2, an exclusive copy uses no bus
  abbrev pub written_at : State → Machine → Machine
  written_at Invalid m = m
  written_at Shared m = sent_by (digit_transaction (cell r 1)) m
  written_at Exclusive m = change n (silent r o v) m
  written_at Owned m = sent_by (digit_transaction (cell r 2)) m
  written_at Modified m = change n (silent r o v) m

  -- a write of a held line
  unfoldable pub written_held : Machine → Machine
  written_held m = written_at (state_in r n m) m

  -- a write at Invalid, by the transaction that cell 0 names: after read shared the write goes on as from Shared or Exclusive
  abbrev pub missed_by : Option Transaction → Machine → Machine
  missed_by None m = m
  missed_by (Some ReadShared) m = written_held (filled cell r n m)
  missed_by (Some ReadInvalidate) m = transact ReadInvalidate r n (read_invalidate r o v) (emptied r n m)
  missed_by (Some Invalidate) m = m
  missed_by (Some Update) m = m
  missed_by (Some ThroughUpdate) m = m
  missed_by (Some ThroughInvalidate) m = through m
  missed_by (Some WriteBack) m = m

  -- by whether seat r holds line n
  abbrev pub written_if : Bool → Machine → Machine
  written_if true m = written_held m
  written_if false m = missed_by (digit_transaction (cell r 0)) m

  -- a write by seat r
  unfoldable pub written : Machine → Machine
  written m = written_if (holds r n m) m

-- seat k drops its copies of the lines in turn
abbrev pub flushed_each : ℕ → List ℕ → Machine → Machine
flushed_each k [] m = m
flushed_each k (n ∷ ns) m = flushed_each k ns (flushed k n m)

-- seat k drops every copy that stands in set i
unfoldable pub flushed_set : (k i : ℕ) → Machine → Machine
flushed_set k i m = flushed_each k (lines_at (slice_index_or m.caches k []) i) m

-- seat k drops every copy in its first j sets, sets upward
abbrev pub flushed_sets : (k j : ℕ) → Machine → Machine
flushed_sets k zero m = m
flushed_sets k (suc j) m = flushed_set k j (flushed_sets k j m)

-- seat k drops every copy
abbrev pub flushed_seat : ℕ → Machine → Machine
flushed_seat k m = flushed_sets k (length (slice_index_or m.caches k [])) m

-- the first j seats drop every copy, seats upward
abbrev pub flushed_seats : ℕ → Machine → Machine
flushed_seats zero m = m
flushed_seats (suc j) m = flushed_seat j (flushed_seats j m)

-- every seat drops every copy
unfoldable pub settled : Machine → Machine
settled m = flushed_seats (length m.caches) m
