-- Laws of whole calls, in the words of the bus.
--
-- displaced   the line whose copy a seat gives up to read or write another, if there is one
-- BySupplier  a record names as supplier a seat that owned the line when the call began, or memory where no seat did
-- ByOwner     a record of a write back names a seat that owned the line when the call began
-- forward     a count brought forward by each of the records in turn
-- BusLaws     the laws
use Rattle.std.specs.Prelude.{◌≡◌, ℕ, ◌+◌, ◌-◌, ◌/◌, ◌≤◌, Bool, true, false, ◌≢◌, List, [], ◌∷◌, ◌++◌, length, Some, None, Option, slice_index, slice_index_or, slice_set}
use Rattle.std.specs.List.{AllByRecursion}
use Rattle.refusal.specs.Refusals.{Told}
use Rattle.protocol.specs.declared.transaction.Transaction.{Transaction}
use Rattle.protocol.specs.declared.transaction.Transaction.TheVariants.{ReadShared, ReadInvalidate, Invalidate, Update, ThroughUpdate, ThroughInvalidate, WriteBack}
use Rattle.protocol.specs.States.{valid, owned}
use Rattle.protocol.specs.Transactions.{code}
use Rattle.rules.specs.declared.call.Call.{Call}
use Rattle.rules.specs.declared.call.Call.TheVariants.{Read, Write, Flush, Settle}
use Rattle.rules.specs.declared.record.Record.{Record}
use Rattle.rules.specs.declared.record.Supplier.{Supplier}
use Rattle.rules.specs.declared.record.Supplier.TheVariants.{Nobody, Memory, Seat}
use Rattle.rules.specs.declared.tally.Tally.{Tally}
use Rattle.rules.specs.Columns.{none, one}
use Rattle.rules.specs.Caches.{room, victim}
use Rattle.rules.specs.Machines.{copies_of}
use Rattle.rules.specs.Systems.{System, state_on, places_needed, due_in, reached, outcome, after, closed}
use Rattle.rules.specs.Ledgers.{Ledger}
use Rattle.rules.specs.Coherence.{Sizes, Since}

-- by whether the line is held, whether there is room, and the line that would go
abbrev pub displaced_if : Bool → Bool → ℕ → Option ℕ
displaced_if true free v = None
displaced_if false true v = None
displaced_if false false v = Some v

-- the line whose copy the seat gives up to hold line n
abbrev pub displaced : System → (seat n : ℕ) → Option ℕ
displaced s seat n = displaced_if (valid (state_on s n seat)) (room (slice_index_or s.caches seat []) n) (victim (slice_index_or s.caches seat []) n)

-- a write back is made by a seat that owned the line when the call began
abbrev pub ByOwner : System → Record → Type 0
ByOwner s e = e.transaction ≡ WriteBack → owned (state_on s e.line e.seat) ≡ true

-- the transactions that move a line to the requester
abbrev pub moves : Transaction → Bool
moves ReadShared = true
moves ReadInvalidate = true
moves Invalidate = false
moves Update = false
moves ThroughUpdate = false
moves ThroughInvalidate = false
moves WriteBack = false

-- a moved line comes from a seat that owned it when the call began, or from memory where no seat did
abbrev pub MovedBy : System → Transaction → ℕ → Supplier → Type 0
MovedBy s t n Nobody = moves t ≡ false
MovedBy s t n Memory = (moves t ≡ true) × ((seat : ℕ) → owned (state_on s n seat) ≡ false)
MovedBy s t n (Seat k) = (moves t ≡ true) × (owned (state_on s n k) ≡ true)

-- a record names the right supplier
abbrev pub BySupplier : System → Record → Type 0
BySupplier s e = MovedBy s e.transaction e.line e.supplier

-- only a read shared is reflected
abbrev pub ByReading : Record → Type 0
ByReading e = e.reflected ≡ true → e.transaction ≡ ReadShared

-- a count brought forward by each of the records in turn
abbrev pub forward : {A : Type 0} → (Record → A → A) → List Record → A → A
forward step [] n = n
forward step (e ∷ es) n = forward step es (step e n)

-- the numbers of a tally that count transactions, by their codes from 1 on
abbrev pub transactions_of : Tally → List ℕ
transactions_of t = t.rs ∷ t.rx ∷ t.inv ∷ t.up ∷ t.tu ∷ t.ti ∷ t.wb ∷ []

-- one more of the transaction that a record tells
abbrev pub one_more : Record → List ℕ → List ℕ
one_more e ns = slice_set ns (code e.transaction - 1) (slice_index ns (code e.transaction - 1) + 1)

-- one more where a record says that its line was reflected
abbrev pub one_reflected : Record → ℕ → ℕ
one_reflected e n = n + one e.reflected

-- one more where a record's transaction moves a line to the requester
abbrev pub one_filled : Record → ℕ → ℕ
one_filled e n = n + one (moves e.transaction)

-- nothing, whether or not the line was held
abbrev pub never : Bool → ℕ
never held = 0

-- one, whether or not the line was held
abbrev pub always : Bool → ℕ
always held = 1

-- as much as x says of a read and y of a write, by whether the seat holds the line when the call begins
abbrev pub accessed : (x y : Bool → ℕ) → ℕ → System → Call → ℕ
accessed x y width s (Read seat address places) = x (valid (state_on s (address / width) seat))
accessed x y width s (Write seat address value places) = y (valid (state_on s (address / width) seat))
accessed x y width s (Flush seat address places) = 0
accessed x y width s Settle = 0

-- the laws of whole calls
pub record BusLaws : Type 0 where
  -- a refused call leaves the run as it was, and tells nothing
  pub refused : (width : ℕ) (s : System) (call : Call) (x : Told) → due_in width s call ≡ Some x
      → outcome width call s ≡ record { system = s; records = []; answer = 0 }
  -- no call tells of more than four transactions
  pub four : (width : ℕ) (s : System) (call : Call) → length (outcome width call s).records ≤ places_needed
  -- one list of calls and then another are both in turn
  pub in_turn : (width : ℕ) (xs ys : List Call) (s : System) → after width (xs ++ ys) s ≡ after width ys (after width xs s)
  -- an answered read leaves its seat with the line
  pub reader : (z : Sizes) (s : System) (l : Ledger) → Since z s l → (seat address places : ℕ) → due_in z.width s (Read seat address places) ≡ None
      → valid (state_on (outcome z.width (Read seat address places) s).system (address / z.width) seat) ≡ true
  -- an answered read leaves alone the copies of every other line, but of the one it displaces
  pub others : (z : Sizes) (s : System) (l : Ledger) → Since z s l → (seat address places : ℕ) → due_in z.width s (Read seat address places) ≡ None
      → (n : ℕ) → n ≢ address / z.width → displaced s seat (address / z.width) ≢ Some n
      → copies_of n (outcome z.width (Read seat address places) s).system.caches ≡ copies_of n s.caches
  -- of the line it displaces, only the reader's own copy goes
  pub displaces : (z : Sizes) (s : System) (l : Ledger) → Since z s l → (seat address places : ℕ) → due_in z.width s (Read seat address places) ≡ None
      → (n : ℕ) → displaced s seat (address / z.width) ≡ Some n
      → copies_of n (outcome z.width (Read seat address places) s).system.caches ≡ slice_set (copies_of n s.caches) seat none
  -- only an owner's line is written back
  pub owners : (z : Sizes) (s : System) (l : Ledger) → Since z s l → (call : Call) → AllByRecursion (ByOwner s) (outcome z.width call s).records
  -- an owner supplies, or else memory
  pub suppliers : (z : Sizes) (s : System) (l : Ledger) → Since z s l → (call : Call) → AllByRecursion (BySupplier s) (outcome z.width call s).records
  -- a flush writes a line exactly when its seat owns it
  pub flushes : (z : Sizes) (s : System) (l : Ledger) → Since z s l → (seat address places : ℕ) → due_in z.width s (Flush seat address places) ≡ None
      → (outcome z.width (Flush seat address places) s).answer ≡ one (owned (state_on s (address / z.width) seat))
  -- an answered settle leaves no copy
  pub settles : (z : Sizes) (s : System) (l : Ledger) → Since z s l → due_in z.width s Settle ≡ None
      → (n seat : ℕ) → valid (state_on (outcome z.width Settle s).system n seat) ≡ false
  -- only a read shared is reflected
  pub reflections : (width : ℕ) (s : System) (call : Call) → AllByRecursion ByReading (outcome width call s).records
  -- the tally counts each transaction that an answered call makes, each line reflected, and each line brought to a seat
  pub counts : (width : ℕ) (s : System) (call : Call) → due_in width s call ≡ None
      → transactions_of (outcome width call s).system.tally ≡ forward one_more (reached width call s).records (transactions_of s.tally)
  pub reflects : (width : ℕ) (s : System) (call : Call) → due_in width s call ≡ None
      → (outcome width call s).system.tally.reflected ≡ forward one_reflected (reached width call s).records s.tally.reflected
  pub fills : (width : ℕ) (s : System) (call : Call) → due_in width s call ≡ None
      → (outcome width call s).system.tally.fills ≡ forward one_filled (reached width call s).records s.tally.fills
  -- an answered read or write counts as one, and as a hit exactly when its seat held the line
  pub reads : (width : ℕ) (s : System) (call : Call) → due_in width s call ≡ None
      → (outcome width call s).system.tally.reads ≡ s.tally.reads + accessed always never width s call
  pub writes : (width : ℕ) (s : System) (call : Call) → due_in width s call ≡ None
      → (outcome width call s).system.tally.writes ≡ s.tally.writes + accessed never always width s call
  pub hits : (width : ℕ) (s : System) (call : Call) → due_in width s call ≡ None
      → (outcome width call s).system.tally.hits ≡ s.tally.hits + accessed one one width s call
  -- closing is a settle, and gives its answer
  pub closing : (width : ℕ) (s : System) → due_in width s Settle ≡ None
      → closed s ≡ record {
        memory = (outcome width Settle s).system.memory;
        tally = (outcome width Settle s).system.tally;
        lines = (outcome width Settle s).answer;
      }
