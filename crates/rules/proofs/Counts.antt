-- How many records each step makes: an access four at most.
use Rattle.std.proofs.Common.{◌≡◌, ℕ, ◌+◌, ◌≤◌, Bool, true, false, [], length, get_or, set, Some, None, Option, refl, arith}
use Rattle.std.proofs.lemmas.List.{length_push}
use Rattle.protocol.specs.declared.state.State.{State}
use Rattle.protocol.specs.declared.state.State.TheVariants.{Invalid, Shared, Exclusive, Owned, Modified}
use Rattle.protocol.specs.declared.transaction.Transaction.{Transaction}
use Rattle.protocol.specs.declared.transaction.Transaction.TheVariants.{ReadShared, ReadInvalidate, Invalidate, Update, ThroughUpdate, ThroughInvalidate, WriteBack}
use Rattle.protocol.specs.States.{owned}
use Rattle.protocol.specs.Transactions.{digit_transaction}
use Rattle.rules.specs.Columns.{Column, none, owner_of}
use Rattle.rules.specs.Caches.{room, victim}
use Rattle.rules.specs.Transactions.{Protocol, dropped, silent, read_shared, read_invalidate, invalidate, update, through_update, through_invalidate, write_back}
use Rattle.rules.specs.Machines.{Machine, column, holds, record_of, change, transact}
use Rattle.rules.specs.Accesses.{state_in, written_back_if, let_go, emptied_if, emptied, flushed_if, flushed, filled, fetched_if, fetched, owner_writes_back, saved_from, through, sent_by, written_at, written_held, missed_by, written_if, written}

-- the records made so far
abbrev pub made : Machine → ℕ
made m = length m.records

pub transact-made : (t : Transaction) (r n : ℕ) (f : Column → Column) (m : Machine) → made (transact t r n f m) ≡ made m + 1
unfolding transact
transact-made t r n f m = length_push m.records (record_of t r n (column m n) (f (column m n)))

pub change-made : (n : ℕ) (f : Column → Column) (m : Machine) → made (change n f m) ≡ made m
unfolding change
change-made n f m = refl

back-made : (b : Bool) (r n : ℕ) (m : Machine) → made (written_back_if b r n m) ≤ made m + 1
back-made true r n m = omega (arith, transact-made WriteBack r n (write_back r) m)
back-made false r n m = omega arith

pub let_go-made : (r n : ℕ) (m : Machine) → made (let_go r n m) ≤ made m + 1
unfolding let_go
let_go-made r n m = omega (arith, change-made n (dropped r) (written_back_if (owned (state_in r n m)) r n m), back-made (owned (state_in r n m)) r n m)

emptied-if-made : (b : Bool) (r n : ℕ) (m : Machine) → made (emptied_if b r n m) ≤ made m + 1
emptied-if-made true r n m = omega arith
emptied-if-made false r n m = let_go-made r (victim (get_or m.caches r []) n) m

pub emptied-made : (r n : ℕ) (m : Machine) → made (emptied r n m) ≤ made m + 1
unfolding emptied
emptied-made r n m = emptied-if-made (room (get_or m.caches r []) n) r n m

flushed-if-made : (b : Bool) (r n : ℕ) (m : Machine) → made (flushed_if b r n m) ≤ made m + 1
flushed-if-made true r n m = let_go-made r n m
flushed-if-made false r n m = omega arith

pub flushed-made : (r n : ℕ) (m : Machine) → made (flushed r n m) ≤ made m + 1
unfolding flushed
flushed-made r n m = flushed-if-made (holds r n m) r n m

module _ (cell : Protocol) (r n : ℕ) where
  pub filled-made : (m : Machine) → made (filled cell r n m) ≤ made m + 2
  filled-made m = omega (arith, transact-made ReadShared r n (read_shared cell r) (emptied r n m), emptied-made r n m)

  fetched-if-made : (b : Bool) (m : Machine) → made (fetched_if b cell r n m) ≤ made m + 2
  fetched-if-made true m = omega arith
  fetched-if-made false m = filled-made m

  pub fetched-made : (m : Machine) → made (fetched cell r n m) ≤ made m + 2
  unfolding fetched
  fetched-made m = fetched-if-made (holds r n m) m

  owner-made : (o : Option ℕ) (m : Machine) → made (owner_writes_back o n m) ≤ made m + 1
  owner-made None m = omega arith
  owner-made (Some k) m = omega (arith, transact-made WriteBack k n (write_back k) m)

  saved-made : (m : Machine) → made (saved_from r n m) ≤ made m + 1
  unfolding saved_from
  saved-made m = owner-made (owner_of (set (column m n).copies r none)) m

  module _ (o v : ℕ) where
    pub through-made : (m : Machine) → made (through cell r n o v m) ≤ made m + 2
    unfolding through
    through-made m = omega (arith, transact-made ThroughInvalidate r n (through_invalidate cell r o v) (saved_from r n m), saved-made m)

    sent-made : (t : Option Transaction) (m : Machine) → made (sent_by cell r n o v t m) ≤ made m + 2
    sent-made None m = omega arith
    sent-made (Some ReadShared) m = omega arith
    sent-made (Some ReadInvalidate) m = omega arith
    sent-made (Some Invalidate) m = omega (arith, transact-made Invalidate r n (invalidate r o v) m)
    sent-made (Some Update) m = omega (arith, transact-made Update r n (update cell r o v) m)
    sent-made (Some ThroughUpdate) m = omega (arith, transact-made ThroughUpdate r n (through_update cell r o v) m)
    sent-made (Some ThroughInvalidate) m = through-made m
    sent-made (Some WriteBack) m = omega arith

    at-made : (s : State) (m : Machine) → made (written_at cell r n o v s m) ≤ made m + 2
    at-made Invalid m = omega arith
    at-made Shared m = sent-made (digit_transaction (cell r 1)) m
    at-made Exclusive m = omega (arith, change-made n (silent r o v) m)
    at-made Owned m = sent-made (digit_transaction (cell r 2)) m
    at-made Modified m = omega (arith, change-made n (silent r o v) m)

    pub held-made : (m : Machine) → made (written_held cell r n o v m) ≤ made m + 2
    unfolding written_held
    held-made m = at-made (state_in r n m) m

    missed-made : (t : Option Transaction) (m : Machine) → made (missed_by cell r n o v t m) ≤ made m + 4
    missed-made None m = omega arith
    missed-made (Some ReadShared) m = omega (arith, held-made (filled cell r n m), filled-made m)
    missed-made (Some ReadInvalidate) m = omega (arith, transact-made ReadInvalidate r n (read_invalidate r o v) (emptied r n m), emptied-made r n m)
    missed-made (Some Invalidate) m = omega arith
    missed-made (Some Update) m = omega arith
    missed-made (Some ThroughUpdate) m = omega arith
    missed-made (Some ThroughInvalidate) m = omega (arith, through-made m)
    missed-made (Some WriteBack) m = omega arith

    if-made : (b : Bool) (m : Machine) → made (written_if cell r n o v b m) ≤ made m + 4
    if-made true m = omega (arith, held-made m)
    if-made false m = missed-made (digit_transaction (cell r 0)) m

    pub written-made : (m : Machine) → made (written cell r n o v m) ≤ made m + 4
    unfolding written
    written-made m = if-made (holds r n m) m
