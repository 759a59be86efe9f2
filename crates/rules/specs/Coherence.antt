-- What a run owes its ledger, at opening and after each call, under every protocol that keeps the law.
--
-- Sizes      what was agreed: seats, sets, memory's lines, the words to a line
-- Since      the run stands so, and its ledger so, after an opening and any calls since, answered or refused
-- Promise    what then holds of the run and its ledger
-- Coherence  the promise holds of every run since its opening, and after every list of calls
use Rattle.std.specs.Prelude.{◌≡◌, ℕ, ◌+◌, ◌*◌, ◌<◌, true, false, ◌≢◌, List, [], length, None, slice_index_or}
use Rattle.protocol.specs.States.{valid, exclusive, owned}
use Rattle.protocol.specs.Cells.{Lawful}
use Rattle.rules.specs.declared.call.Call.{Call}
use Rattle.rules.specs.declared.call.Call.TheVariants.{Read, Settle}
use Rattle.rules.specs.Transactions.{Protocol}
use Rattle.rules.specs.Machines.{copies_held}
use Rattle.rules.specs.Systems.{System, state_on, opened, due, due_in, outcome, word_of, after, closed}
use Rattle.rules.specs.Ledgers.{Ledger, begun, entered, ledger_after}

-- what was agreed before the run was opened
pub record Sizes : Type 0 where
  pub seats : ℕ
  pub sets : ℕ
  pub lines : ℕ
  pub width : ℕ

-- the word addresses of memory
abbrev pub addresses : Sizes → ℕ
addresses z = z.lines * z.width

-- memory has the agreed lines, each of the agreed words
pub record Sized (z : Sizes) (memory : List (List ℕ)) : Type 0 where
  pub lines : length memory ≡ z.lines
  pub words : (n : ℕ) → n < z.lines → length (slice_index_or memory n []) ≡ z.width

-- the run and its ledger after an opening and the calls since
pub data Since (z : Sizes) : System → Ledger → Type 0 where
  opening :
      (cell : Protocol) → Lawful cell → 0 < z.sets → 0 < z.width → (memory : List (List ℕ)) → Sized z memory
      → Since z (opened cell z.seats z.sets memory) (begun z.width memory)
  calling :
      {s : System} {l : Ledger} → Since z s l → (call : Call)
      → Since z (outcome z.width call s).system (entered z.seats (addresses z) call l)

-- the lines have the ledger's word at every address
abbrev pub Equals : Sizes → List (List ℕ) → Ledger → Type 0
Equals z lines l = (a : ℕ) → a < addresses z → word_of z.width lines a ≡ l.word a

-- what holds of a run and its ledger
pub record Promise (z : Sizes) (s : System) (l : Ledger) : Type 0 where
  -- a line has one owner at most
  pub owner : (n i j : ℕ) → owned (state_on s n i) ≡ true → owned (state_on s n j) ≡ true → i ≡ j
  -- where a seat's copy is exclusive, no other seat holds the line
  pub alone : (n i j : ℕ) → exclusive (state_on s n i) ≡ true → j ≢ i → valid (state_on s n j) ≡ false
  -- a call is refused exactly when the ledger refuses it, and alike
  pub refuses : (call : Call) → due_in z.width s call ≡ due l.count z.seats (addresses z) call
  -- an answered read gives the ledger's word
  pub reads : (seat address places : ℕ) → due_in z.width s (Read seat address places) ≡ None
      → (outcome z.width (Read seat address places) s).answer ≡ l.word address
  -- after an answered settle memory has the ledger's words
  pub settles : due_in z.width s Settle ≡ None → Equals z (outcome z.width Settle s).system.memory l
  -- after closing too
  pub closes : Equals z (closed s).memory l
  -- every copy that was filled was displaced, flushed or invalidated, or is held
  pub accounts : s.tally.fills ≡ s.tally.displaced + s.tally.flushed + s.tally.invalidated + copies_held s.caches
  -- at closing none is held
  pub closing : (closed s).tally.fills ≡ (closed s).tally.displaced + (closed s).tally.flushed + (closed s).tally.invalidated
  -- the seats and the sets stay
  pub seats : length s.caches ≡ z.seats
  pub sets : (k : ℕ) → k < z.seats → length (slice_index_or s.caches k []) ≡ z.sets
  -- memory keeps its size, and closing leaves it so
  pub sized : Sized z s.memory
  pub sized_at_closing : Sized z (closed s).memory

-- the promise, under every lawful protocol, for all sizes, over every memory
pub record Coherence : Type 0 where
  -- at opening and after each call
  pub since : (z : Sizes) (s : System) (l : Ledger) → Since z s l → Promise z s l
  -- after every list of calls
  pub always :
      (cell : Protocol) → Lawful cell → (z : Sizes) → 0 < z.sets → 0 < z.width
      → (memory : List (List ℕ)) → Sized z memory → (calls : List Call)
      → Promise z (after z.width calls (opened cell z.seats z.sets memory))
      (ledger_after z.seats (addresses z) calls (begun z.width memory))
