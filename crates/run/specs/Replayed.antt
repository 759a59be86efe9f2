-- What a replay gives: the whole promise over a run, from its opening through every call to its closing.
--
-- calls_of, replies_of   the calls and the replies of a list of steps
-- call_at      the call of a step
-- Replied     a step was made, and of its reply this holds
-- history     the run before the first call, and after each
-- ledger      the ledger beside it, which takes only what opening and the calls were handed
-- Replayed    the promise over the whole run
-- stood, ledger_then   the history and the ledger of a list of calls
-- Replays     the promise for a protocol and a memory as they were handed in
use Rattle.std.specs.Prelude.{◌≡◌, ℕ, ◌+◌, ◌*◌, ◌<◌, true, false, ◌≢◌, List, map, length, take, Some, None, Option, Result, slice_index_or}
use Rattle.refusal.specs.declared.Refusal.{Refusal}
use Rattle.refusal.specs.Refusals.{Answers, Answered}
use Rattle.protocol.specs.States.{valid, exclusive, owned}
use Rattle.rules.specs.declared.call.Call.{Call}
use Rattle.rules.specs.declared.call.Call.TheVariants.{Settle}
use Rattle.rules.specs.declared.tally.Tally.{Tally}
use Rattle.rules.specs.Transactions.{Protocol}
use Rattle.rules.specs.Machines.{copies_held}
use Rattle.rules.specs.Systems.{System, state_on, opened, due, due_in, outcome, after, closed}
use Rattle.rules.specs.Ledgers.{Ledger, begun, entered, ledger_after}
use Rattle.rules.specs.Coherence.{Sizes, addresses}
use Rattle.caches.specs.declared.agreed.Agreed.{Agreed}
use Rattle.bus.specs.declared.reply.Reply.{Reply}
use Rattle.run.specs.declared.step.Step.{Step}
use Rattle.run.specs.declared.closed.Closed.{Closed}
use Rattle.run.specs.Views.{sizes}
use Rattle.run.specs.Histories.{Owed}
use Rattle.run.specs.Calls.{reply_of}
use Rattle.run.specs.Closings.{Squared}

-- the calls of a list of steps
abbrev pub calls_of : List Step → List Call
calls_of steps = map (λ s. s.call) steps

-- the call of step k
abbrev pub call_at : List Step → ℕ → Call
call_at steps k = slice_index_or (calls_of steps) k Settle

-- the replies of a list of steps
abbrev pub replies_of : List Step → List (Option (Result Reply Refusal))
replies_of steps = map (λ s. s.reply) steps

-- a call was made, and of its reply P holds
abbrev pub Replied : (Result Reply Refusal → Type 0) → Option (Result Reply Refusal) → Type 0
Replied P None = ⊥
Replied P (Some r) = P r

-- a whole run: of the steps handed in and the steps left, and what closing gave
pub record Replayed (z : Sizes) (cell : Protocol) (memory : List (List ℕ)) (history : ℕ → System) (ledger : ℕ → Ledger) (given left : List Step) (lines settled : List (List ℕ)) (tally : Tally) (written : ℕ) : Type 0 where
  -- the calls stay as they were handed in
  pub calls : calls_of left ≡ calls_of given
  -- the run is opened, and each call, answered or refused, takes it on as the rules say
  pub opens : history 0 ≡ opened cell z.seats z.sets memory
  pub follows : (k : ℕ) → k < length given → history (k + 1) ≡ (outcome 4 (call_at given k) (history k)).system
  -- the ledger begins with memory's words and enters each call
  pub begins : ledger 0 ≡ begun 4 memory
  pub enters : (k : ℕ) → k < length given → ledger (k + 1) ≡ entered z.seats (addresses z) (call_at given k) (ledger k)
  -- each reply is the one that the rules give
  pub replies : (k : ℕ) → k < length given
      → Replied (Answers (due_in 4 (history k) (call_at given k)) (reply_of (outcome 4 (call_at given k) (history k)))) (slice_index_or (replies_of left) k None)
  -- and the ledger's: refused exactly when the ledger refuses, with its number; a read gives the ledger's word;
  -- after a settle memory has the ledger's word at every address
  pub owes : (k : ℕ) → k < length given
      → Replied (Answered (due (ledger k).count z.seats (addresses z) (call_at given k)) (λ a. Owed z (call_at given k) (ledger k) (history (k + 1)).memory a.value)) (slice_index_or (replies_of left) k None)
  -- at opening and after each call a line has one owner at most
  pub owner : (k n i j : ℕ) → owned (state_on (history k) n i) ≡ true → owned (state_on (history k) n j) ≡ true → i ≡ j
  -- an exclusive copy is the only one held
  pub alone : (k n i j : ℕ) → exclusive (state_on (history k) n i) ≡ true → j ≢ i → valid (state_on (history k) n j) ≡ false
  -- every copy that was filled was displaced, flushed or invalidated, or is held
  pub accounts : (k : ℕ) → (history k).tally.fills ≡ (history k).tally.displaced + (history k).tally.flushed + (history k).tally.invalidated + copies_held (history k).caches
  -- closing gives what the rules' closing of the last run gives, and memory has settled it
  pub reads : lines ≡ (closed (history (length given))).memory
  pub bottom : settled ≡ (closed (history (length given))).memory
  pub counted : tally ≡ (closed (history (length given))).tally
  pub wrote : written ≡ (closed (history (length given))).lines
  -- both lists of memory have the ledger's word at every address, and the tally balances
  pub squares : Squared z lines settled tally (ledger (length given))

-- the run after the first k calls
abbrev pub stood : Protocol → (seats sets : ℕ) → List (List ℕ) → List Call → ℕ → System
stood cell seats sets memory calls k = after 4 (take k calls) (opened cell seats sets memory)

-- the ledger after the first k calls
abbrev pub ledger_then : (seats : ℕ) → List (List ℕ) → List Call → ℕ → Ledger
ledger_then seats memory calls k = ledger_after seats (length memory * 4) (take k calls) (begun 4 memory)

-- a replay over a memory, under a protocol
pub record Replays {P M A : Type 0} (cells : P → ℕ → ℕ → ℕ) (lines settled : M → List (List ℕ)) (aside : M → A) (agreed : Agreed) (protocol : P) (memory : M) (given left : List Step) (c : Closed M) : Type 0 where
  pub promise :
      Replayed (sizes agreed.seats agreed.sets (length (lines memory))) (cells protocol) (lines memory)
      (stood (cells protocol) agreed.seats agreed.sets (lines memory) (calls_of given))
      (ledger_then agreed.seats (lines memory) (calls_of given))
      given left (lines c.memory) (settled c.memory) c.tally c.written
  -- what memory keeps aside is as it was
  pub apart : aside c.memory ≡ aside memory
