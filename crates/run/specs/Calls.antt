-- What a call on a run does: one record for reads, writes, flushes and settles.
--
-- cells, lines, aside   the meaning of the protocol and of the memory: its cells, what reads answer, what no call changes
-- reply_of   the answer of an outcome, and how many records it gives
-- lent       a call with the record places that it is lent, of so many
-- Called    the call did what the rules say: its reply, the run, the record places handed in
--
-- What a memory settles between drains is left free: by the memory's law it has as many lines as reads answer.
use Rattle.std.specs.Prelude.{◌≡◌, ℕ, ◌*◌, min, List, ◌++◌, length, drop, Option, Result}
use Rattle.refusal.specs.declared.Refusal.{Refusal}
use Rattle.refusal.specs.Refusals.{Told, Answers, Kept}
use Rattle.rules.specs.declared.call.Call.{Call}
use Rattle.rules.specs.declared.call.Call.TheVariants.{Read, Write, Flush, Settle}
use Rattle.rules.specs.declared.record.Record.{Record}
use Rattle.rules.specs.Systems.{System, Outcome, due_access, due_in, outcome}
use Rattle.bus.specs.declared.reply.Reply.{Reply}
use Rattle.run.specs.declared.run.Run.{Run}
use Rattle.run.specs.Views.{system_of}
use Rattle.run.specs.Histories.{Keeps}

-- the answer of an outcome, and how many records it gives
abbrev pub reply_of : Outcome → Reply
reply_of o = record { value = o.answer; records = length o.records }

-- the refusal that is due for a read, a write or a flush: the first of checks 5, 6, 7, 8 whose condition is met
abbrev pub access_due : System → (seat address places : ℕ) → Option Told
access_due s seat address places = due_access s.answered 1 (length s.caches) (length s.memory * 4) seat address places

-- a call that is lent as many places as it brings, if there are so many
abbrev pub lent : ℕ → Call → Call
lent room (Read seat address places) = Read seat address (min places room)
lent room (Write seat address value places) = Write seat address value (min places room)
lent room (Flush seat address places) = Flush seat address (min places room)
lent room Settle = Settle

-- a call on a run, by the run and the record places before and after it, and its reply
pub record Called {P M A : Type 0} (cells : P → ℕ → ℕ → ℕ) (lines : M → List (List ℕ)) (aside : M → A) (call : Call) (before after : Run P M) (given left : List Record) (r : Result Reply Refusal) : Type 0 where
  -- the first check whose condition is met refuses; else the rules' answer is given
  pub replies : Answers (due_in 4 (system_of cells lines before) call) (reply_of (outcome 4 call (system_of cells lines before))) r
  -- the run afterwards is the rules'
  pub system : system_of cells lines after ≡ (outcome 4 call (system_of cells lines before)).system
  -- the records made fill the first places, and the others are as they were
  pub records : left ≡ (outcome 4 call (system_of cells lines before)).records ++ drop (length (outcome 4 call (system_of cells lines before)).records) given
  -- the protocol, and what memory keeps aside, are as they were
  pub protocol : after.bus.protocol ≡ before.bus.protocol
  pub apart : aside after.bus.memory ≡ aside before.bus.memory
  -- a refused call changes nothing
  pub refused : Kept r ((after ≡ before) × (left ≡ given))
  -- whatever calls came before: the reply is the ledger's, and the promise holds after it
  pub keeps : Keeps call (system_of cells lines before) (system_of cells lines after) r
