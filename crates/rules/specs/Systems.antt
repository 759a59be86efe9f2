-- A run as the rules have it: opening, the calls with their refusals, and closing.
--
-- System    a protocol's cells, the caches, memory's lines, the tally, and how many calls were answered
-- Outcome   what a call gives: the system afterwards, the records made, the answer
-- Closing   what closing gives: memory's lines, the tally, and how many lines the closing settle wrote
-- width     the words to a line: word address a lies in line a / width, at word a % width
-- due       the refusal of a call, if one is due
-- weight    as how many calls a call counts
use Rattle.std.specs.Prelude.{ℕ, ◌+◌, ◌*◌, ◌/◌, ◌%◌, cond, List, [], ◌∷◌, length, replicate, Some, None, Option, nat_le, nat_lt, slice_index, slice_index_or}
use Rattle.refusal.specs.Refusals.{Told, plain}
use Rattle.protocol.specs.declared.state.State.{State}
use Rattle.rules.specs.declared.call.Call.{Call}
use Rattle.rules.specs.declared.call.Call.TheVariants.{Read, Write, Flush, Settle}
use Rattle.rules.specs.declared.record.Record.{Record}
use Rattle.rules.specs.declared.tally.Tally.{Tally}
use Rattle.rules.specs.Columns.{words_at, state_at}
use Rattle.rules.specs.Transactions.{Protocol}
use Rattle.rules.specs.Caches.{Cache, fresh}
use Rattle.rules.specs.Tallies.{blank, one_read, one_write}
use Rattle.rules.specs.Machines.{Machine, column, holds, copies_of}
use Rattle.rules.specs.Accesses.{counting, fetched, written, flushed, settled}

-- a run between calls
pub record System : Type 0 where
  pub cell : Protocol
  pub caches : List Cache
  pub memory : List (List ℕ)
  pub tally : Tally
  pub answered : ℕ

-- what a call gives
pub record Outcome : Type 0 where
  pub system : System
  pub records : List Record
  pub answer : ℕ

-- what closing gives
pub record Closing : Type 0 where
  pub memory : List (List ℕ)
  pub tally : Tally
  pub lines : ℕ

-- a run just opened: every copy Invalid, nothing counted, nothing answered
abbrev pub opened : Protocol → (seats sets : ℕ) → List (List ℕ) → System
opened cell seats sets memory = record
    { cell = cell; caches = replicate seats (fresh sets 1); memory = memory; tally = blank; answered = 0 }

-- the bus as a call finds it: no record made yet
abbrev pub at_work : System → Machine
at_work s = record { caches = s.caches; memory = s.memory; tally = s.tally; records = [] }

-- the state of a seat's copy of line n
abbrev pub state_on : System → (n seat : ℕ) → State
state_on s n seat = state_at (copies_of n s.caches) seat

-- the calls that a run answers before closing
abbrev pub limit : ℕ
limit = 1000000

-- the record places that an access may need
abbrev pub places_needed : ℕ
places_needed = 4

-- as how many calls a call counts
abbrev pub weight : Call → ℕ
weight (Read seat address places) = 1
weight (Write seat address value places) = 1
weight (Flush seat address places) = 1
weight Settle = 1

-- the refusal of an access, the first check whose condition is met: 5 calls, 6 seat, 7 address, 8 places
abbrev pub due_access : (answered counts seats addresses seat address places : ℕ) → Option Told
due_access answered counts seats addresses seat address places =
    cond (nat_lt limit (answered + counts)) (Some (plain 5))
    (cond (nat_le seats seat) (Some (plain 6))
    (cond (nat_le addresses address) (Some (plain 7))
    (cond (nat_lt places places_needed) (Some (plain 8)) None)))

-- the refusal of a call, where so many were answered, by the seats on the bus and the addresses of memory
abbrev pub due : (answered seats addresses : ℕ) → Call → Option Told
due answered seats addresses (Read seat address places) = due_access answered (weight (Read seat address places)) seats addresses seat address places
due answered seats addresses (Write seat address value places) = due_access answered (weight (Write seat address value places)) seats addresses seat address places
due answered seats addresses (Flush seat address places) = due_access answered (weight (Flush seat address places)) seats addresses seat address places
due answered seats addresses Settle = cond (nat_lt limit (answered + weight Settle)) (Some (plain 5)) None

-- the records that the caller is given: a settle gives none
abbrev pub reported : Call → List Record → List Record
reported (Read seat address places) es = es
reported (Write seat address value places) es = es
reported (Flush seat address places) es = es
reported Settle es = []

-- lines of width words
module _ (width : ℕ) where
  -- the word at an address of a list of lines
  abbrev pub word_of : List (List ℕ) → ℕ → ℕ
  word_of lines a = slice_index (slice_index_or lines (a / width) []) (a % width)

  -- the refusal that a system owes a call
  abbrev pub due_in : System → Call → Option Told
  due_in s call = due s.answered (length s.caches) (length s.memory * width) call

  -- the bus after a call that is answered
  abbrev pub reached : Call → System → Machine
  reached (Read seat address places) s =
      counting (one_read (holds seat (address / width) (at_work s))) (fetched s.cell seat (address / width) (at_work s))
  reached (Write seat address value places) s =
      counting (one_write (holds seat (address / width) (at_work s))) (written s.cell seat (address / width) (address % width) value (at_work s))
  reached (Flush seat address places) s = flushed seat (address / width) (at_work s)
  reached Settle s = settled (at_work s)

  -- the answer: a read's word in the seat's copy, a write's value, the lines written by a flush or a settle
  abbrev pub answer_of : Call → Machine → ℕ
  answer_of (Read seat address places) m = slice_index (words_at (column m (address / width)).copies seat) (address % width)
  answer_of (Write seat address value places) m = value
  answer_of (Flush seat address places) m = length m.records
  answer_of Settle m = length m.records

  -- the outcome of an answered call, by the bus after it
  abbrev pub ended : Call → System → Machine → Outcome
  ended call s m = record {
    system = record
        { cell = s.cell; caches = m.caches; memory = m.memory; tally = m.tally; answered = s.answered + weight call };
    records = reported call m.records;
    answer = answer_of call m;
  }

  -- a refused call changes and counts nothing
  abbrev pub outcome_if : Option Told → Call → System → Outcome
  outcome_if None call s = ended call s (reached call s)
  outcome_if (Some refusal) call s = record { system = s; records = []; answer = 0 }

  -- what a call gives
  unfoldable pub outcome : Call → System → Outcome
  outcome call s = outcome_if (due_in s call) call s

  -- the system after each of the calls in turn, answered or refused
  abbrev pub after : List Call → System → System
  after [] s = s
  after (call ∷ calls) s = after calls (outcome call s).system

-- closing settles; the drain below leaves these lines
unfoldable pub closed : System → Closing
closed s = record
    { memory = (settled (at_work s)).memory; tally = (settled (at_work s)).tally; lines = length (settled (at_work s)).records }
