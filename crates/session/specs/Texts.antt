-- What a text gives; the contract of `play` cites it.
--
-- halt_at     a stop with the line that it lies in, counted from 1
-- word_cell   the cells of the protocol that a word chooses
-- cells_by    the protocol of each seat: that of P, or from seat B on that of Q
-- begun_by    the run that a bus line opens: every copy Invalid, memory all zero
-- Gives      the outcome of a text
-- OneOutcome every text gives just one outcome
-- Played     the accesses of a text, performed and closed by the code
-- Accounted  the outcome of a text, that it is the only one, and what it owes the ledger
use Rattle.std.specs.Prelude.{◌≡◌, ℕ, cond, List, [], ◌∷◌, map, length, replicate, Some, None, Ok, vec_items, Option, nat_lt, slice_index}
use Rattle.std.specs.Option.{option_map}
use Rattle.rules.specs.declared.call.Call.{Call}
use Rattle.rules.specs.Transactions.{Protocol}
use Rattle.rules.specs.Systems.{System, Closing, opened, closed}
use Rattle.rules.specs.Ledgers.{Ledger, begun, entered, ledger_after}
use Rattle.rules.specs.Coherence.{Sizes, addresses, Since, Equals}
use Rattle.run.specs.Views.{sizes}
use Rattle.run.specs.Closings.{Balanced}
use Rattle.trace.specs.declared.access.Access.{Access}
use Rattle.trace.specs.declared.access.Access.TheVariants.{Read, Write, Flush, Settle}
use Rattle.trace.specs.declared.bus_line.BusLine.{BusLine}
use Rattle.trace.specs.declared.bus_line.Second.{Second}
use Rattle.trace.specs.declared.choice.Choice.{Choice}
use Rattle.trace.specs.declared.setup.Division.{Division}
use Rattle.trace.specs.declared.setup.Setup.{Setup}
use Rattle.trace.specs.Choices.{word_cells, choice_cells}
use Rattle.trace.specs.Faults.{Stop, line_of}
use Rattle.trace.specs.Lines.{bus_at}
use Rattle.trace.specs.Setups.{word_in}
use Rattle.trace.specs.Texts.{open_stop}
use Rattle.account.specs.declared.account.Ran.{Ran}
use Rattle.account.specs.Accounts.{Performed, Halt, Outcome, refused, ran, performed, halted, closing_of}
use Rattle.session.specs.Plays.{call_of, Plays}

-- a stop with the line that its byte lies in
abbrev pub halt_at : List ℕ → Stop → Halt
halt_at t stop = record { told = stop.told; line = line_of t stop.byte; byte = stop.byte }

-- the cells of the protocol that a word chooses, the same for every seat
abbrev pub word_cell : List ℕ → Protocol
word_cell w seat k = slice_index (word_cells w) k

-- all seats follow P, or those from seat B on follow Q
abbrev pub cells_with : List ℕ → Protocol → Option Second → Protocol
cells_with t first None = first
cells_with t first (Some q) = λ seat k. cond (nat_lt seat q.below) (first seat k) (word_cell (word_in t q.word) seat k)

-- the protocol of a bus line
abbrev pub cells_by : List ℕ → BusLine → Protocol
cells_by t l = cells_with t (word_cell (word_in t l.first)) l.second

-- the memory of a text: all zero
abbrev pub zeros : ℕ → List (List ℕ)
zeros lines = replicate lines (replicate 4 0)

-- the run that a bus line opens
abbrev pub begun_by : List ℕ → BusLine → System
begun_by t l = opened (cells_by t l) l.seats.value l.sets.value (zeros l.lines.value)

-- the outcome of text t
pub data Gives (t : List ℕ) : Outcome → Type 0 where
  -- the text is too long, its bus line is not sound, or its setup is refused: no run is opened, and nothing follows
  stopped : (stop : Stop) → open_stop t 0 ≡ Some stop → Gives t (refused (halt_at t stop))
  -- a run is opened, the access lines are performed as far as they come, and the run is closed, after a stop too
  played :
      (line : BusLine) (i : ℕ) → open_stop t 0 ≡ None → bus_at t 0 ≡ Ok (line, i)
      → (ps : List Performed) (stop : Option Stop) (last : System) → Plays t i (begun_by t line) ps stop last
      → Gives t (ran ps (option_map (halt_at t) stop) (closed last))

-- every text gives one outcome, and only one
abbrev pub OneOutcome : Type 0
OneOutcome = (t : List ℕ) → (o : Outcome) × Gives t o × ((p : Outcome) → Gives t p → p ≡ o)

-- the protocol of a setup: the first choice's cells, or from the division's seat on the second's
abbrev pub divided : Choice → Option Division → Protocol
divided first None = λ seat k. slice_index (choice_cells first) k
divided first (Some d) = λ seat k. cond (nat_lt seat d.below) (slice_index (choice_cells first) k) (slice_index (choice_cells d.second) k)

abbrev pub setup_cells : Setup → Protocol
setup_cells s = divided s.first s.division

-- the accesses of a text from byte i on, performed on a run just opened, and closed
pub record Played (t : List ℕ) (i seats sets : ℕ) (cell : Protocol) (memory : List (List ℕ)) (r : Ran) : Type 0 where
  pub stop : Option Stop
  pub last : System
  pub plays : Plays t i (opened cell seats sets memory) (map performed (vec_items r.steps)) stop last
  pub halts : option_map halted r.stop ≡ option_map (halt_at t) stop
  pub closes : closing_of r.closed ≡ closed last
  -- the ledger of memory's words begins beside the run
  pub since : Since (sizes seats sets (length memory)) (opened cell seats sets memory) (begun 4 memory)

-- the calls of accesses performed
abbrev pub calls_of : List Performed → List Call
calls_of ps = map (λ p. call_of p.access) ps

-- what an answer owes the ledger: a read gives the word at its address, a write its value
abbrev pub Owes : Ledger → Access → ℕ → Type 0
Owes l (Read seat address) answer = answer ≡ l.word address
Owes l (Write seat address value) answer = answer ≡ value
Owes l (Flush seat address) answer = Unit {0}
Owes l Settle answer = Unit {0}

-- each answer in turn, beside the ledger
abbrev pub OwesEach : Sizes → Ledger → List Performed → Type 0
OwesEach z l [] = Unit {0}
OwesEach z l (p ∷ ps) = Owes l p.access p.answer × OwesEach z (entered z.seats (addresses z) (call_of p.access) l) ps

-- accesses performed and a closing, against the ledger of a memory that starts at zero
pub record Squares (z : Sizes) (ps : List Performed) (c : Closing) : Type 0 where
  -- every answered read gives the ledger's word, every write its value
  pub answers : OwesEach z (begun 4 (zeros z.lines)) ps
  -- memory at the end has the ledger's word at every address
  pub memory : Equals z c.memory (ledger_after z.seats (addresses z) (calls_of ps) (begun 4 (zeros z.lines)))
  -- every copy that was filled was displaced, flushed or invalidated
  pub balanced : Balanced c.tally

-- the sizes that a bus line gives
abbrev pub sizes_by : BusLine → Sizes
sizes_by l = sizes l.seats.value l.sets.value l.lines.value

-- what an outcome owes the ledger
abbrev pub Keeps : List ℕ → Outcome → Type 0
Keeps t (refused h) = Unit {0}
Keeps t (ran ps stop c) = (line : BusLine) (i : ℕ) → bus_at t 0 ≡ Ok (line, i) → Squares (sizes_by line) ps c

-- the account of a text
pub record Accounted (t : List ℕ) (o : Outcome) : Type 0 where
  -- it is what the text gives
  pub gives : Gives t o
  -- and nothing else is
  pub only : (p : Outcome) → Gives t p → p ≡ o
  -- and it keeps what it owes the ledger
  pub keeps : Keeps t o
