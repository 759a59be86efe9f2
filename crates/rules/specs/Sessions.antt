-- Nine sessions worked out by hand from the rules, as facts of the definitions.
--
-- table     a protocol that answers every seat from one text of sixteen cells
-- split     seats below a number follow the first protocol, the others the second
-- Seen      what is seen of a call: its answer, the line's state in each seat, each transaction with its seat
-- Sessions  the nine sessions; lines of four words, memory at first all zero
use Rattle.std.specs.Prelude.{◌≡◌, ℕ, ◌+◌, true, false, cond, List, [], ◌∷◌, ◌++◌, map, replicate, Some, None, codes, nat_lt, slice_index}
use Rattle.refusal.specs.Refusals.{plain}
use Rattle.protocol.specs.declared.transaction.Transaction.TheVariants.{ReadShared, ReadInvalidate, Update, ThroughInvalidate, WriteBack}
use Rattle.protocol.specs.declared.published.Published.{Published}
use Rattle.protocol.specs.declared.published.Published.TheVariants.{WriteThrough, WriteOnce, Illinois, Berkeley, Dragon, Firefly}
use Rattle.protocol.specs.Published.{published_cells}
use Rattle.protocol.specs.States.{letter}
use Rattle.protocol.specs.Transactions.{mnemonic}
use Rattle.rules.specs.declared.call.Call.{Call}
use Rattle.rules.specs.declared.call.Call.TheVariants.{Read, Write, Flush, Settle}
use Rattle.rules.specs.declared.record.Record.{Record}
use Rattle.rules.specs.declared.record.Supplier.TheVariants.{Nobody, Seat}
use Rattle.rules.specs.Transactions.{Protocol}
use Rattle.rules.specs.Machines.{copies_of}
use Rattle.rules.specs.Systems.{System, Outcome, opened, outcome, after, closed, due, due_in}

-- every seat answers from one table
abbrev pub table : List ℕ → Protocol
table cells seat k = slice_index cells k

-- seats below b follow p, the others q
abbrev pub split : Protocol → ℕ → Protocol → Protocol
split p b q seat k = cond (nat_lt seat b) (p seat k) (q seat k)

-- what is seen of a call
pub record Seen : Type 0 where
  pub answer : ℕ
  pub states : List ℕ
  pub bus : List (List ℕ)

-- a transaction's letters and its seat's digit
abbrev pub shown : Record → List ℕ
shown e = mnemonic e.transaction ++ ((48 + e.seat) ∷ [])

-- the letters of line n's states, seat 0 first
abbrev pub letters_of : ℕ → System → List ℕ
letters_of n s = map (λ x. letter x.state) (copies_of n s.caches)

-- what is seen of a call's outcome, at line n
abbrev pub seen_at : ℕ → Outcome → Seen
seen_at n u = record { answer = u.answer; states = letters_of n u.system; bus = map shown u.records }

-- what the last of these calls shows at line n, after the calls before it
abbrev pub seen : ℕ → List Call → Call → System → Seen
seen n calls call s = seen_at n (outcome 4 call (after 4 calls s))

-- a read, a write: four record places
abbrev pub r : ℕ → ℕ → Call
r seat address = Read seat address 4

abbrev pub w : ℕ → ℕ → ℕ → Call
w seat address value = Write seat address value 4

-- a line of zeros
abbrev pub zeros : List ℕ
zeros = 0 ∷ 0 ∷ 0 ∷ 0 ∷ []

-- two seats of one set over two lines of zeros
abbrev pub small : Protocol → System
small cell = opened cell 2 1 (zeros ∷ zeros ∷ [])

-- every seat follows a published protocol
abbrev pub follow : Published → Protocol
follow p = table (published_cells p)

-- two seats of two sets over four lines of zeros, under illinois
abbrev pub board : System
board = opened (follow Illinois) 2 2 (replicate 4 zeros)

-- its calls
abbrev pub board_calls : List Call
board_calls = r 0 0 ∷ r 1 0 ∷ w 1 1 7 ∷ r 0 1 ∷ w 0 8 5 ∷ Settle ∷ []

-- each answer, state and transaction; a settle that writes one line; the tally and memory at closing
pub record IllinoisSession : Type 0 where
  pub first : seen 0 [] (r 0 0) board ≡ record { answer = 0; states = codes "EI"; bus = codes "RS0" ∷ [] }
  pub second : seen 0 (r 0 0 ∷ []) (r 1 0) board ≡ record { answer = 0; states = codes "SS"; bus = codes "RS1" ∷ [] }
  pub third : seen 0 (r 0 0 ∷ r 1 0 ∷ []) (w 1 1 7) board ≡ record { answer = 7; states = codes "IM"; bus = codes "IN1" ∷ [] }
  pub behind : (after 4 (r 0 0 ∷ r 1 0 ∷ w 1 1 7 ∷ []) board).memory ≡ replicate 4 zeros
  pub fourth : seen 0 (r 0 0 ∷ r 1 0 ∷ w 1 1 7 ∷ []) (r 0 1) board ≡ record { answer = 7; states = codes "SS"; bus = codes "RS0" ∷ [] }
  pub fifth : seen 2 (r 0 0 ∷ r 1 0 ∷ w 1 1 7 ∷ r 0 1 ∷ []) (w 0 8 5) board ≡ record { answer = 5; states = codes "MI"; bus = codes "RX0" ∷ [] }
  pub supplied :
      (outcome 4 (r 0 1) (after 4 (r 0 0 ∷ r 1 0 ∷ w 1 1 7 ∷ []) board)).records
      ≡ record { transaction = ReadShared; seat = 0; line = 0; shared = true; reflected = true; supplier = Seat 1 } ∷ []
  pub settle : (outcome 4 Settle (after 4 (r 0 0 ∷ r 1 0 ∷ w 1 1 7 ∷ r 0 1 ∷ w 0 8 5 ∷ []) board)).answer ≡ 1
  pub close : closed (after 4 board_calls board) ≡ record {
    memory = (0 ∷ 7 ∷ 0 ∷ 0 ∷ []) ∷ zeros ∷ (5 ∷ 0 ∷ 0 ∷ 0 ∷ []) ∷ zeros ∷ [];
    tally = record {
      reads = 3;
      writes = 2;
      hits = 1;
      rs = 3;
      rx = 1;
      inv = 1;
      up = 0;
      tu = 0;
      ti = 0;
      wb = 1;
      reflected = 1;
      fills = 4;
      displaced = 1;
      flushed = 2;
      invalidated = 1;
    };
    lines = 0;
  }

-- a write through ends exclusive; the next write uses no bus and leaves memory behind
pub record WriteonceSession : Type 0 where
  pub through : seen 0 (r 0 0 ∷ []) (w 0 0 1) (small (follow WriteOnce)) ≡ record { answer = 1; states = codes "EI"; bus = codes "TI0" ∷ [] }
  pub written : (after 4 (r 0 0 ∷ w 0 0 1 ∷ []) (small (follow WriteOnce))).memory ≡ (1 ∷ 0 ∷ 0 ∷ 0 ∷ []) ∷ zeros ∷ []
  pub silent : seen 0 (r 0 0 ∷ w 0 0 1 ∷ []) (w 0 0 2) (small (follow WriteOnce)) ≡ record { answer = 2; states = codes "MI"; bus = [] }
  pub behind : (after 4 (r 0 0 ∷ w 0 0 1 ∷ w 0 0 2 ∷ []) (small (follow WriteOnce))).memory ≡ (1 ∷ 0 ∷ 0 ∷ 0 ∷ []) ∷ zeros ∷ []

-- an owner supplies and stays the owner, or gives the line up to a writer; memory is not written
pub record BerkeleySession : Type 0 where
  pub supplied : seen 0 (w 0 0 3 ∷ []) (r 1 0) (small (follow Berkeley)) ≡ record { answer = 3; states = codes "OS"; bus = codes "RS1" ∷ [] }
  pub behind : (after 4 (w 0 0 3 ∷ r 1 0 ∷ []) (small (follow Berkeley))).memory ≡ zeros ∷ zeros ∷ []
  pub taken : seen 0 (w 0 0 3 ∷ []) (w 1 1 4) (small (follow Berkeley)) ≡ record { answer = 4; states = codes "IM"; bus = codes "RX1" ∷ [] }
  pub told :
      (outcome 4 (w 1 1 4) (after 4 (w 0 0 3 ∷ []) (small (follow Berkeley)))).records
      ≡ record { transaction = ReadInvalidate; seat = 1; line = 0; shared = false; reflected = false; supplier = Seat 0 } ∷ []
  pub taken_behind : (after 4 (w 0 0 3 ∷ w 1 1 4 ∷ []) (small (follow Berkeley))).memory ≡ zeros ∷ zeros ∷ []

-- an update reaches the other copy and not memory
pub record DragonSession : Type 0 where
  pub updated : seen 0 (r 0 0 ∷ r 1 0 ∷ []) (w 1 0 4) (small (follow Dragon)) ≡ record { answer = 4; states = codes "SO"; bus = codes "UP1" ∷ [] }
  pub told :
      (outcome 4 (w 1 0 4) (after 4 (r 0 0 ∷ r 1 0 ∷ []) (small (follow Dragon)))).records
      ≡ record { transaction = Update; seat = 1; line = 0; shared = true; reflected = false; supplier = Nobody } ∷ []
  pub behind : (after 4 (r 0 0 ∷ r 1 0 ∷ w 1 0 4 ∷ []) (small (follow Dragon))).memory ≡ zeros ∷ zeros ∷ []

-- the same accesses: the update goes through to memory
pub record FireflySession : Type 0 where
  pub updated : seen 0 (r 0 0 ∷ r 1 0 ∷ []) (w 1 0 4) (small (follow Firefly)) ≡ record { answer = 4; states = codes "SS"; bus = codes "TU1" ∷ [] }
  pub through : (after 4 (r 0 0 ∷ r 1 0 ∷ w 1 0 4 ∷ []) (small (follow Firefly))).memory ≡ (4 ∷ 0 ∷ 0 ∷ 0 ∷ []) ∷ zeros ∷ []

-- a write at Invalid goes through and leaves no copy, and the other line in its slot stays
pub record WritethroughSession : Type 0 where
  pub through : seen 0 [] (w 0 0 9) (small (follow WriteThrough)) ≡ record { answer = 9; states = codes "II"; bus = codes "TI0" ∷ [] }
  pub memory : (after 4 (w 0 0 9 ∷ []) (small (follow WriteThrough))).memory ≡ (9 ∷ 0 ∷ 0 ∷ 0 ∷ []) ∷ zeros ∷ []
  pub stays : letters_of 1 (after 4 (r 0 4 ∷ w 0 0 9 ∷ []) (small (follow WriteThrough))) ≡ codes "SI"

-- an owner in another seat writes back before the write through
pub record MixedSession : Type 0 where
  pub saved : seen 0 (w 0 0 1 ∷ []) (w 1 1 2) (small (split (follow Berkeley) 1 (follow WriteThrough))) ≡ record { answer = 2; states = codes "II"; bus = codes "WB0" ∷ codes "TI1" ∷ [] }
  pub memory : (after 4 (w 0 0 1 ∷ w 1 1 2 ∷ []) (small (split (follow Berkeley) 1 (follow WriteThrough)))).memory ≡ (1 ∷ 2 ∷ 0 ∷ 0 ∷ []) ∷ zeros ∷ []

-- the longest access: four transactions
pub record FourSession : Type 0 where
  pub four :
      seen 0 (w 0 4 1 ∷ w 0 4 2 ∷ w 1 0 3 ∷ []) (w 0 0 5) (small (split (table (codes "166SMEMEMSSSSIII")) 1 (follow Berkeley)))
      ≡ record { answer = 5; states = codes "EI"; bus = codes "WB0" ∷ codes "RS0" ∷ codes "WB1" ∷ codes "TI0" ∷ [] }
  pub told :
      (outcome 4 (w 0 0 5) (after 4 (w 0 4 1 ∷ w 0 4 2 ∷ w 1 0 3 ∷ []) (small (split (table (codes "166SMEMEMSSSSIII")) 1 (follow Berkeley))))).records
      ≡ record { transaction = WriteBack; seat = 0; line = 1; shared = false; reflected = false; supplier = Nobody }
      ∷ record { transaction = ReadShared; seat = 0; line = 0; shared = true; reflected = false; supplier = Seat 1 }
      ∷ record { transaction = WriteBack; seat = 1; line = 0; shared = true; reflected = false; supplier = Nobody }
      ∷ record { transaction = ThroughInvalidate; seat = 0; line = 0; shared = false; reflected = false; supplier = Nobody }
      ∷ []

-- two lines of four words have addresses 0 to 7
pub record AddressSession : Type 0 where
  pub last : (cell : Protocol) → due_in 4 (small cell) (r 0 7) ≡ None
  pub beyond : (cell : Protocol) → due_in 4 (small cell) (r 0 8) ≡ Some (plain 7)

-- the first check whose condition is met, on a bus of two seats over eight addresses
pub record RefusalOrder : Type 0 where
  pub calls : due 1000000 2 8 (Read 2 8 3) ≡ Some (plain 5)
  pub seat : due 999999 2 8 (Read 2 8 3) ≡ Some (plain 6)
  pub address : due 999999 2 8 (Write 1 8 0 3) ≡ Some (plain 7)
  pub places : due 999999 2 8 (Flush 1 7 3) ≡ Some (plain 8)
  pub answered : due 999999 2 8 (Flush 1 7 4) ≡ None
  pub settle : due 999999 2 8 Settle ≡ None
  pub settle_over : due 1000000 2 8 Settle ≡ Some (plain 5)

-- the nine sessions, and the order of the checks
pub record Sessions : Type 0 where
  pub illinois : IllinoisSession
  pub writeonce : WriteonceSession
  pub berkeley : BerkeleySession
  pub dragon : DragonSession
  pub firefly : FireflySession
  pub writethrough : WritethroughSession
  pub mixed : MixedSession
  pub four : FourSession
  pub addresses : AddressSession
  pub refusals : RefusalOrder
