-- The report of a text, byte for byte; the contract of `report` cites it.
--
-- step_line     `ACCESS = ANSWER STATES TRANSACTIONS`; of a settle `s = LINES`
-- stop_line     `stop N LAYER line L byte K`
-- close_line    `close = LINES`
-- tally_line    `tally` and each number behind its name
-- memory_lines  `m LINE W0 W1 W2 W3` for each line that is not all zero, upward
-- printed      the whole report
use Rattle.std.specs.Prelude.{ℕ, suc, Bool, cond, List, [], ◌∷◌, ◌++◌, Some, None, codes, decimal, Option, Result, Ok, Err, ◌==◌}
use Rattle.std.specs.List.{flat_map, list_all}
use Rattle.protocol.specs.declared.state.State.{State}
use Rattle.protocol.specs.States.{letter}
use Rattle.protocol.specs.Transactions.{mnemonic}
use Rattle.rules.specs.declared.record.Record.{Record}
use Rattle.rules.specs.declared.tally.Tally.{Tally}
use Rattle.rules.specs.Systems.{Closing}
use Rattle.trace.specs.declared.access.Access.{Access}
use Rattle.trace.specs.declared.access.Access.TheVariants.{Read, Write, Flush, Settle}
use Rattle.trace.specs.Faults.{layer_of, layer_name}
use Rattle.trace.specs.Written.{access_text}
use Rattle.account.specs.Accounts.{Performed, Halt, Outcome, refused, ran}

-- one letter for each seat
abbrev pub letters : List State → List ℕ
letters states = flat_map (λ s. letter s ∷ []) states

-- a transaction and the seat that made it
abbrev pub record_text : Record → List ℕ
record_text e = codes " " ++ (mnemonic e.transaction ++ decimal e.seat)

-- each transaction, oldest first
abbrev pub record_texts : List Record → List ℕ
record_texts records = flat_map record_text records

-- the state of the line in each seat, and each transaction; a settle has no line of its own
abbrev pub detail_text : Access → List State → List Record → List ℕ
detail_text (Read seat address) states records = codes " " ++ (letters states ++ record_texts records)
detail_text (Write seat address value) states records = codes " " ++ (letters states ++ record_texts records)
detail_text (Flush seat address) states records = codes " " ++ (letters states ++ record_texts records)
detail_text Settle states records = []

-- an access performed
abbrev pub step_line : Performed → List ℕ
step_line p =
    access_text p.access ++ (codes " = " ++ (decimal p.answer ++ (detail_text p.access p.states p.records ++ codes "\n")))

-- each access performed, in order
abbrev pub step_lines : List Performed → List ℕ
step_lines steps = flat_map step_line steps

-- what stopped the text: the number, its layer, the line from 1, the byte from 0
abbrev pub stop_line : Halt → List ℕ
stop_line h =
    codes "stop " ++ (decimal h.told.number ++ (codes " " ++ (layer_name (layer_of h.told.number) ++ (codes " line " ++ (decimal h.line ++ (codes " byte " ++ (decimal h.byte ++ codes "\n")))))))

-- the text of either
abbrev pub either_text : {X E : Type 0} → (X → List ℕ) → (E → List ℕ) → Result X E → List ℕ
either_text f g (Ok x) = f x
either_text f g (Err e) = g e

-- what stopped the accesses, if anything did
abbrev pub stop_line_if : Option Halt → List ℕ
stop_line_if None = []
stop_line_if (Some h) = stop_line h

-- the lines that the closing settle wrote
abbrev pub close_line : ℕ → List ℕ
close_line lines = codes "close = " ++ (decimal lines ++ codes "\n")

-- answered reads and writes, hits among them
abbrev pub access_counts : Tally → List ℕ
access_counts t =
    codes "tally reads " ++ (decimal t.reads ++ (codes " writes " ++ (decimal t.writes ++ (codes " hits " ++ decimal t.hits))))

-- the transactions that fill, and those that a held line makes
abbrev pub fill_counts : Tally → List ℕ
fill_counts t = codes " rs " ++ (decimal t.rs ++ (codes " rx " ++ (decimal t.rx ++ (codes " in " ++ (decimal t.inv ++ (codes " up " ++ decimal t.up))))))

-- the transactions that write memory
abbrev pub through_counts : Tally → List ℕ
through_counts t = codes " tu " ++ (decimal t.tu ++ (codes " ti " ++ (decimal t.ti ++ (codes " wb " ++ decimal t.wb))))

-- the seven transactions
abbrev pub transaction_counts : Tally → List ℕ
transaction_counts t = fill_counts t ++ through_counts t

-- what became of lines and copies
abbrev pub copy_counts : Tally → List ℕ
copy_counts t =
    codes " reflected " ++ (decimal t.reflected ++ (codes " fills " ++ (decimal t.fills ++ (codes " displaced " ++ (decimal t.displaced ++ (codes " flushed " ++ (decimal t.flushed ++ (codes " invalidated " ++ (decimal t.invalidated ++ codes "\n")))))))))

-- the tally
abbrev pub tally_line : Tally → List ℕ
tally_line t = access_counts t ++ (transaction_counts t ++ copy_counts t)

-- every word is 0
abbrev pub all_zero : List ℕ → Bool
all_zero words = list_all (λ w. w == 0) words

-- each word behind a space
abbrev pub words_text : List ℕ → List ℕ
words_text words = flat_map (λ w. codes " " ++ decimal w) words

-- a line of memory and its words
abbrev pub memory_line : ℕ → List ℕ → List ℕ
memory_line n words = codes "m " ++ (decimal n ++ (words_text words ++ codes "\n"))

-- a line that is all zero is left out
abbrev pub memory_line_if : ℕ → List ℕ → List ℕ
memory_line_if n words = cond (all_zero words) [] (memory_line n words)

-- the lines from number n on, upward
abbrev pub memory_lines : ℕ → List (List ℕ) → List ℕ
memory_lines n [] = []
memory_lines n (words ∷ lines) = memory_line_if n words ++ memory_lines (suc n) lines

-- the lines from `close` on
abbrev pub closing_lines : Closing → List ℕ
closing_lines c = close_line c.lines ++ (tally_line c.tally ++ memory_lines 0 c.memory)

-- the report of a text: a stop before the first access is all there is
abbrev pub printed : Outcome → List ℕ
printed (refused h) = stop_line h
printed (ran steps stop closing) = step_lines steps ++ (stop_line_if stop ++ closing_lines closing)
