-- What a bus line sets up, and what stops it.
--
-- Settled      a call answers a value of which this holds, unless a stop is due
-- sizes_stop    1 at the first byte of SEATS, 2 at that of SETS
-- lines_stop    12 at the first byte of LINES
-- word_stop     what is due for a protocol's word, at its first byte
-- setup_stop    the first of these that is due: the sizes, the lines, P, then Q
-- Given        a setup is what the bus line says
use Rattle.std.specs.Prelude.{◌≡◌, ℕ, ◌≤◌, cond, ◌&&◌, List, length, Some, None, Ok, Err, Option, Result, ◌==◌, nat_le}
use Rattle.std.specs.List.{between}
use Rattle.std.specs.Option.{ForSome}
use Rattle.refusal.specs.Refusals.{Told, plain}
use Rattle.caches.specs.Sizes.{agree_refusal}
use Rattle.trace.specs.declared.bus_line.BusLine.{BusLine}
use Rattle.trace.specs.declared.bus_line.Numeral.{Numeral}
use Rattle.trace.specs.declared.bus_line.Second.{Second}
use Rattle.trace.specs.declared.fault.TraceFault.{TraceFault}
use Rattle.trace.specs.declared.setup.Division.{Division}
use Rattle.trace.specs.declared.setup.Setup.{Setup}
use Rattle.trace.specs.declared.word.Word.{Word}
use Rattle.trace.specs.Choices.{word_refusal, Chosen}
use Rattle.trace.specs.Faults.{Stop, trace_stop}

-- a call answers a value of which P holds exactly when no stop is due, and else the one that is due
abbrev pub Settled : {A : Type 0} → Option Stop → (A → Type 0) → Result A TraceFault → Type 0
Settled due P (Ok x) = (due ≡ None) × P x
Settled due P (Err f) = due ≡ Some (trace_stop f)

-- a refusal at a byte
abbrev pub stop_at : ℕ → Option Told → Option Stop
stop_at byte None = None
stop_at byte (Some told) = Some (record { told = told; byte = byte })

-- the first that is due
abbrev pub or_else : Option Stop → Option Stop → Option Stop
or_else None b = b
or_else (Some a) b = Some a

-- 1 is told at SEATS, 2 at SETS
abbrev pub sizes_at : BusLine → Option Told → Option Stop
sizes_at l None = None
sizes_at l (Some told) = Some (record { told = told; byte = cond (told.number == 1) l.seats.byte l.sets.byte })

abbrev pub sizes_stop : BusLine → Option Stop
sizes_stop l = sizes_at l (agree_refusal l.seats.value l.sets.value)

-- 1 to 1,024 lines of memory
abbrev pub lines_stop : Numeral → Option Stop
lines_stop n = cond (nat_le 1 n.value && nat_le n.value 1024) None (Some (record { told = plain 12; byte = n.byte }))

-- the bytes of a word
abbrev pub word_in : List ℕ → Word → List ℕ
word_in t w = between w.start w.end t

-- a word lies in the text
abbrev pub Inside : List ℕ → Word → Type 0
Inside t w = (w.start ≤ w.end) × (w.end ≤ length t)

abbrev pub InsideSecond : List ℕ → Option Second → Type 0
InsideSecond t second = ForSome second (λ s. Inside t s.word)

-- a protocol's word
abbrev pub word_stop : List ℕ → Word → Option Stop
word_stop t w = stop_at w.start (word_refusal (word_in t w))

-- Q, where there is one
abbrev pub second_stop : List ℕ → Option Second → Option Stop
second_stop t None = None
second_stop t (Some s) = word_stop t s.word

-- the first stop that is due for a bus line
abbrev pub setup_stop : List ℕ → BusLine → Option Stop
setup_stop t l = or_else (sizes_stop l) (or_else (lines_stop l.lines) (or_else (word_stop t l.first) (second_stop t l.second)))

-- B and Q are what the line says
abbrev pub Divided : List ℕ → Option Second → Option Division → Type 0
Divided t None None = Unit {0}
Divided t None (Some d) = ⊥
Divided t (Some s) None = ⊥
Divided t (Some s) (Some d) = (d.below ≡ s.below) × Chosen (word_in t s.word) d.second

-- a setup is what the bus line says
pub record Given (t : List ℕ) (l : BusLine) (s : Setup) : Type 0 where
  pub seats : s.agreed.seats ≡ l.seats.value
  pub sets : s.agreed.sets ≡ l.sets.value
  pub lines : s.lines ≡ l.lines.value
  pub first : Chosen (word_in t l.first) s.first
  pub second : Divided t l.second s.division
