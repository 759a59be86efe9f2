-- A whole text: its bus line, and the access lines behind it.
--
-- open_stop   what stops the opening: 13 for a text above 65,536 bytes, before anything else; the bus line's fault; its setup's stop
-- Opens      what a reader answers for the bus line of its text, and where it then stands
-- Opened     an opened text: its bus line was read, and the setup is what it says
-- Held       a fault leaves this as it was
-- Accesses   the access lines that are read, and the fault that ends them, if there is one
-- AccessLaws reading whole texts against their written form
-- NextRead   the next access line, its fault, or the end of the text
-- ReadsNext  what a reader answers for it, and where it then stands in the same text
use Rattle.std.specs.Prelude.{◌≡◌, ℕ, ◌<◌, cond, List, [], ◌∷◌, length, drop, Some, None, Ok, Err, Option, Result, nat_lt}
use Rattle.std.specs.List.{flat_map, AllByRecursion}
use Rattle.refusal.specs.Refusals.{plain}
use Rattle.trace.specs.declared.access.Access.{Access}
use Rattle.trace.specs.declared.bus_line.BusLine.{BusLine}
use Rattle.trace.specs.declared.fault.LineFault.{LineFault}
use Rattle.trace.specs.declared.fault.TraceFault.{TraceFault}
use Rattle.trace.specs.declared.fault.TraceFault.TheVariants.{Line}
use Rattle.trace.specs.declared.reader.Reader.{Reader}
use Rattle.trace.specs.declared.setup.Setup.{Setup}
use Rattle.trace.specs.Faults.{Stop, line_stop}
use Rattle.trace.specs.Reading.{Outcome}
use Rattle.trace.specs.Lines.{bus_at, access_at}
use Rattle.trace.specs.Setups.{Settled, setup_stop, Given}
use Rattle.trace.specs.Written.{written, Sound}

-- the bus line's fault, or what its setup stops at
abbrev pub bus_stop : List ℕ → Outcome BusLine → Option Stop
bus_stop t (Ok x) = setup_stop t x.0
bus_stop t (Err e) = Some (line_stop e)

-- what stops the opening of a text whose bus line begins at byte i
abbrev pub open_stop : List ℕ → ℕ → Option Stop
open_stop t i = cond (nat_lt 65536 (length t)) (Some (record { told = plain 13; byte = 0 })) (bus_stop t (bus_at t i))

-- an opened text: its bus line stands from byte i to before byte j
pub record Opened (t : List ℕ) (i j : ℕ) (setup : Setup) : Type 0 where
  pub line : BusLine
  pub reads : bus_at t i ≡ Ok (line, j)
  pub given : Given t line setup

-- a fault leaves this as it was
abbrev pub Held : {A : Type 0} → Result A TraceFault → Type 0 → Type 0
Held (Ok x) P = Unit {0}
Held (Err f) P = P

-- a reader that was `old` opens its text so, and is then `new`, over the same text: behind the bus line, or where it stood
pub record Opens (old : Reader) (result : Result Setup TraceFault) (new : Reader) : Type 0 where
  pub settled : Settled (open_stop old.text.now old.at) (Opened old.text.now old.at new.at) result
  pub held : Held result (new.at ≡ old.at)
  pub text : new.text.now ≡ old.text.now

-- the next access line, from byte i to before byte j, unless the text ends at byte i
abbrev pub NextRead : List ℕ → ℕ → Result (Option Access) TraceFault → ℕ → Type 0
NextRead t i (Ok None) j = (i ≡ length t) × (j ≡ i)
NextRead t i (Ok (Some a)) j = (i < length t) × (access_at t i ≡ Ok (a, j))
NextRead t i (Err f) j = (i < length t) × ((e : LineFault) × (f ≡ Line e) × (access_at t i ≡ Err e)) × (j ≡ i)

-- a reader that was `old` reads the next access line so, and is then `new`, over the same text
pub record ReadsNext (old : Reader) (result : Result (Option Access) TraceFault) (new : Reader) : Type 0 where
  pub reads : NextRead old.text.now old.at result new.at
  pub text : new.text.now ≡ old.text.now

-- the access lines from byte i on: those that are sound, up to the first fault or the text's end
pub data Accesses (t : List ℕ) : ℕ → List Access → Option LineFault → Type 0 where
  ended : {i : ℕ} → i ≡ length t → Accesses t i [] None
  faulty : {i : ℕ} {e : LineFault} → i < length t → access_at t i ≡ Err e → Accesses t i [] (Some e)
  more : {i j : ℕ} {a : Access} {xs : List Access} {o : Option LineFault} → i < length t → access_at t i ≡ Ok (a, j) → Accesses t j xs o → Accesses t i (a ∷ xs) o

-- the lines are written so, one behind the other, and no byte follows
abbrev pub WrittenFrom : List ℕ → ℕ → List Access → Type 0
WrittenFrom t i xs = AllByRecursion Sound xs × (drop i t ≡ flat_map written xs)

-- what is written is read back, what is read to the end is written so, and there is one reading
pub record AccessLaws (t : List ℕ) (i : ℕ) : Type 0 where
  pub back : (xs : List Access) → WrittenFrom t i xs → Accesses t i xs None
  pub stands : (xs : List Access) → Accesses t i xs None → WrittenFrom t i xs
  pub one : (xs ys : List Access) (o p : Option LineFault) → Accesses t i xs o → Accesses t i ys p → (xs ≡ ys) × (o ≡ p)

-- so many access lines, or the fault that ends them
abbrev pub Counted : List ℕ → ℕ → Result ℕ TraceFault → Type 0
Counted t i (Ok n) = (xs : List Access) × Accesses t i xs None × (length xs ≡ n)
Counted t i (Err f) = (xs : List Access) × (e : LineFault) × Accesses t i xs (Some e) × (f ≡ Line e)
