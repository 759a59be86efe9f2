-- The refusal table, and what a promise says of a call that may be refused.
--
-- told      each case of `Refusal`: its number and the values it carries
-- sentence  each case in words
-- Answers   a call answers this value, unless this refusal is due
-- Answered  a call answers a value of which this holds, unless this refusal is due
-- Kept      a refused call leaves this as it was
use Rattle.std.specs.Prelude.{◌≡◌, ℕ, List, [], ◌∷◌, ◌++◌, Some, None, Ok, Err, codes, Option, Result}
use Rattle.std.specs.Fmt.{decimal}
use Rattle.refusal.specs.declared.Refusal.{Refusal}
use Rattle.refusal.specs.declared.Refusal.TheVariants.{Seats, Sets, TableLength, CellOutside, CallLimit, NoSeat, BeyondMemory, RecordPlaces, LineForm, NumberTooLarge, ProtocolName, TextMemory, TextLength}

-- a refusal as its reader knows it: the number in the table, and the values told with it
pub record Told : Type 0 where
  pub number : ℕ
  pub values : List ℕ

-- a refusal that tells no value
abbrev pub plain : ℕ → Told
plain n = record { number = n; values = [] }

-- the table: each case's number and values
abbrev pub told : Refusal → Told
told Seats = plain 1
told Sets = plain 2
told TableLength = plain 3
told (CellOutside cell) = record { number = 4; values = cell ∷ [] }
told CallLimit = plain 5
told NoSeat = plain 6
told BeyondMemory = plain 7
told RecordPlaces = plain 8
told LineForm = plain 9
told NumberTooLarge = plain 10
told ProtocolName = plain 11
told TextMemory = plain 12
told TextLength = plain 13

-- the number alone
abbrev pub number : Refusal → ℕ
number e = (told e).number

-- the first of the values, where there is one
abbrev pub first : List ℕ → Option ℕ
first [] = None
first (x ∷ xs) = Some x

-- the cell that a refusal tells: only the fourth tells a value, and it is the cell
abbrev pub cell_of : Refusal → Option ℕ
cell_of e = first (told e).values

-- what a refusal says, in a short sentence
abbrev pub sentence : Refusal → List ℕ
sentence Seats = codes "the seats are not one to eight"
sentence Sets = codes "the sets are not 1, 2, 4, 8, 16, 32 or 64"
sentence TableLength = codes "a table has sixteen bytes"
sentence (CellOutside cell) = codes "cell " ++ decimal cell ++ codes " of the table lies outside its set"
sentence CallLimit = codes "the run has answered as many calls as it may"
sentence NoSeat = codes "the seat is not on the bus"
sentence BeyondMemory = codes "the address, line or word lies beyond memory"
sentence RecordPlaces = codes "an access may need more places for bus records"
sentence LineForm = codes "the line has the wrong form"
sentence NumberTooLarge = codes "the number does not fit 32 bits"
sentence ProtocolName = codes "no protocol has this name"
sentence TextMemory = codes "the memory of a text is not 1 to 1,024 lines"
sentence TextLength = codes "the text is longer than 65,536 bytes"

-- a call answers the value a exactly when no refusal is due, and else the one that is due
abbrev pub Answers : {A : Type 0} → Option Told → A → Result A Refusal → Type 0
Answers due a (Ok b) = (due ≡ None) × (b ≡ a)
Answers due a (Err e) = due ≡ Some (told e)

-- a call answers a value of which P holds exactly when no refusal is due, and else the one that is due
abbrev pub Answered : {A : Type 0} → Option Told → (A → Type 0) → Result A Refusal → Type 0
Answered due P (Ok b) = (due ≡ None) × P b
Answered due P (Err e) = due ≡ Some (told e)

-- a refused call leaves this as it was
abbrev pub Kept : {A : Type 0} → Result A Refusal → Type 0 → Type 0
Kept (Ok _) P = Unit {0}
Kept (Err _) P = P
