-- The written form of a line, and what it means that reading keeps faith with it.
--
-- access_text, written  an access as its line has it, without the line's end and with it; Sound that its numbers fit 32 bits
-- BusText    what a bus line says, with written_bus and SoundBus
-- bus_line_of  the bus line that is read at a place: its numbers and words, and where each begins
-- Stands     these bytes stand in the text from a place on
-- Front      some sound line agrees with the text from the line's first byte to before byte k
-- Overflow   a number that does not fit begins at byte k, behind such a front
-- Faithful   what is written is read back; what is read stands there as it is written; a line of wrong form is told
--            at the end of its longest front, and a number that does not fit at its first byte
use Rattle.std.specs.Prelude.{◌≡◌, ℕ, ◌+◌, ◌-◌, ◌^◌, ◌<◌, ◌≤◌, true, List, [], ◌∷◌, ◌++◌, length, take, drop, Some, None, Ok, Err, codes, decimal, Option, Result}
use Rattle.std.specs.List.{list_all}
use Rattle.trace.specs.declared.access.Access.{Access}
use Rattle.trace.specs.declared.access.Access.TheVariants.{Read, Write, Flush, Settle}
use Rattle.trace.specs.declared.bus_line.BusLine.{BusLine}
use Rattle.trace.specs.declared.bus_line.Second.{Second}
use Rattle.trace.specs.declared.fault.LineFault.{LineFault}
use Rattle.trace.specs.declared.fault.LineFault.TheVariants.{Form, Number}
use Rattle.trace.specs.declared.fault.NumberFault.{NumberFault}
use Rattle.trace.specs.declared.word.Word.{Word}
use Rattle.trace.specs.Choices.{is_digit}
use Rattle.trace.specs.Reading.{value_on}
use Rattle.trace.specs.Runs.{in_word, run_at}

-- the end of a line
abbrev pub line_end : List ℕ
line_end = 10 ∷ []

-- an access as its line has it, without the line's end
abbrev pub access_text : Access → List ℕ
access_text (Read seat address) = codes "r " ++ (decimal seat ++ (codes " " ++ decimal address))
access_text (Write seat address value) = codes "w " ++ (decimal seat ++ (codes " " ++ (decimal address ++ (codes " " ++ decimal value))))
access_text (Flush seat address) = codes "f " ++ (decimal seat ++ (codes " " ++ decimal address))
access_text Settle = codes "s"

-- an access line as it is written
abbrev pub written : Access → List ℕ
written access = access_text access ++ line_end

-- a number of 32 bits
abbrev pub Fits32 : ℕ → Type 0
Fits32 n = n < 2 ^ 32

-- the numbers of an access fit
abbrev pub Sound : Access → Type 0
Sound (Read seat address) = Fits32 seat × Fits32 address
Sound (Write seat address value) = Fits32 seat × Fits32 address × Fits32 value
Sound (Flush seat address) = Fits32 seat × Fits32 address
Sound Settle = Unit {0}

-- a word has at least one byte, and no space or byte 10
abbrev pub IsWord : List ℕ → Type 0
IsWord w = (0 < length w) × (list_all in_word w ≡ true)

-- where a word stands
abbrev pub span_of : List ℕ → ℕ → Word
span_of w i = record { start = i; end = i + length w }

-- B and Q
pub record SecondText : Type 0 where
  pub below : ℕ
  pub word : List ℕ

-- what a bus line says
pub record BusText : Type 0 where
  pub seats : ℕ
  pub sets : ℕ
  pub lines : ℕ
  pub first : List ℕ
  pub second : Option SecondText

-- what is written behind P
abbrev pub written_tail : Option SecondText → List ℕ
written_tail None = line_end
written_tail (Some x) = codes " " ++ (decimal x.below ++ (codes " " ++ (x.word ++ line_end)))

-- a bus line as it is written
abbrev pub written_bus : BusText → List ℕ
written_bus x =
    codes "bus " ++ (decimal x.seats ++ (codes " " ++ (decimal x.sets ++ (codes " " ++ (decimal x.lines ++ (codes " " ++ (x.first ++ written_tail x.second)))))))

abbrev pub SoundTail : Option SecondText → Type 0
SoundTail None = Unit {0}
SoundTail (Some x) = Fits32 x.below × IsWord x.word

-- the numbers of a bus line fit, and its words are words
abbrev pub SoundBus : BusText → Type 0
SoundBus x = Fits32 x.seats × Fits32 x.sets × Fits32 x.lines × IsWord x.first × SoundTail x.second

-- where the words of a bus line begin, each behind the one before it and a space
abbrev pub sets_from : BusText → ℕ → ℕ
sets_from x i = i + 4 + length (decimal x.seats) + 1

abbrev pub lines_from : BusText → ℕ → ℕ
lines_from x i = sets_from x i + length (decimal x.sets) + 1

abbrev pub first_from : BusText → ℕ → ℕ
first_from x i = lines_from x i + length (decimal x.lines) + 1

abbrev pub below_from : BusText → ℕ → ℕ
below_from x i = first_from x i + length x.first + 1

abbrev pub tail_of : Option SecondText → ℕ → Option Second
tail_of None i = None
tail_of (Some x) i = Some (record { below = x.below; word = span_of x.word (i + length (decimal x.below) + 1) })

-- the bus line that is read at a place
abbrev pub bus_line_of : BusText → ℕ → BusLine
bus_line_of x i =
    record {
      seats = record { value = x.seats; byte = i + 4 };
      sets = record { value = x.sets; byte = sets_from x i };
      lines = record { value = x.lines; byte = lines_from x i };
      first = span_of x.first (first_from x i);
      second = tail_of x.second (below_from x i);
    }

-- these bytes stand in the text from byte i on
abbrev pub Stands : List ℕ → ℕ → List ℕ → Type 0
Stands t i w = (rest : List ℕ) × (drop i t ≡ w ++ rest)

-- a sound line that begins at byte i can have the text's bytes up to before byte k
pub record Front {X : Type 0} (write : X → List ℕ) (Good : X → Type 0) (t : List ℕ) (i k : ℕ) : Type 0 where
  pub from : i ≤ k
  pub to : k ≤ length t
  pub line : X
  pub sound : Good line
  pub agrees : take (k - i) (drop i t) ≡ take (k - i) (write line)

-- a number that does not fit begins at byte k, behind the front of a sound line
pub record Overflow {X : Type 0} (write : X → List ℕ) (Good : X → Type 0) (t : List ℕ) (i k : ℕ) : Type 0 where
  pub front : Front write Good t i k
  pub over : 2 ^ 32 ≤ value_on 0 (run_at is_digit t k)

-- what a reading at byte i answers, and where it then stands, against the written form
pub record Faithful {X A : Type 0} (write : X → List ℕ) (Good : X → Type 0) (value : X → ℕ → A) (t : List ℕ) (i : ℕ) (r : Result A LineFault) (j : ℕ) : Type 0 where
  pub back : (x : X) → Good x → Stands t i (write x) → (r ≡ Ok (value x i)) × (j ≡ i + length (write x))
  pub stands : (a : A) → r ≡ Ok a → (x : X) × Good x × (a ≡ value x i) × Stands t i (write x) × (j ≡ i + length (write x))
  pub reaches : (k : ℕ) → r ≡ Err (Form k) → Front write Good t i k
  pub furthest : (k : ℕ) → r ≡ Err (Form k) → k < length t → Front write Good t i (k + 1) → ⊥
  pub large : (f : NumberFault) → r ≡ Err (Number f) → Overflow write Good t i f.byte
