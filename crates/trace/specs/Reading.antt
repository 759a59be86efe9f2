-- Reading one part of a line, from a place of the text on.
--
-- Outcome   a value and the place behind it, or the line's fault
-- and_then   reading goes on behind what was read
-- Reads     what a reader answers and where it then stands in the same text: behind the value, or where it stood
-- Comes     the same, with the place left open at a fault
-- next_at    the next byte, if the text does not end here
-- byte_at    just this byte
-- value_on   the number that digits write, and fitting that it fits 32 bits
-- number_at  a number: the longest run of digits, with no leading zero, below 2 ^ 32
-- word_at    a word: the longest run of bytes that are no space and no byte 10
use Rattle.std.specs.Prelude.{◌≡◌, ℕ, ◌+◌, ◌-◌, ◌*◌, ◌^◌, Bool, false, cond, List, [], ◌∷◌, length, drop, Some, None, Ok, Err, Option, Result, ◌==◌, nat_lt}
use Rattle.refusal.specs.Refusals.{first}
use Rattle.trace.specs.declared.fault.NumberFault.{NumberFault}
use Rattle.trace.specs.declared.fault.LineFault.{LineFault}
use Rattle.trace.specs.declared.fault.LineFault.TheVariants.{Form, Number}
use Rattle.trace.specs.declared.reader.Reader.{Reader}
use Rattle.trace.specs.declared.word.Word.{Word}
use Rattle.trace.specs.Choices.{is_digit}
use Rattle.trace.specs.Runs.{in_word, run_at}

-- a value and the place behind it, or the line's fault
abbrev pub Outcome : Type 0 → Type 0
Outcome A = Result (A × ℕ) LineFault

-- reading goes on behind what was read
abbrev pub and_then : {A B : Type 0} → Outcome A → (A → ℕ → Outcome B) → Outcome B
and_then (Ok x) f = f x.0 x.1
and_then (Err e) f = Err e

-- a reading from place i on answers so, and then stands at j: behind the value, or where it stood
abbrev pub ReadsTo : {A : Type 0} → Outcome A → ℕ → Result A LineFault → ℕ → Type 0
ReadsTo o i (Ok x) j = o ≡ Ok (x, j)
ReadsTo o i (Err e) j = (o ≡ Err e) × (j ≡ i)

-- a reading came to this answer, and to the place j where it has a value
abbrev pub ComesTo : {A : Type 0} → Outcome A → Result A LineFault → ℕ → Type 0
ComesTo o (Ok x) j = o ≡ Ok (x, j)
ComesTo o (Err e) j = o ≡ Err e

-- a reader that was `old` answers so, and is then `new`: over the same text, and behind the value, or where it stood
pub record Reads {A : Type 0} (reading : List ℕ → ℕ → Outcome A) (old : Reader) (result : Result A LineFault) (new : Reader) : Type 0 where
  pub reads : ReadsTo (reading old.text.now old.at) old.at result new.at
  pub text : new.text.now ≡ old.text.now

-- the same, with the place left open at a fault
pub record Comes {A : Type 0} (reading : List ℕ → ℕ → Outcome A) (old : Reader) (result : Result A LineFault) (new : Reader) : Type 0 where
  pub comes : ComesTo (reading old.text.now old.at) result new.at
  pub text : new.text.now ≡ old.text.now

-- the next byte, if there is one
unfoldable pub next_at : List ℕ → ℕ → Option ℕ
next_at t i = first (drop i t)

-- it is this byte
abbrev pub is_byte : ℕ → Option ℕ → Bool
is_byte b None = false
is_byte b (Some c) = c == b

-- just this byte
unfoldable pub byte_at : ℕ → List ℕ → ℕ → Outcome (Unit {0})
byte_at b t i = cond (is_byte b (next_at t i)) (Ok (tt, i + 1)) (Err (Form i))

-- the number that digits write after those that wrote n
abbrev pub value_on : ℕ → List ℕ → ℕ
value_on n [] = n
value_on n (d ∷ ds) = value_on (n * 10 + (d - 48)) ds

-- a number that fits 32 bits, or its fault
abbrev pub fitting : List ℕ → ℕ → Result ℕ NumberFault
fitting ds i = cond (nat_lt (value_on 0 ds) (2 ^ 32)) (Ok (value_on 0 ds)) (Err (record { byte = i }))

-- the line's fault keeps the number's
abbrev pub kept_fault : Result ℕ NumberFault → Result ℕ LineFault
kept_fault (Ok n) = Ok n
kept_fault (Err f) = Err (Number f)

-- these digits from byte i on, where they are the longest run: at least one, and none after a leading zero
abbrev pub number_of : List ℕ → ℕ → Result ℕ LineFault
number_of [] i = Err (Form i)
number_of (d ∷ []) i = kept_fault (fitting (d ∷ []) i)
number_of (d ∷ (e ∷ ds)) i = cond (d == 48) (Err (Form (i + 1))) (kept_fault (fitting (d ∷ (e ∷ ds)) i))

-- what was read, with the place behind it
abbrev pub up_to : {A : Type 0} → ℕ → Result A LineFault → Outcome A
up_to j (Ok x) = Ok (x, j)
up_to j (Err e) = Err e

-- a number
unfoldable pub number_at : List ℕ → ℕ → Outcome ℕ
number_at t i = up_to (i + length (run_at is_digit t i)) (number_of (run_at is_digit t i) i)

-- these bytes, where they are the longest run: at least one
abbrev pub word_of : List ℕ → ℕ → Outcome Word
word_of [] i = Err (Form i)
word_of (b ∷ bs) i = Ok (record { start = i; end = i + length (b ∷ bs) }, i + length (b ∷ bs))

-- a word
unfoldable pub word_at : List ℕ → ℕ → Outcome Word
word_at t i = word_of (run_at in_word t i) i
