-- A byte that stands for no state, transaction or cell.
--
-- unknown_text  the error in words
-- Reads         what reading a byte gives: its meaning, or else the error with the byte
use Rattle.std.specs.Prelude.{◌≡◌, ℕ, List, ◌++◌, codes, Option, Result, ok_or}
use Rattle.std.specs.Fmt.{decimal}
use Rattle.protocol.specs.declared.unknown.Unknown.{Unknown}

-- the error in words
abbrev pub unknown_text : Unknown → List ℕ
unknown_text e = codes "byte " ++ decimal e.byte ++ codes " stands for none"

-- reading byte b gives its meaning where it has one, and else the error with the byte
abbrev pub Reads : {A : Type 0} → (ℕ → Option A) → ℕ → Result A Unknown → Type 0
Reads meaning b r = r ≡ ok_or (meaning b) (record { byte = b })
