-- The parts of a line that are as long as their bytes allow.
--
-- in_word   a byte can stand in a word; one that can stand in a number is a digit
-- run_at    the longest run of bytes that pass a test, from a place of the text on
use Rattle.std.specs.Prelude.{ℕ, Bool, not, ◌&&◌, List, drop, ◌==◌}
use Rattle.std.specs.List.{take_while}

-- a byte of a word: any but space and byte 10
abbrev pub in_word : ℕ → Bool
in_word b = not (b == 32) && not (b == 10)

-- the run that begins at a place
abbrev pub run_at : (ℕ → Bool) → List ℕ → ℕ → List ℕ
run_at p t i = take_while p (drop i t)
