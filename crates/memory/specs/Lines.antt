-- What a memory means: two lists of lines. `Memory`'s law and contracts cite it.
--
-- words_in_line  how many words a line has
-- most_lines    how many lines a memory may have
-- Lawful       what holds of the two lists of any memory
-- Shaped       each line has as many words as a line has
-- line_due      the refusal that is due for a line
-- word_due      the refusal that is due for a word of a line
-- word_written  the lines after one word was written
use Rattle.std.specs.Prelude.{◌≡◌, ℕ, ◌<◌, ◌≤◌, Bool, cond, ◌&&◌, List, [], length, Some, None, Option, nat_lt, slice_index_or, slice_set}
use Rattle.refusal.specs.Refusals.{Told, plain}

-- how many words a line has
abbrev pub words_in_line : ℕ
words_in_line = 4

-- how many lines a memory may have
abbrev pub most_lines : ℕ
most_lines = 1048576

-- each line has as many words as a line has
abbrev pub Shaped : List (List ℕ) → Type 0
Shaped lines = (n : ℕ) → n < length lines → length (slice_index_or lines n []) ≡ words_in_line

-- what reads answer, and what stands at the bottom: as many lines, not too many, each of the right length
pub record Lawful (lines settled : List (List ℕ)) : Type 0 where
  pub level : length settled ≡ length lines
  pub most : length lines ≤ most_lines
  pub shaped : Shaped lines
  pub bottom : Shaped settled

-- refusal 7 where a test says that something lies beyond memory
abbrev pub unless : Bool → Option Told
unless within = cond within None (Some (plain 7))

-- a line is refused with 7 exactly when it is not below the count
abbrev pub line_due : List (List ℕ) → ℕ → Option Told
line_due lines line = unless (nat_lt line (length lines))

-- a word is refused with 7 exactly when its line is not below the count, or the line has no such word
abbrev pub word_due : List (List ℕ) → ℕ → ℕ → Option Told
word_due lines line word = unless (nat_lt line (length lines) && nat_lt word words_in_line)

-- the lines with one word of one line changed; past the end of either nothing changes
abbrev pub word_written : List (List ℕ) → ℕ → ℕ → ℕ → List (List ℕ)
word_written lines line word value = slice_set lines line (slice_set (slice_index_or lines line []) word value)
