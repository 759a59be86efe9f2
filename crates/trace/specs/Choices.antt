-- The words of a text that choose a protocol.
--
-- is_table      a word that begins with a digit is a table, any other a name
-- word_refusal  what is due for a word: as for a table, or 11 for an unknown name
-- word_cells    the cells that an accepted word chooses
-- spelled      the word that a choice is written as
-- Chosen       what reading an accepted word gives
use Rattle.std.specs.Prelude.{◌≡◌, ℕ, Bool, true, false, cond, ◌&&◌, List, [], ◌∷◌, Some, None, Option, nat_le}
use Rattle.refusal.specs.Refusals.{Told}
use Rattle.protocol.specs.declared.published.Published.{Published}
use Rattle.protocol.specs.Published.{published_name, published_cells, named, name_refusal}
use Rattle.protocol.specs.Tables.{table_refusal}
use Rattle.trace.specs.declared.choice.Choice.{Choice}
use Rattle.trace.specs.declared.choice.Choice.TheVariants.{Named, Loaded}

-- a byte 48 to 57
abbrev pub is_digit : ℕ → Bool
is_digit b = nat_le 48 b && nat_le b 57

-- the word begins with a digit
abbrev pub is_table : List ℕ → Bool
is_table [] = false
is_table (b ∷ bs) = is_digit b

-- the refusal that is due for a word
abbrev pub word_refusal : List ℕ → Option Told
word_refusal w = cond (is_table w) (table_refusal w) (name_refusal (named w))

-- the cells of a choice
abbrev pub choice_cells : Choice → List ℕ
choice_cells (Named p) = published_cells p
choice_cells (Loaded t) = t.cells

-- the word that a choice is written as
abbrev pub spelled : Choice → List ℕ
spelled (Named p) = published_name p
spelled (Loaded t) = t.cells

-- the choice came by a table
abbrev pub by_table : Choice → Bool
by_table (Named p) = false
by_table (Loaded t) = true

-- the cells that an accepted word chooses
abbrev pub cells_named : Option Published → List ℕ
cells_named None = []
cells_named (Some p) = published_cells p

abbrev pub word_cells : List ℕ → List ℕ
word_cells w = cond (is_table w) w (cells_named (named w))

-- what reading an accepted word gives: the choice is written so, came in that way, and has these cells
pub record Chosen (w : List ℕ) (c : Choice) : Type 0 where
  pub word : spelled c ≡ w
  pub way : by_table c ≡ is_table w
  pub cells : choice_cells c ≡ word_cells w
