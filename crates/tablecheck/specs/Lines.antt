-- The lines of a text.
--
-- IsLine    a line without its end, and what follows it
-- NextLine  what the next line of a text is
use Rattle.std.specs.Prelude.{◌≡◌, ◌≢◌, ℕ, ◌<◌, List, [], Option, Some, None, length, take, drop, slice_index}

-- the line ends at the text's first byte 10, or else with the text, and what follows begins behind that byte
pub record IsLine (text line rest : List ℕ) : Type 0 where
  pub bytes : line ≡ take (length line) text
  pub before : (k : ℕ) → k < length line → slice_index text k ≢ 10
  pub ends : length line < length text → slice_index text (length line) ≡ 10
  pub after : rest ≡ drop 1 (drop (length line) text)

-- an empty text has no line
abbrev pub NextLine : List ℕ → Option (List ℕ) → List ℕ → Type 0
NextLine text None rest = (text ≡ []) × (rest ≡ [])
NextLine text (Some line) rest = (text ≢ []) × IsLine text line rest
