-- Lines that wait, in the order of their age. The contracts of the write buffer cite it.
--
-- blank        what stands where no line waits
-- waits        a line that waits, with its words
-- with_words    a waiting line with its words changed
-- most_waiting  how many lines may wait
-- full         as many lines wait as may
-- holds        whether a line waits
-- Newest       a place where a line waits, with none newer
-- Apart        no line waits twice
-- Wide         each waiting line has as many words as a line has
-- changed      the waiting lines after the words of one changed
-- over         what stands below, as it will be once all that waits has gone down
use Rattle.std.specs.Prelude.{◌≡◌, ℕ, ◌+◌, ◌<◌, Bool, false, cond, ◌||◌, List, [], ◌∷◌, length, drop, ◌==◌, ◌≢◌, slice_index_or, slice_set}
use Rattle.memory.specs.Lines.{words_in_line}
use Rattle.memory.specs.declared.queue.Waiting.{Waiting}

-- what stands at a place where no line waits
abbrev pub blank : Waiting
blank = record { line = 0; words = [] }

-- a line waits with these words
abbrev pub waits : ℕ → List ℕ → Waiting
waits line words = record { line = line; words = words }

-- the same line with its words changed
abbrev pub with_words : (List ℕ → List ℕ) → Waiting → Waiting
with_words f w = record { line = w.line; words = f w.words }

-- how many lines may wait
abbrev pub most_waiting : ℕ
most_waiting = 4

-- there is no place for one more
abbrev pub full : List Waiting → Bool
full ws = length ws == most_waiting

-- the line is one of those that wait
abbrev pub holds : ℕ → List Waiting → Bool
holds line [] = false
holds line (w ∷ ws) = w.line == line || holds line ws

-- a line waits at place i, and at none after it
pub record Newest (line : ℕ) (ws : List Waiting) (i : ℕ) : Type 0 where
  pub within : i < length ws
  pub here : (slice_index_or ws i blank).line ≡ line
  pub last : holds line (drop (i + 1) ws) ≡ false

-- no line waits twice
abbrev pub Apart : List Waiting → Type 0
Apart ws = (i j : ℕ) → i < j → j < length ws → (slice_index_or ws i blank).line ≢ (slice_index_or ws j blank).line

-- each waiting line has as many words as a line has
abbrev pub Wide : List Waiting → Type 0
Wide ws = (k : ℕ) → k < length ws → length (slice_index_or ws k blank).words ≡ words_in_line

-- the words of a waiting line changed where it waits; every line keeps its age
abbrev pub changed : ℕ → (List ℕ → List ℕ) → List Waiting → List Waiting
changed line f [] = []
changed line f (w ∷ ws) = cond (w.line == line) (with_words f w) w ∷ changed line f ws

-- lines with each waiting line put over them, oldest first
abbrev pub over : List Waiting → List (List ℕ) → List (List ℕ)
over [] lines = lines
over (w ∷ ws) lines = over ws (slice_set lines w.line w.words)
