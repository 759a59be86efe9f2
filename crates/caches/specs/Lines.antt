-- A place of the table of copies, as the rules have it; cited by the bounds that `Caches` keeps and by the view of it.
--
-- blank     what is read past the end of a row
-- copy_of    the copy in a place; the words of an invalid copy mean nothing
-- slot_of    the place as one way of a set
-- Wide      each row of the table has its 64 places
-- Homed     each held copy stands in the place of its line
use Rattle.std.specs.Prelude.{◌≡◌, ℕ, ◌%◌, ◌<◌, true, List, [], length, get_or, slice_index_or}
use Rattle.protocol.specs.declared.state.State.TheVariants.{Invalid}
use Rattle.protocol.specs.States.{valid}
use Rattle.rules.specs.Columns.{Copy, kept}
use Rattle.rules.specs.Caches.{Slot}
use Rattle.caches.specs.declared.line.CacheLine.{CacheLine}

-- what is read past the end of a row
abbrev pub blank : CacheLine
blank = record { state = Invalid; tag = 0; words = [] }

-- the copy in a place
abbrev pub copy_of : CacheLine → Copy
copy_of p = kept p.state p.words

-- the place as one way of a set
abbrev pub slot_of : CacheLine → Slot
slot_of p = record { tag = p.tag; copy = copy_of p }

-- each row has its 64 places
abbrev pub Wide : List (List CacheLine) → Type 0
Wide table = (k : ℕ) → k < 8 → length (slice_index_or table k []) ≡ 64

-- each held copy stands in the place of its line
abbrev pub Homed : ℕ → List (List CacheLine) → Type 0
Homed sets table = (k i : ℕ) → valid (get_or (slice_index_or table k []) i blank).state ≡ true → (get_or (slice_index_or table k []) i blank).tag % sets ≡ i
