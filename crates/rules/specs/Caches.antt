-- One seat's cache: a list of sets, each a list of ways. Only this file knows the layout.
--
-- Slot      one way: the number of the line that stands there, and its copy; a slot with no copy is empty
-- look      the seat's copy of a line, or none
-- room      the line stands in its set, or a way there is empty
-- victim    the line that goes where there is no room: the one in the lowest way
-- put       the seat's copy of a line is now this one
-- held_in    how many copies the seat holds
-- lines_at   the lines that stand in a set, ways upward
use Rattle.std.specs.Prelude.{ℕ, ◌+◌, ◌%◌, Bool, false, cond, not, ◌&&◌, ◌||◌, List, [], ◌∷◌, length, replicate, ◌==◌, slice_index_or, slice_set}
use Rattle.protocol.specs.States.{valid}
use Rattle.rules.specs.Columns.{Copy, none, one}

-- one way of a set
pub record Slot : Type 0 where
  pub tag : ℕ
  pub copy : Copy

-- an empty way
abbrev pub vacant : Slot
vacant = record { tag = 0; copy = none }

-- a copy stands in the way
abbrev pub full : Slot → Bool
full s = valid s.copy.state

-- line n stands in the way
abbrev pub stands : ℕ → Slot → Bool
stands n s = s.tag == n && full s

-- the copy of line n among the ways
abbrev pub find : ℕ → List Slot → Copy
find n [] = none
find n (s ∷ ss) = cond (stands n s) s.copy (find n ss)

-- line n stands in one of the ways
abbrev pub has : ℕ → List Slot → Bool
has n [] = false
has n (s ∷ ss) = stands n s || has n ss

-- a way is empty
abbrev pub gap : List Slot → Bool
gap [] = false
gap (s ∷ ss) = not (full s) || gap ss

-- the copy of the line that stands there is now x
abbrev pub replace : ℕ → Copy → List Slot → List Slot
replace n x [] = []
replace n x (s ∷ ss) = cond (stands n s) (record { tag = n; copy = x } ∷ ss) (s ∷ replace n x ss)

-- the lowest empty way takes the line
abbrev pub fill : ℕ → Copy → List Slot → List Slot
fill n x [] = []
fill n x (s ∷ ss) = cond (full s) (s ∷ fill n x ss) (record { tag = n; copy = x } ∷ ss)

-- the copy of line n is now x, in the way where it stands, or else in the lowest empty one
abbrev pub put_in : ℕ → Copy → List Slot → List Slot
put_in n x ss = cond (has n ss) (replace n x ss) (cond (valid x.state) (fill n x ss) ss)

-- the line in the lowest way
abbrev pub lowest : List Slot → ℕ
lowest [] = 0
lowest (s ∷ ss) = s.tag

-- the lines that stand in the ways
abbrev pub lines_of : List Slot → List ℕ
lines_of [] = []
lines_of (s ∷ ss) = cond (full s) (s.tag ∷ lines_of ss) (lines_of ss)

-- the copies in the ways
abbrev pub full_in : List Slot → ℕ
full_in [] = 0
full_in (s ∷ ss) = one (full s) + full_in ss

-- a seat's cache: sets of ways
abbrev pub Cache : Type 0
Cache = List (List Slot)

-- the set of line n: n mod the number of sets
abbrev pub set_of : Cache → ℕ → List Slot
set_of c n = slice_index_or c (n % length c) []

-- the seat's copy of line n
unfoldable pub look : Cache → ℕ → Copy
look c n = find n (set_of c n)

-- line n stands in its set, or a way there is empty
unfoldable pub room : Cache → ℕ → Bool
room c n = has n (set_of c n) || gap (set_of c n)

-- the line that goes to make room for line n
unfoldable pub victim : Cache → ℕ → ℕ
victim c n = lowest (set_of c n)

-- the seat's copy of line n is now x
unfoldable pub put : ℕ → Cache → Copy → Cache
put n c x = slice_set c (n % length c) (put_in n x (set_of c n))

-- the copies that the seat holds
abbrev pub held_in : Cache → ℕ
held_in [] = 0
held_in (ss ∷ c) = full_in ss + held_in c

-- the lines that stand in set i, ways upward
unfoldable pub lines_at : Cache → ℕ → List ℕ
lines_at c i = lines_of (slice_index_or c i [])

-- an empty cache
abbrev pub fresh : (sets ways : ℕ) → Cache
fresh sets ways = replicate sets (replicate ways vacant)
