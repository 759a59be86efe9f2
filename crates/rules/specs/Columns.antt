-- One line seen across the bus: each seat's copy of it, and memory's words.
--
-- Copy      what a seat has of a line: a state and the line's words
-- kept      a copy in a state; at Invalid there is none, and so no words
-- Column    the copies of all seats, seat 0 first, and memory's words
-- alone     no other seat holds the line; a seat holds it when its copy is valid
-- owner_of   the first owner: a copy in Owned or Modified
-- supplied  the words that the bus gives: the owner's, or else memory's
use Rattle.std.specs.Prelude.{ℕ, suc, ◌+◌, Bool, false, cond, not, ◌||◌, List, [], ◌∷◌, Some, None, Option, slice_index_or, slice_set}
use Rattle.protocol.specs.declared.state.State.{State}
use Rattle.protocol.specs.declared.state.State.TheVariants.{Invalid}
use Rattle.protocol.specs.States.{valid, owned}

-- what a seat has of a line
pub record Copy : Type 0 where
  pub state : State
  pub words : List ℕ

-- a copy in a state with these words; at Invalid there are no words
abbrev pub kept : State → List ℕ → Copy
kept s w = record { state = s; words = cond (valid s) w [] }

-- no copy
abbrev pub none : Copy
none = record { state = Invalid; words = [] }

-- one line: the copies of all seats, and memory's words
pub record Column : Type 0 where
  pub copies : List Copy
  pub home : List ℕ

-- the state of a seat's copy
abbrev pub state_at : List Copy → ℕ → State
state_at xs i = (slice_index_or xs i none).state

-- the words of a seat's copy
abbrev pub words_at : List Copy → ℕ → List ℕ
words_at xs i = (slice_index_or xs i none).words

-- some seat's state has the attribute
abbrev pub some : (State → Bool) → List Copy → Bool
some p [] = false
some p (x ∷ xs) = p x.state || some p xs

-- no seat but r holds the line
abbrev pub alone : ℕ → List Copy → Bool
alone r xs = not (some valid (slice_set xs r none))

-- the first owner from seat k on
abbrev pub owner_from : ℕ → List Copy → Option ℕ
owner_from k [] = None
owner_from k (x ∷ xs) = cond (owned x.state) (Some k) (owner_from (suc k) xs)

-- the first owner
abbrev pub owner_of : List Copy → Option ℕ
owner_of xs = owner_from 0 xs

-- the first owner's words, or else memory's
abbrev pub supplied : List Copy → List ℕ → List ℕ
supplied [] home = home
supplied (x ∷ xs) home = cond (owned x.state) x.words (supplied xs home)

-- a test, counted
abbrev pub one : Bool → ℕ
one b = cond b 1 0

-- the seats that hold the line
abbrev pub holders : List Copy → ℕ
holders [] = 0
holders (x ∷ xs) = one (valid x.state) + holders xs
