-- The five states of a copy: their attributes, letters and names.
--
-- valid        the copy may be read; a seat holds a line when its copy is valid
-- exclusive    no other seat holds the line
-- owned        the seat supplies the line and has to write it back
-- letter       the letter of a state, and state_of the state of a letter
use Rattle.std.specs.Prelude.{ℕ, Bool, true, false, cond, List, Some, None, codes, Option, ◌==◌}
use Rattle.std.specs.Option.{unwrap_or}
use Rattle.protocol.specs.declared.state.State.{State}
use Rattle.protocol.specs.declared.state.State.TheVariants.{Invalid, Shared, Exclusive, Owned, Modified}

-- the copy may be read
abbrev pub valid : State → Bool
valid Invalid = false
valid Shared = true
valid Exclusive = true
valid Owned = true
valid Modified = true

-- no other seat holds the line
abbrev pub exclusive : State → Bool
exclusive Invalid = false
exclusive Shared = false
exclusive Exclusive = true
exclusive Owned = false
exclusive Modified = true

-- the seat supplies the line and has to write it back
abbrev pub owned : State → Bool
owned Invalid = false
owned Shared = false
owned Exclusive = false
owned Owned = true
owned Modified = true

-- the letter of a state: I, S, E, O, M
abbrev pub letter : State → ℕ
letter Invalid = 73
letter Shared = 83
letter Exclusive = 69
letter Owned = 79
letter Modified = 77

-- the state of a letter, where the byte is one
abbrev pub letter_state : ℕ → Option State
letter_state b =
    cond (b == 73) (Some Invalid)
    (cond (b == 83) (Some Shared) (cond (b == 69) (Some Exclusive) (cond (b == 79) (Some Owned) (cond (b == 77) (Some Modified) None))))

-- the state of a letter; a byte that is no state's letter stands for no copy
abbrev pub state_of : ℕ → State
state_of b = unwrap_or (letter_state b) Invalid

-- the name of a state
abbrev pub state_name : State → List ℕ
state_name Invalid = codes "Invalid"
state_name Shared = codes "Shared"
state_name Exclusive = codes "Exclusive"
state_name Owned = codes "Owned"
state_name Modified = codes "Modified"
