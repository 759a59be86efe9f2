-- The cells of a protocol table, and the bus laws: the set that each cell lies in.
--
-- cell_sets   the sets, cell 0 first
-- cell_set    one of them; above the last cell only byte 0 is in it
-- allowed    a byte lies in a cell's set
-- among      a number stands in a list
-- Lawful     a protocol, as what it answers for a seat and a cell, keeps the law throughout
-- FilledState  the states that a copy filled alone may have
use Rattle.std.specs.Prelude.{◌≡◌, ℕ, Bool, true, false, ◌||◌, ◌⊎◌, List, [], ◌∷◌, codes, ◌==◌, slice_index_or}
use Rattle.protocol.specs.declared.state.State.{State}
use Rattle.protocol.specs.declared.state.State.TheVariants.{Shared, Exclusive}

-- the number stands in the list
abbrev pub among : ℕ → List ℕ → Bool
among x [] = false
among x (y ∷ ys) = x == y || among x ys

-- the bytes that each cell may hold, by what the cell is for
abbrev pub cell_sets : List (List ℕ)
cell_sets =
    codes "126"  -- 0: write at Invalid
    ∷ codes "3456"  -- 1: write at Shared
    ∷ codes "3456"  -- 2: write at Owned
    ∷ codes "SE"  -- 3: filled alone
    ∷ codes "OM"  -- 4: after an update, alone
    ∷ codes "SE"  -- 5: after a write through with update, alone, from Shared
    ∷ codes "OM"  -- 6: the same, from Owned
    ∷ codes "SE"  -- 7: after a write through with invalidate, from Shared
    ∷ codes "OM"  -- 8: the same, from Owned
    ∷ codes "IS"  -- 9: read shared heard at Shared
    ∷ codes "IS"  -- 10: read shared heard at Exclusive
    ∷ codes "ISO"  -- 11: read shared heard at Owned
    ∷ codes "ISO"  -- 12: read shared heard at Modified
    ∷ codes "IS"  -- 13: update heard at Shared
    ∷ codes "IS"  -- 14: update heard at Owned
    ∷ codes "IS"  -- 15: write through with update heard at Shared
    ∷ []

-- the set of cell k; above the last cell a protocol answers 0
abbrev pub cell_set : ℕ → List ℕ
cell_set k = slice_index_or cell_sets k (0 ∷ [])

-- byte b keeps the law of cell k
abbrev pub allowed : ℕ → ℕ → Bool
allowed k b = among b (cell_set k)

-- each seat's answer keeps the law at each cell
abbrev pub Lawful : (ℕ → ℕ → ℕ) → Type 0
Lawful cells = (seat k : ℕ) → allowed k (cells seat k) ≡ true

-- a copy that is filled alone may stand so
abbrev pub FilledState : State → Type 0
FilledState s = (s ≡ Shared) ⊎ (s ≡ Exclusive)
