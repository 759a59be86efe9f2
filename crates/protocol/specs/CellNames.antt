-- The cells of a protocol table by name: their places and what they are for.
--
-- cell_number  the place of a cell, 0 to 15
-- cells       all of them, in that order
-- cell_at      the cell at a place, where there is one
-- cell_use     what the cell is for, in words
use Rattle.std.specs.Prelude.{ℕ, List, [], ◌∷◌, map, Some, None, codes, Option, slice_index_or}
use Rattle.protocol.specs.declared.cell.Cell.{Cell}
use Rattle.protocol.specs.declared.cell.Cell.TheVariants.{WriteAtInvalid, WriteAtShared, WriteAtOwned, FilledAlone, UpdatedAlone, ThroughUpdatedAloneAtShared, ThroughUpdatedAloneAtOwned, ThroughInvalidatedAtShared, ThroughInvalidatedAtOwned, ReadHeardAtShared, ReadHeardAtExclusive, ReadHeardAtOwned, ReadHeardAtModified, UpdateHeardAtShared, UpdateHeardAtOwned, ThroughUpdateHeardAtShared}

-- the place of a cell in a table
abbrev pub cell_number : Cell → ℕ
cell_number WriteAtInvalid = 0
cell_number WriteAtShared = 1
cell_number WriteAtOwned = 2
cell_number FilledAlone = 3
cell_number UpdatedAlone = 4
cell_number ThroughUpdatedAloneAtShared = 5
cell_number ThroughUpdatedAloneAtOwned = 6
cell_number ThroughInvalidatedAtShared = 7
cell_number ThroughInvalidatedAtOwned = 8
cell_number ReadHeardAtShared = 9
cell_number ReadHeardAtExclusive = 10
cell_number ReadHeardAtOwned = 11
cell_number ReadHeardAtModified = 12
cell_number UpdateHeardAtShared = 13
cell_number UpdateHeardAtOwned = 14
cell_number ThroughUpdateHeardAtShared = 15

-- all cells, in the order of a table
abbrev pub cells : List Cell
cells =
    WriteAtInvalid
    ∷ WriteAtShared
    ∷ WriteAtOwned
    ∷ FilledAlone
    ∷ UpdatedAlone
    ∷ ThroughUpdatedAloneAtShared
    ∷ ThroughUpdatedAloneAtOwned
    ∷ ThroughInvalidatedAtShared
    ∷ ThroughInvalidatedAtOwned
    ∷ ReadHeardAtShared
    ∷ ReadHeardAtExclusive
    ∷ ReadHeardAtOwned
    ∷ ReadHeardAtModified
    ∷ UpdateHeardAtShared
    ∷ UpdateHeardAtOwned
    ∷ ThroughUpdateHeardAtShared
    ∷ []

-- the cell at a place, where there is one
abbrev pub cell_at : ℕ → Option Cell
cell_at n = slice_index_or (map Some cells) n None

-- what the cell is for
abbrev pub cell_use : Cell → List ℕ
cell_use WriteAtInvalid = codes "write at Invalid"
cell_use WriteAtShared = codes "write at Shared"
cell_use WriteAtOwned = codes "write at Owned"
cell_use FilledAlone = codes "filled alone"
cell_use UpdatedAlone = codes "after UP, alone"
cell_use ThroughUpdatedAloneAtShared = codes "after TU at Shared, alone"
cell_use ThroughUpdatedAloneAtOwned = codes "after TU at Owned, alone"
cell_use ThroughInvalidatedAtShared = codes "after TI at Shared"
cell_use ThroughInvalidatedAtOwned = codes "after TI at Owned"
cell_use ReadHeardAtShared = codes "RS heard at Shared"
cell_use ReadHeardAtExclusive = codes "RS heard at Exclusive"
cell_use ReadHeardAtOwned = codes "RS heard at Owned"
cell_use ReadHeardAtModified = codes "RS heard at Modified"
cell_use UpdateHeardAtShared = codes "UP heard at Shared"
cell_use UpdateHeardAtOwned = codes "UP heard at Owned"
cell_use ThroughUpdateHeardAtShared = codes "TU heard at Shared"
