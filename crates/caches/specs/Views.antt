-- The code's table of copies, as the rules' caches; every contract of `Caches` cites it.
--
-- row_view     a seat's cache: the agreed sets of its row, each of one way
-- table_view   the caches of the agreed seats
-- caches_of    the caches that the table stands for
use Rattle.std.specs.Prelude.{ℕ, List, [], ◌∷◌, map, take}
use Rattle.rules.specs.Caches.{Cache}
use Rattle.caches.specs.declared.line.CacheLine.{CacheLine}
use Rattle.caches.specs.declared.table.Caches.{Caches}
use Rattle.caches.specs.Lines.{slot_of}

-- a seat's cache: the agreed sets of its row
abbrev pub row_view : ℕ → List CacheLine → Cache
row_view sets row = map (λ p. slot_of p ∷ []) (take sets row)

-- the caches of the agreed seats
abbrev pub table_view : (seats sets : ℕ) → List (List CacheLine) → List Cache
table_view seats sets table = map (row_view sets) (take seats table)

-- the caches that the table stands for
unfoldable pub caches_of : Caches → List Cache
caches_of c = table_view c.agreed.seats c.agreed.sets c.table
