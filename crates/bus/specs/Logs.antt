-- The records that an access makes, in the places that its caller lends.
--
-- single   one record, as a list
-- listed   a record that may have been made, as a list
-- Fits     so many more records have a place
-- Logged   the records made stand in the places up to the new count, and every later place is as it was
use Rattle.std.specs.Prelude.{◌≡◌, ℕ, ◌+◌, ◌≤◌, List, [], ◌∷◌, ◌++◌, length, take, drop, Some, None, Option}
use Rattle.rules.specs.declared.record.Record.{Record}
use Rattle.bus.specs.declared.log.Log.{Log}

-- one record, as a list
abbrev pub single : Record → List Record
single e = e ∷ []

-- a record that may have been made, as a list
abbrev pub listed : Option Record → List Record
listed None = []
listed (Some e) = single e

-- k more fit
abbrev pub Fits : ℕ → Log → Type 0
Fits k l = l.made + k ≤ length l.places.now

-- the records of es were put into the next places of the log, and the others are as they were
pub record Logged (es : List Record) (before after : Log) : Type 0 where
  pub lent : after.places.ghost_name ≡ before.places.ghost_name
  pub long : length after.places.now ≡ length before.places.now
  pub count : after.made ≡ before.made + length es
  pub front : take after.made after.places.now ≡ take before.made before.places.now ++ es
  pub rest : drop after.made after.places.now ≡ drop after.made before.places.now
