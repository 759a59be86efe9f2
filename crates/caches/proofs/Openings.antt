-- The table at opening: every place is empty.
use Rattle.std.proofs.Common.{◌≡◌, ℕ, ◌<◌, ◌≤◌, List, [], ◌∷◌, map, length, get_or, replicate, sym, ap, ◌∙◌, ⊎_elim}
use lib.LanesLaws.{map-replicate}
use Rattle.std.proofs.lemmas.Bool.{cases_lt, false≢true}
use Rattle.std.proofs.lemmas.List.{take-replicate, get_or-replicate, get_or_past}
use Rattle.protocol.specs.declared.state.State.TheVariants.{Invalid}
use Rattle.protocol.specs.States.{valid}
use Rattle.rules.specs.Caches.{fresh}
use Rattle.caches.specs.declared.line.CacheLine.{CacheLine}
use Rattle.caches.specs.Lines.{blank, slot_of, Wide, Homed}
use Rattle.caches.specs.Views.{row_view, table_view}

-- a place where nothing stands
abbrev pub empty : CacheLine
empty = record { state = Invalid; tag = 0; words = 0 ∷ 0 ∷ 0 ∷ 0 ∷ [] }

-- the table of empty places
abbrev pub empty_table : List (List CacheLine)
empty_table = replicate 8 (replicate 64 empty)

pub open_view : (seats sets : ℕ) → seats ≤ 8 → sets ≤ 64 → table_view seats sets empty_table ≡ replicate seats (fresh sets 1)
open_view seats sets few narrow =
    ap (map (row_view sets)) (take-replicate seats 8 (replicate 64 empty) few)
    ∙ map-replicate (row_view sets) seats (replicate 64 empty)
    ∙ ap (replicate seats)
    (ap (map (λ (p : CacheLine). slot_of p ∷ [])) (take-replicate sets 64 empty narrow) ∙ map-replicate (λ (p : CacheLine). slot_of p ∷ []) sets empty)

pub open-wide : Wide empty_table
open-wide k l = ap length (get_or-replicate 8 k (replicate 64 empty) [] l)

empty-state : (k i : ℕ) → (get_or (get_or empty_table k []) i blank).state ≡ Invalid
empty-state k i =
    ⊎_elim
    (λ (l : k < 8).
    ap (λ (row : List CacheLine). (get_or row i blank).state) (get_or-replicate 8 k (replicate 64 empty) [] l)
    ∙ ⊎_elim (λ (m : i < 64). ap (λ (p : CacheLine). p.state) (get_or-replicate 64 i empty blank m))
    (λ (m : 64 ≤ i). ap (λ (p : CacheLine). p.state) (get_or_past (replicate 64 empty) i blank m)) (cases_lt i 64))
    (λ (l : 8 ≤ k). ap (λ (row : List CacheLine). (get_or row i blank).state) (get_or_past empty_table k [] l))
    (cases_lt k 8)

pub open-homed : (sets : ℕ) → Homed sets empty_table
open-homed sets k i v = absurd (false≢true (ap valid (sym (empty-state k i)) ∙ v))
