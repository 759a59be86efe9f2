-- A table of cells that a client loads: when it is accepted, and what is due when it is not.
--
-- first_outside   the first cell that lies outside its set
-- table_refusal   what is due: 3 for a length other than sixteen, else 4 with the first cell outside its set
-- EachKeeps      every cell of sixteen keeps the law
-- Keeps          sixteen bytes, each in its cell's set
-- FirstFault     the first cell outside its set, in the subject's words
-- FaultTold      what a refusal of a table tells
use Rattle.std.specs.Prelude.{◌≡◌, ℕ, suc, ◌<◌, true, false, cond, ◌≢◌, ◌⊎◌, List, [], ◌∷◌, length, Some, None, Ok, Err, Option, Result, ◌==◌, slice_index}
use Rattle.refusal.specs.declared.Refusal.{Refusal}
use Rattle.refusal.specs.Refusals.{Told, plain, told}
use Rattle.protocol.specs.Cells.{allowed}

-- the first cell, from cell k on, that lies outside its set
abbrev pub first_outside : ℕ → List ℕ → Option ℕ
first_outside k [] = None
first_outside k (b ∷ bs) = cond (allowed k b) (first_outside (suc k) bs) (Some k)

-- the refusal that tells a cell
abbrev pub outside : ℕ → Told
outside k = record { number = 4; values = k ∷ [] }

-- the same, where there is such a cell
abbrev pub outside_refusal : Option ℕ → Option Told
outside_refusal None = None
outside_refusal (Some k) = Some (outside k)

-- the refusal that is due for these bytes
abbrev pub table_refusal : List ℕ → Option Told
table_refusal bytes = cond (length bytes == 16) (outside_refusal (first_outside 0 bytes)) (Some (plain 3))

-- every cell keeps the law
abbrev pub EachKeeps : List ℕ → Type 0
EachKeeps bytes = (k : ℕ) → k < 16 → allowed k (slice_index bytes k) ≡ true

-- sixteen bytes, and every cell keeps the law
pub record Keeps (bytes : List ℕ) : Type 0 where
  pub sixteen : length bytes ≡ 16
  pub each : EachKeeps bytes

-- cell k is the first of sixteen that lies outside its set
pub record FirstFault (bytes : List ℕ) (k : ℕ) : Type 0 where
  pub sixteen : length bytes ≡ 16
  pub here : k < 16
  pub unlawful : allowed k (slice_index bytes k) ≡ false
  pub before : (j : ℕ) → j < k → allowed j (slice_index bytes j) ≡ true

-- what a refusal of these bytes tells: the length is not sixteen, or the first cell outside its set
abbrev pub FaultTold : {A : Type 0} → List ℕ → Result A Refusal → Type 0
FaultTold bytes (Ok _) = Unit {0}
FaultTold bytes (Err e) =
    ((told e ≡ plain 3) × (length bytes ≢ 16)) ⊎ ((k : ℕ) × ((told e ≡ outside k) × FirstFault bytes k))
