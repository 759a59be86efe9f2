-- A protocol written out: a row of cells for each of eight seats.
--
-- rows_answer   what the rows answer for a seat and a cell number
-- Wide         each row has its sixteen cells
-- RowOf        a row has what a protocol answers for a seat
-- Alike        two protocols answer the same for each seat that a bus can have
use Rattle.std.specs.Prelude.{◌≡◌, ℕ, ◌%◌, ◌<◌, List, [], length, slice_index, slice_index_or}

-- what the rows answer for a seat, counted round the eight rows, and a cell number; 0 above the last cell
abbrev pub rows_answer : List (List ℕ) → ℕ → ℕ → ℕ
rows_answer rows seat k = slice_index (slice_index_or rows (seat % 8) []) k

-- each row has its sixteen cells
abbrev pub Wide : List (List ℕ) → Type 0
Wide rows = (seat : ℕ) → seat < 8 → length (slice_index_or rows seat []) ≡ 16

-- the row has what the protocol answers for a seat at each of the sixteen cells
pub record RowOf (p : ℕ → ℕ → ℕ) (seat : ℕ) (row : List ℕ) : Type 0 where
  pub sixteen : length row ≡ 16
  pub each : (k : ℕ) → k < 16 → slice_index row k ≡ p seat k

-- the two answer the same, at every cell number, for each of the eight seats that a bus can have
abbrev pub Alike : (ℕ → ℕ → ℕ) → (ℕ → ℕ → ℕ) → Type 0
Alike p q = (seat k : ℕ) → seat < 8 → p seat k ≡ q seat k
