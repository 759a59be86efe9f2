-- The sizes of a bus, cited by `Agreed::agree` and by the bounds that `Agreed` and `Caches` keep.
--
-- set_counts      the numbers of sets that a cache may have
-- agree_refusal   what is due: 1 unless there are one to eight seats, else 2 unless the sets are listed
use Rattle.std.specs.Prelude.{ℕ, cond, ◌&&◌, List, [], ◌∷◌, Some, None, Option, nat_le}
use Rattle.refusal.specs.Refusals.{Told, plain}
use Rattle.protocol.specs.Cells.{among}

-- the sets that a cache may have
abbrev pub set_counts : List ℕ
set_counts = 1 ∷ 2 ∷ 4 ∷ 8 ∷ 16 ∷ 32 ∷ 64 ∷ []

-- the refusal that is due for so many seats and sets
abbrev pub agree_refusal : (seats sets : ℕ) → Option Told
agree_refusal seats sets = cond (nat_le 1 seats && nat_le seats 8) (cond (among sets set_counts) None (Some (plain 2))) (Some (plain 1))
