-- The first cell outside its set, from what holds of each cell.
use Rattle.std.specs.Prelude.{not, MatchOption}
use Rattle.std.specs.List.{find}
use Rattle.std.proofs.Common.{◌≡◌, ℕ, zero, suc, ◌+◌, ◌<◌, ◌≤◌, Bool, true, false, eqb, List, [], ◌∷◌, length, get_or, Some, None, sym, refl, ap, ◌∙◌, subst, ⊎_elim, suc-le-suc, add-zero, zero-add, below_more, Option, arith, rules}
use Rattle.std.proofs.lemmas.Bool.{cond-true, cond-false, eq-eqb, both_ways, cases_lt}
use Rattle.std.proofs.lemmas.List.{get_or_past}
use Rattle.protocol.specs.Cells.{allowed, cell_sets}
use Rattle.protocol.specs.declared.cell.Cell.{Cell}
use Rattle.protocol.specs.CellNames.{cell_number, cells}
use Rattle.refusal.specs.Refusals.{plain}
use Rattle.protocol.specs.Tables.{first_outside, outside, outside_refusal, table_refusal, EachKeeps, Keeps, FirstFault}

-- the cells before and at the next one, counted from one place further on
shifted : (k i : ℕ) (b : ℕ) → allowed (k + suc i) b ≡ allowed (suc k + i) b
shifted k i b = let e : k + suc i ≡ suc k + i = omega arith in ap (λ (n : ℕ). allowed n b) e

pub all_none : (k : ℕ) (bs : List ℕ) → ((i : ℕ) → i < length bs → allowed (k + i) (get_or bs i 0) ≡ true) → first_outside k bs ≡ None
all_none k [] h = refl
all_none k (b ∷ bs) h =
    let here : allowed k b ≡ true = subst (λ (n : ℕ). allowed n b ≡ true) (add-zero k) (h 0 (omega arith)) in
    let rest : first_outside (suc k) bs ≡ None = all_none (suc k) bs (λ i l. sym (shifted k i (get_or bs i 0)) ∙ h (suc i) (suc-le-suc l)) in
    cond-true (allowed k b) (first_outside (suc k) bs) (Some k) here ∙ rest

pub first_some : (k : ℕ) (bs : List ℕ) (i : ℕ) → i < length bs → allowed (k + i) (get_or bs i 0) ≡ false → ((j : ℕ) → j < i → allowed (k + j) (get_or bs j 0) ≡ true) → first_outside k bs ≡ Some (k + i)
first_some k [] i l f h = absurd (omega arith)
first_some k (b ∷ bs) zero l f h =
    let here : allowed k b ≡ false = subst (λ (n : ℕ). allowed n b ≡ false) (add-zero k) f in
    cond-false (allowed k b) (first_outside (suc k) bs) (Some k) here ∙ ap Some (sym (add-zero k))
first_some k (b ∷ bs) (suc i) l f h =
    let here : allowed k b ≡ true = subst (λ (n : ℕ). allowed n b ≡ true) (add-zero k) (h 0 (omega arith)) in
    let rest : first_outside (suc k) bs ≡ Some (suc k + i) =
    first_some (suc k) bs i (omega arith) (sym (shifted k i (get_or bs i 0)) ∙ f) (λ j m. sym (shifted k j (get_or bs j 0)) ∙ h (suc j) (suc-le-suc m))
    in
    let place : suc k + i ≡ k + suc i = omega arith in
    cond-true (allowed k b) (first_outside (suc k) bs) (Some k) here ∙ rest ∙ ap Some place

-- above the last cell byte 0 keeps the law
pub above : (k : ℕ) → 16 ≤ k → allowed k 0 ≡ true
above k h = rw (get_or_past cell_sets k (0 ∷ []) h) refl

from_zero : (i b : ℕ) → allowed (0 + i) b ≡ allowed i b
from_zero i b = ap (λ (n : ℕ). allowed n b) (zero-add i)

-- sixteen lawful cells are not refused
pub refusal-none : (bs : List ℕ) → Keeps bs → table_refusal bs ≡ None
refusal-none bs k =
    let n : length bs ≡ 16 = k.sixteen in
    let e : first_outside 0 bs ≡ None = all_none 0 bs (λ i l. from_zero i (get_or bs i 0) ∙ k.each i (omega arith)) in
    cond-true (eqb (length bs) 16) (outside_refusal (first_outside 0 bs)) (Some (plain 3)) (eq-eqb (length bs) 16 n) ∙ ap outside_refusal e

-- the first cell outside its set is the one that is told
pub refusal-first : (bs : List ℕ) (k : ℕ) → FirstFault bs k → table_refusal bs ≡ Some (outside k)
refusal-first bs k f =
    let e : first_outside 0 bs ≡ Some (0 + k) =
    first_some 0 bs k (let n = f.sixteen in let l = f.here in omega arith) (from_zero k (get_or bs k 0) ∙ f.unlawful)
    (λ j l. from_zero j (get_or bs j 0) ∙ f.before j l)
    in
    cond-true (eqb (length bs) 16) (outside_refusal (first_outside 0 bs)) (Some (plain 3)) (eq-eqb (length bs) 16 f.sixteen)
    ∙ ap outside_refusal e ∙ ap (λ (n : ℕ). Some (outside n)) (zero-add k)

-- the cells of a list stand at the places from k on
abbrev Placed : ℕ → List Cell → Type 0
Placed k [] = Unit {0}
Placed k (c ∷ cs) = (cell_number c ≡ k) × Placed (k + 1) cs

-- the cell's byte lies outside its set
abbrev pub outside_of : List ℕ → Cell → Bool
outside_of bs c = not (allowed (cell_number c) (get_or bs (cell_number c) 0))

-- cell k keeps the law
abbrev KeepsAt : List ℕ → ℕ → Type 0
KeepsAt bs k = allowed k (get_or bs k 0) ≡ true

-- the cell lies outside its set, below place n, and each cell before it keeps the law
record FirstBelow (bs : List ℕ) (n : ℕ) (c : Cell) : Type 0 where
  here : cell_number c < n
  unlawful : allowed (cell_number c) (get_or bs (cell_number c) 0) ≡ false
  before : (j : ℕ) → j < cell_number c → KeepsAt bs j

-- what a search among these cells gives, where the cells below place n are theirs
abbrev Searches : List ℕ → ℕ → Option Cell → Type 0
Searches bs n r = MatchOption r ((j : ℕ) → j < n → KeepsAt bs j) (FirstBelow bs n)

-- one cell, and then the rest where it keeps the law
one_more : (bs : List ℕ) (k n : ℕ) (c : Cell) (cs : List Cell) (b : Bool) → allowed (cell_number c) (get_or bs (cell_number c) 0) ≡ b → cell_number c ≡ k → k < n
    → ((j : ℕ) → j < k → KeepsAt bs j) → (KeepsAt bs k → Searches bs n (find (outside_of bs) cs)) → Searches bs n (find (outside_of bs) (c ∷ cs))
one_more bs k n c cs true e at l h rest = rw e (rest (subst (KeepsAt bs) at e))
one_more bs k n c cs false e at l h rest = rw e (record { here = omega arith; unlawful = e; before = λ j m. h j (omega arith) })

search_on : (bs : List ℕ) (k n : ℕ) (cs : List Cell) → Placed k cs → k + length cs ≡ n → ((j : ℕ) → j < k → KeepsAt bs j) → Searches bs n (find (outside_of bs) cs)
search_on bs k n [] p e h = λ j l. h j (omega arith)
search_on bs k n (c ∷ cs) p e h =
    one_more bs k n c cs (allowed (cell_number c) (get_or bs (cell_number c) 0)) refl p.0 (omega arith) h
    (λ here. search_on bs (k + 1) n cs p.1 (omega arith) (below_more (KeepsAt bs) k h here))

-- a search through all cells tells whether each keeps the law, or the first that does not
pub searched : (bs : List ℕ) (r : Option Cell) → length bs ≡ 16 → r ≡ find (outside_of bs) cells → MatchOption r (Keeps bs) (λ c. FirstFault bs (cell_number c))
searched bs r n e = subst (λ (o : Option Cell). MatchOption o (Keeps bs) (λ c. FirstFault bs (cell_number c))) (sym e) (told (find (outside_of bs) cells) (search_on bs 0 16 cells (search rules) refl (λ j l. absurd (omega arith))))
  where
    told : (o : Option Cell) → MatchOption o ((j : ℕ) → j < 16 → KeepsAt bs j) (FirstBelow bs 16) → MatchOption o (Keeps bs) (λ c. FirstFault bs (cell_number c))
    told None h = record { sixteen = n; each = h }
    told (Some c) h = record { sixteen = n; here = h.here; unlawful = h.unlawful; before = h.before }

-- a table has no first fault where all its cells keep the law
pub no_fault : (bs : List ℕ) (k : ℕ) → FirstFault bs k → EachKeeps bs → ⊥
no_fault bs k f h = both_ways (allowed k (get_or bs k 0)) f.unlawful (h k f.here)

-- sixteen lawful cells answer lawfully at every cell number
pub table-lawful : (bs : List ℕ) → length bs ≡ 16 → EachKeeps bs → (k : ℕ) → allowed k (get_or bs k 0) ≡ true
table-lawful bs n h k =
    ⊎_elim (h k) (λ m. let past : length bs ≤ k = omega arith in subst (λ (b : ℕ). allowed k b ≡ true) (sym (get_or_past bs k 0 past)) (above k m))
    (cases_lt k 16)
