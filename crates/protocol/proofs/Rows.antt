-- A protocol written out seat by seat, and what the rows then answer.
use Rattle.std.proofs.Common.{◌≡◌, ℕ, ◌%◌, ◌<◌, ◌≤◌, true, false, ◌||◌, eqb, List, [], ◌∷◌, length, get_or, sym, ap, ◌∙◌, subst, ⊎_elim, mod-lt, mod-eq_of_lt, arith}
use Rattle.std.proofs.lemmas.Bool.{cases_lt, eqb-true, or_cases, false≢true}
use Rattle.std.proofs.lemmas.List.{get_or_past}
use Rattle.protocol.specs.Cells.{allowed, among, cell_sets, Lawful}
use Rattle.protocol.specs.Flattened.{rows_answer, RowOf, Alike}

-- the rows are the protocol's
pub record Written (p : ℕ → ℕ → ℕ) (rows : List (List ℕ)) : Type 0 where
  pub seats : length rows ≡ 8
  pub each : (seat : ℕ) → seat < 8 → RowOf p seat (get_or rows seat [])

-- above the last cell a protocol that keeps the law answers 0
past : (p : ℕ → ℕ → ℕ) → Lawful p → (seat k : ℕ) → 16 ≤ k → p seat k ≡ 0
past p lawful seat k h =
    let e : (eqb (p seat k) 0 || false) ≡ true = subst (λ (bs : List ℕ). among (p seat k) bs ≡ true) (get_or_past cell_sets k (0 ∷ []) h) (lawful seat k) in
    ⊎_elim (λ t. eqb-true (p seat k) 0 t) (λ t. absurd (false≢true t)) (or_cases (eqb (p seat k) 0) false e)

-- all eight rows answer as the protocol does
pub written-alike : (p : ℕ → ℕ → ℕ) (rows : List (List ℕ)) → Lawful p → Written p rows → Alike (rows_answer rows) p
written-alike p rows lawful so seat k l =
    ap (λ (s : ℕ). get_or (get_or rows s []) k 0) (mod-eq_of_lt l)
    ∙ ⊎_elim ((so.each seat l).each k) (λ h. get_or_past (get_or rows seat []) k 0 (let w = (so.each seat l).sixteen in omega arith) ∙ sym (past p lawful seat k h)) (cases_lt k 16)

-- rows that answer as a lawful protocol does are lawful, for every seat
pub alike-lawful : (p : ℕ → ℕ → ℕ) (rows : List (List ℕ)) → Lawful p → Alike (rows_answer rows) p → Lawful (rows_answer rows)
alike-lawful p rows lawful same seat k =
    let l : seat % 8 < 8 = mod-lt seat (omega arith) in
    let e : rows_answer rows seat k ≡ p (seat % 8) k = ap (λ (s : ℕ). get_or (get_or rows s []) k 0) (sym (mod-eq_of_lt l)) ∙ same (seat % 8) k l in
    subst (λ (b : ℕ). allowed k b ≡ true) (sym e) (lawful (seat % 8) k)
