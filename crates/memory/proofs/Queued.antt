-- Waiting lines: where a search from the youngest ends, and what stays true as one more comes.
use Rattle.std.proofs.Common.{◌≡◌, ℕ, suc, ◌+◌, ◌<◌, false, List, [], ◌∷◌, ◌++◌, length, get_or, drop, Some, None, Option, MatchOption, ◌≢◌, refl, sym, ap, ◌∙◌, ⊎_elim, arith, length-drop}
use Rattle.std.proofs.lemmas.List.{get_or-drop, get_or_append_left, get_or_push, length_push}
use Rattle.std.proofs.lemmas.Bool.{cases_lt, ne_eqb, or_from}
use Rattle.memory.specs.Ages.{Apart, Wide, Newest, blank, holds}
use Rattle.memory.specs.Covers.{not-held}
use Rattle.memory.specs.declared.queue.Waiting.{Waiting}

-- what a search from the youngest says of the lines that it passed
abbrev pub Passed : ℕ → List Waiting → Option ℕ → Type 0
Passed line ws r =
    MatchOption r ((k : ℕ) → k < length ws → (get_or ws k blank).line ≢ line) (λ i. (i < length ws) × ((get_or ws i blank).line ≡ line) × ((k : ℕ) → i < k → k < length ws → (get_or ws k blank).line ≢ line))

none-held : (line : ℕ) (ws : List Waiting) → ((k : ℕ) → k < length ws → (get_or ws k blank).line ≢ line) → holds line ws ≡ false
none-held line [] other = refl
none-held line (w ∷ ws) other =
    or_from _ _ (ne_eqb w.line line (other 0 (omega arith))) (none-held line ws (λ k h. other (suc k) (omega arith)))

pub newest-found : (line : ℕ) (ws : List Waiting) (r : Option ℕ) → Passed line ws r → MatchOption r (holds line ws ≡ false) (λ i. Newest line ws i)
newest-found line ws None other = none-held line ws other
newest-found line ws (Some i) found =
    record {
      within = found.0;
      here = found.1;
      last = none-held line (drop (i + 1) ws) (λ k h e. found.2 (i + 1 + k) (omega arith) (omega (arith, length-drop (i + 1) ws)) (ap (λ w. w.line) (sym (get_or-drop (i + 1) ws k blank)) ∙ e));
    }

pub apart-push : (ws : List Waiting) (w : Waiting) → Apart ws → holds w.line ws ≡ false → Apart (ws ++ w ∷ [])
apart-push ws w a h i j l m e =
    let n = length_push ws w in
    let first = ap (λ x. x.line) (get_or_append_left ws (w ∷ []) blank i (omega arith)) in
    ⊎_elim
    (λ k. a i j l k (sym first ∙ e ∙ ap (λ x. x.line) (get_or_append_left ws (w ∷ []) blank j k)))
    (λ k. not-held w.line ws i h (omega arith) (sym first ∙ e ∙ ap (λ x. x.line) (get_or_push ws w blank j (omega arith))))
    (cases_lt j (length ws))

pub wide-rest : (all : List Waiting) (w : Waiting) (ws : List Waiting) → all ≡ w ∷ ws → Wide all → Wide ws
wide-rest all w ws e wide k h = (rw e at wide) (suc k) (omega arith)
