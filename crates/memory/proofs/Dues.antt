-- That the lines stay where a refusal is due.
use Rattle.std.proofs.Common.{◌≡◌, ℕ, ◌<◌, ◌≤◌, List, [], length, get_or, set, Some, None, ap, ⊎_elim, arith}
use Rattle.std.proofs.lemmas.List.{set_past, set-get_or}
use Rattle.std.proofs.lemmas.Bool.{lt-ltb, and_from, cases_lt}
use Rattle.refusal.specs.Refusals.{Told}
use Rattle.memory.specs.Lines.{Shaped, unless, word_due, word_written}

module _ (lines : List (List ℕ)) (line word value : ℕ) (due : Told) where
  pub word_kept : Shaped lines → word_due lines line word ≡ Some due → lines ≡ word_written lines line word value
  word_kept shaped e =
      ⊎_elim
      (λ h. ⊎_elim (within h) (past h) (cases_lt word 4))
      (λ h. rw (set_past lines line (set (get_or lines line []) word value) h))
      (cases_lt line (length lines))
    where
      within : line < length lines → word < 4 → lines ≡ word_written lines line word value
      within h k =
          let none : word_due lines line word ≡ None = ap unless (and_from _ _ (lt-ltb line (length lines) h) (lt-ltb word 4 k)) in
          cc

      past : line < length lines → 4 ≤ word → lines ≡ word_written lines line word value
      past h k =
          let long = shaped line h in
          rw (set_past (get_or lines line []) word value (omega arith), set-get_or)
