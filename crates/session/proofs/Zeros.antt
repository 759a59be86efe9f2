-- Words that are all zero, cut into lines.
use Rattle.std.proofs.Common.{◌≡◌, ℕ, zero, suc, ◌*◌, ◌/◌, ◌≤◌, min, List, [], ◌∷◌, length, replicate, refl, ap, ◌∙◌, arith}
use native.Mathlib.Nat.{min-eq_left}
use lib.ListN.{length-replicate}
use Rattle.memory.specs.Words.{lines_of, cut, whole}
use Rattle.session.specs.Texts.{zeros}

cut-zeros : (n m : ℕ) → m ≡ n * 4 → cut 4 n (replicate m 0) ≡ zeros n
cut-zeros zero m e = refl
cut-zeros (suc n) m e =
    let f : m ≡ suc (suc (suc (suc (n * 4)))) = omega arith in
    ap (λ (x : ℕ). cut 4 (suc n) (replicate x 0)) f ∙ ap (λ (l : List (List ℕ)). (0 ∷ 0 ∷ 0 ∷ 0 ∷ []) ∷ l) (cut-zeros n (n * 4) refl)

-- as many lines as there are words for
pub zero-lines : (n : ℕ) → n ≤ 1024 → lines_of (replicate (n * 4) 0) ≡ zeros n
unfolding lines_of
zero-lines n h =
    let q : n * 4 / 4 ≡ n = omega arith in
    let b : n ≤ 16384 = omega arith in
    let e : whole (length (replicate (n * 4) 0)) ≡ n = ap whole (length-replicate (n * 4) 0) ∙ (ap (λ (x : ℕ). min x 16384) q ∙ min-eq_left b) in
    ap (λ (x : ℕ). cut 4 x (replicate (n * 4) 0)) e ∙ cut-zeros n (n * 4) refl
