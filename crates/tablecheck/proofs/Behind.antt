-- A line of a text, and what follows it.
use Rattle.std.proofs.Common.{◌≡◌, ◌≢◌, ℕ, suc, ◌-◌, ◌<◌, ◌≤◌, min, List, [], ◌∷◌, length, take, drop, slice_index, ap, sym, ◌∙◌, arith, length-drop}
use Rattle.std.proofs.Math.Seq.{drop-nil}
use Rattle.std.proofs.lemmas.List.{take_all, length-take-le}
use Rattle.tablecheck.specs.Lines.{IsLine}

-- one byte gone, where there is one
one-gone : (b : List ℕ) (m : ℕ) → m ≡ min (length b) 1 → drop m b ≡ drop 1 b
one-gone [] m e = drop-nil m
one-gone (x ∷ xs) m e = let one : m ≡ 1 = omega (arith, e) in ap (λ k. drop k (x ∷ xs)) one

-- a text cut at its first byte 10, or at its end, and that byte gone from what follows
pub cut-line : (t a b : List ℕ) (to m : ℕ) → a ≡ take to t → b ≡ drop to t → to ≤ length t
    → ((k : ℕ) → 0 ≤ k → k < to → slice_index t k ≢ 10) → (to < length t → slice_index t to ≡ 10) → m ≡ min (length b) 1
    → IsLine t a (take (length b - m) (drop m b))
cut-line t a b to m front back le before ends small =
    let n : length a ≡ to = ap length front ∙ length-take-le to t le in
    record {
      bytes = front ∙ ap (λ k. take k t) (sym n);
      before = λ k h. before k (omega arith) (omega (arith, n, h));
      ends = λ h. ap (λ k. slice_index t k) n ∙ ends (omega (arith, n, h));
      after = take_all (length b - m) (drop m b) (omega (arith, length-drop m b)) ∙ (one-gone b m small ∙ ap (drop 1) (back ∙ ap (λ k. drop k t) (sym n)));
    }
