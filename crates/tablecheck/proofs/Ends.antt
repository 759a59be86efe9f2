-- The bytes of a text behind a place.
use Rattle.std.proofs.Common.{◌≡◌, ℕ, ◌+◌, ◌-◌, ◌<◌, ◌≤◌, List, Option, None, Some, length, get_or, drop, take, ap, ◌∙◌, refl, arith, length-drop}
use Rattle.std.specs.List.{AllWithin, HoldsAt}
use Rattle.std.specs.Option.{MatchOption}
use Rattle.std.proofs.lemmas.List.{get_or-drop, take_all}

-- where none of the first n bytes behind a place is a 10, none of those bytes of the text is
pub none-among : (xs rest : List ℕ) (from n k : ℕ) → rest ≡ take (length xs - from) (drop from xs) → AllWithin (λ b. b ≡ 10 → ⊥) rest 0 n
    → from ≤ k → k < from + n → get_or xs k 0 ≡ 10 → ⊥
none-among xs rest from n k r h lo hi e =
    h (k - from) 0 (omega arith) (omega arith)
    (ap (λ l. get_or l (k - from) 0) (r ∙ take_all (length xs - from) (drop from xs) (omega (arith, length-drop from xs)))
    ∙ (get_or-drop from xs (k - from) 0 ∙ (ap (λ i. get_or xs i 0) (omega arith) ∙ e)))

-- where a place is that of the first 10 behind a place, or the end of the text, no byte between is a 10
pub none-before : (xs rest : List ℕ) (from to : ℕ) (r : Option ℕ) (Yes : ℕ → Type 0) → rest ≡ take (length xs - from) (drop from xs) → from ≤ length xs
    → MatchOption r (AllWithin (λ b. b ≡ 10 → ⊥) rest 0 (length rest)) (λ i. (i < length rest) × HoldsAt Yes rest i × AllWithin (λ b. b ≡ 10 → ⊥) rest 0 i)
    → (r ≡ None → to ≡ length xs) → ((i : ℕ) → r ≡ Some i → to ≡ from + i)
    → (k : ℕ) → from ≤ k → k < to → get_or xs k 0 ≡ 10 → ⊥
none-before xs rest from to None Yes cut le first last found k lo hi =
    let all = ap length (cut ∙ take_all (length xs - from) (drop from xs) (omega (arith, length-drop from xs))) in
    none-among xs rest from (length rest) k cut first lo (omega (arith, all, length-drop from xs, last refl, le, hi))
none-before xs rest from to (Some i) Yes cut le first last found k lo hi = none-among xs rest from i k cut first.2 lo (omega (arith, found i refl, hi))
