-- Texts written one behind another.
use Rattle.std.proofs.Common.{◌≡◌, ℕ, List, ◌++◌, ap, ◌∙◌, append_assoc}

-- one text behind another
pub behind : {before after : List ℕ} (out xs ys : List ℕ) → before ≡ out ++ xs → after ≡ before ++ ys → after ≡ out ++ (xs ++ ys)
behind out xs ys p q = q ∙ (ap (λ b. b ++ ys) p ∙ append_assoc out xs ys)
