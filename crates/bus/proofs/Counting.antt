-- Copies lost and seats alone: what a change of the requester's own copy leaves of them.
use Rattle.std.proofs.Common.{◌≡◌, ℕ, zero, suc, ◌+◌, Bool, true, false, not, ◌&&◌, List, [], ◌∷◌, set, refl, ap, arith, set-set}
use Rattle.protocol.specs.States.{valid}
use Rattle.rules.specs.Columns.{Copy, none, one, some, alone}
use Rattle.rules.specs.Machines.{lost_in, lost}

not-and : (b : Bool) → (b && not b) ≡ false
not-and true = refl
not-and false = refl

lost_in-self : (xs : List Copy) → lost_in xs xs ≡ 0
lost_in-self [] = refl
lost_in-self (x ∷ xs) = omega (arith, ap one (not-and (valid x.state)), lost_in-self xs)

-- a copy that stays is not lost
pub lost-self : (r : ℕ) (xs : List Copy) → lost r xs xs ≡ 0
lost-self r [] = refl
lost-self zero (x ∷ xs) = omega (arith, lost_in-self xs)
lost-self (suc r) (x ∷ xs) = omega (arith, ap one (not-and (valid x.state)), lost-self r xs)

-- the requester's own copy is never lost
pub lost-own : (r : ℕ) (xs ys : List Copy) (y : Copy) → lost r xs (set ys r y) ≡ lost r xs ys
lost-own zero [] ys y = refl
lost-own (suc r) [] ys y = refl
lost-own zero (x ∷ xs) [] y = refl
lost-own zero (x ∷ xs) (z ∷ ys) y = refl
lost-own (suc r) (x ∷ xs) [] y = refl
lost-own (suc r) (x ∷ xs) (z ∷ ys) y = ap (λ n. one (valid x.state && not (valid z.state)) + n) (lost-own r xs ys y)

-- nor does it count for whether the seat is alone
pub alone-own : (r : ℕ) (xs : List Copy) (x : Copy) → alone r (set xs r x) ≡ alone r xs
alone-own r xs x = ap (λ (ys : List Copy). not (some valid ys)) (set-set xs r x none)

pub not-not : (b : Bool) → not (not b) ≡ b
not-not true = refl
not-not false = refl
