-- The states of a line as a table has them.
use Rattle.std.specs.Array.{IsFromFnResultFrom, IsFromFnResult}
use denote.Param.Members.{Mut, Called}
use Rattle.std.proofs.Common.{◌≡◌, ℕ, zero, suc, ◌+◌, ◌<◌, ◌≤◌, List, [], ◌∷◌, map, length, get_or, take, refl, ap, ◌∙◌, subst, arith, add-zero, zero-add}
use Rattle.protocol.specs.declared.state.State.{State}
use Rattle.protocol.specs.declared.state.State.TheVariants.{Invalid}
use Rattle.rules.specs.Columns.{Copy, state_at}

-- a table that has each copy's state at its place begins with the states of the copies
pub states-are :
    (xs : List Copy) (ys : List State) → length xs ≤ length ys → ((k : ℕ) → k < length xs → get_or ys k Invalid ≡ state_at xs k)
    → take (length xs) ys ≡ map (λ x. x.state) xs
states-are [] ys h f = refl
states-are (x ∷ xs) [] h f = absurd (omega arith)
states-are (x ∷ xs) (y ∷ ys) h f =
    let e : y ≡ x.state = f 0 (omega arith) in
    let r = states-are xs ys (omega arith) (λ k b. f (suc k) (omega arith)) in
    ap (λ (z : State). z ∷ take (length xs) ys) e ∙ ap (λ (zs : List State). x.state ∷ zs) r

-- a table made by a call for each place, where a call leaves in place what it answers by
module _ {F B : Type 0} (g : Mut F (ℕ × Unit {0}) B) (Holds : F → Type 0) (v : ℕ → B)
    (step : (f q : F) (i : ℕ) (y : B) → Holds f → Called g f (i, tt) y q → (y ≡ v i) × Holds q) where
  made-from : (n i : ℕ) (f : F) (ys : List B) (d : B) → Holds f → IsFromFnResultFrom g f ys i n → (k : ℕ) → k < n → get_or ys (i + k) d ≡ v (i + k)
  made-from zero i f ys d h m k l = absurd (omega arith)
  made-from (suc n) i f ys d h m zero l = rw add-zero (m.2.1 d ∙ (step f m.0 i m.1 h m.3).0)
  made-from (suc n) i f ys d h m (suc k) l =
      let r = made-from n (i + 1) m.0 ys d (step f m.0 i m.1 h m.3).1 m.4 k (omega arith) in
      let e : i + 1 + k ≡ i + suc k = omega arith in
      subst (λ (x : ℕ). get_or ys x d ≡ v x) e r

  -- each place has what its call answered
  pub made-at : {f : F} {ys : List B} {n : ℕ} (d : B) → Holds f → IsFromFnResult g f ys n → (k : ℕ) → k < n → get_or ys k d ≡ v k
  made-at {f} {ys} {n} d h m k l = subst (λ (x : ℕ). get_or ys x d ≡ v x) (zero-add k) (made-from n 0 f ys d h m.each k l)
