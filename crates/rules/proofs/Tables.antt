-- Facts over all states and over the law's sets, each by a test that computes.
--
-- agree    two seats may stand so at one line
-- below    a state has no attribute that the other lacks
use Rattle.std.proofs.Common.{◌≡◌, ℕ, Bool, true, false, not, ◌&&◌, ◌||◌, eqb, List, [], ◌∷◌, codes, sym, refl, ap, subst, ⊎_elim}
use Rattle.std.proofs.lemmas.Bool.{eqb-true, and_parts, or_cases, not-true, false≢true}
use Rattle.protocol.specs.declared.state.State.{State}
use Rattle.protocol.specs.declared.state.State.TheVariants.{Invalid, Shared, Exclusive, Owned, Modified}
use Rattle.protocol.specs.States.{valid, exclusive, owned, state_of}
use Rattle.protocol.specs.Cells.{among, Lawful}
use Rattle.rules.specs.Transactions.{Protocol, heard_rs, heard_up, heard_tu, after_rs, after_up, after_tu, after_ti, is_o}

-- two seats may stand so at one line
abbrev pub agree : State → State → Bool
agree a b = not (valid a && (valid b && (exclusive a || (exclusive b || (owned a && owned b)))))

-- if the first then the second
abbrev pub imp : Bool → Bool → Bool
imp a b = not a || b

-- a state has no attribute that the other lacks
abbrev pub below : State → State → Bool
below a b = imp (valid a) (valid b) && (imp (exclusive a) (exclusive b) && imp (owned a) (owned b))

-- the test passes at each state
abbrev pub at_each : (State → Bool) → Bool
at_each p = p Invalid && (p Shared && (p Exclusive && (p Owned && p Modified)))

module _ (p : State → Bool) (t : at_each p ≡ true) where
  rest1 : (p Shared && (p Exclusive && (p Owned && p Modified))) ≡ true
  rest1 = (and_parts (p Invalid) (p Shared && (p Exclusive && (p Owned && p Modified))) t).1

  rest2 : (p Exclusive && (p Owned && p Modified)) ≡ true
  rest2 = (and_parts (p Shared) (p Exclusive && (p Owned && p Modified)) rest1).1

  rest3 : (p Owned && p Modified) ≡ true
  rest3 = (and_parts (p Exclusive) (p Owned && p Modified) rest2).1

  pub each : (s : State) → p s ≡ true
  each Invalid = (and_parts (p Invalid) (p Shared && (p Exclusive && (p Owned && p Modified))) t).0
  each Shared = (and_parts (p Shared) (p Exclusive && (p Owned && p Modified)) rest1).0
  each Exclusive = (and_parts (p Exclusive) (p Owned && p Modified) rest2).0
  each Owned = (and_parts (p Owned) (p Modified) rest3).0
  each Modified = (and_parts (p Owned) (p Modified) rest3).1

pub each2 : (p : State → State → Bool) → at_each (λ a. at_each (p a)) ≡ true → (a b : State) → p a b ≡ true
each2 p t a b = each (p a) (each (λ x. at_each (p x)) t a) b

pub each4 : (p : State → State → State → State → Bool) → at_each (λ a. at_each (λ b. at_each (λ c. at_each (p a b c)))) ≡ true → (a b c d : State) → p a b c d ≡ true
each4 p t a b c d = each2 (p a b) (each2 (λ x y. at_each (λ c. at_each (p x y c))) t a b) c d

-- if the first then the second, and the first
pub then : (a b : Bool) → imp a b ≡ true → a ≡ true → b ≡ true
then true b t e = t
then false b t e = absurd (false≢true e)

-- the test passes at each number of a list
abbrev pub all_of : (ℕ → Bool) → List ℕ → Bool
all_of p [] = true
all_of p (y ∷ ys) = p y && all_of p ys

pub within : (p : ℕ → Bool) (x : ℕ) (ys : List ℕ) → among x ys ≡ true → all_of p ys ≡ true → p x ≡ true
within p x [] m t = absurd (false≢true m)
within p x (y ∷ ys) m t =
    ⊎_elim (λ e. subst (λ (z : ℕ). p z ≡ true) (sym (eqb-true x y e)) (and_parts (p y) (all_of p ys) t).0)
    (λ e. within p x ys e (and_parts (p y) (all_of p ys) t).1)
    (or_cases (eqb x y) (among x ys) m)

pub agree-below : (a b c d : State) → below a b ≡ true → below c d ≡ true → agree b d ≡ true → agree a c ≡ true
agree-below a b c d p q e =
    then (agree b d) (agree a c)
    (then (below c d) (imp (agree b d) (agree a c))
    (then (below a b) (imp (below c d) (imp (agree b d) (agree a c)))
    (each4 (λ a b c d. imp (below a b) (imp (below c d) (imp (agree b d) (agree a c)))) refl a b c d) p) q) e

pub agree-sym : (a b : State) → agree a b ≡ true → agree b a ≡ true
agree-sym a b e = then (agree a b) (agree b a) (each2 (λ a b. imp (agree a b) (agree b a)) refl a b) e

pub below-valid : (a b : State) → below a b ≡ true → valid a ≡ true → valid b ≡ true
below-valid a b p e = then (valid a) (valid b) (then (below a b) (imp (valid a) (valid b)) (each2 (λ a b. imp (below a b) (imp (valid a) (valid b))) refl a b) p) e

pub below-owned : (a b : State) → below a b ≡ true → owned a ≡ true → owned b ≡ true
below-owned a b p e = then (owned a) (owned b) (then (below a b) (imp (owned a) (owned b)) (each2 (λ a b. imp (below a b) (imp (owned a) (owned b))) refl a b) p) e

pub below_self : (a : State) → below a a ≡ true
below_self a = each (λ a. below a a) refl a

pub agree-unheld : (a b : State) → valid b ≡ false → agree a b ≡ true
agree-unheld a b e = then (not (valid b)) (agree a b) (each2 (λ a b. imp (not (valid b)) (agree a b)) refl a b) (ap not e)

pub agree-exclusive : (a b : State) → exclusive a ≡ true → agree a b ≡ true → agree Modified b ≡ true
agree-exclusive a b x e =
    then (agree a b) (agree Modified b)
    (then (exclusive a) (imp (agree a b) (agree Modified b)) (each2 (λ a b. imp (exclusive a) (imp (agree a b) (agree Modified b))) refl a b) x) e

pub lone : (a b : State) → exclusive a ≡ true → agree a b ≡ true → valid b ≡ false
lone a b x e =
    not-true (valid b)
    (then (agree a b) (not (valid b))
    (then (exclusive a) (imp (agree a b) (not (valid b))) (each2 (λ a b. imp (exclusive a) (imp (agree a b) (not (valid b)))) refl a b) x) e)

pub both_own : (a b : State) → owned a ≡ true → owned b ≡ true → agree a b ≡ false
both_own a b x y =
    not-true (agree a b)
    (then (owned b) (not (agree a b))
    (then (owned a) (imp (owned b) (not (agree a b))) (each2 (λ a b. imp (owned a) (imp (owned b) (not (agree a b)))) refl a b) x) y)

pub owned-valid : (a : State) → owned a ≡ true → valid a ≡ true
owned-valid a e = then (owned a) (valid a) (each (λ a. imp (owned a) (valid a)) refl a) e

pub unheld-unowned : (a : State) → valid a ≡ false → owned a ≡ false
unheld-unowned a e = not-true (owned a) (then (not (valid a)) (not (owned a)) (each (λ a. imp (not (valid a)) (not (owned a))) refl a) (ap not e))

pub is_o-owned : (a : State) → is_o a ≡ true → owned a ≡ true
is_o-owned a e = then (is_o a) (owned a) (each (λ a. imp (is_o a) (owned a)) refl a) e

pub exclusive-valid : (a : State) → exclusive a ≡ true → valid a ≡ true
exclusive-valid a e = then (exclusive a) (valid a) (each (λ a. imp (exclusive a) (valid a)) refl a) e

pub unowned-is_o : (a : State) → owned a ≡ false → is_o a ≡ false
unowned-is_o a e = not-true (is_o a) (then (not (owned a)) (not (is_o a)) (each (λ a. imp (not (owned a)) (not (is_o a))) refl a) (ap not e))

pub unheld : (a : State) → valid a ≡ false → a ≡ Invalid
unheld Invalid e = refl
unheld Shared e = absurd (false≢true (sym e))
unheld Exclusive e = absurd (false≢true (sym e))
unheld Owned e = absurd (false≢true (sym e))
unheld Modified e = absurd (false≢true (sym e))

-- what the law says of the states that the cells name
module _ (cell : Protocol) (law : Lawful cell) where
  pub below-rs : (k : ℕ) (s : State) → below (heard_rs (cell k) s) s ≡ true
  below-rs k Invalid = refl
  below-rs k Shared = within (λ b. below (state_of b) Shared) (cell k 9) (codes "IS") (law k 9) refl
  below-rs k Exclusive = within (λ b. below (state_of b) Exclusive) (cell k 10) (codes "IS") (law k 10) refl
  below-rs k Owned = within (λ b. below (state_of b) Owned) (cell k 11) (codes "ISO") (law k 11) refl
  below-rs k Modified = within (λ b. below (state_of b) Modified) (cell k 12) (codes "ISO") (law k 12) refl

  pub agree-rs : (k : ℕ) (s : State) → agree Shared (heard_rs (cell k) s) ≡ true
  agree-rs k Invalid = refl
  agree-rs k Shared = within (λ b. agree Shared (state_of b)) (cell k 9) (codes "IS") (law k 9) refl
  agree-rs k Exclusive = within (λ b. agree Shared (state_of b)) (cell k 10) (codes "IS") (law k 10) refl
  agree-rs k Owned = within (λ b. agree Shared (state_of b)) (cell k 11) (codes "ISO") (law k 11) refl
  agree-rs k Modified = within (λ b. agree Shared (state_of b)) (cell k 12) (codes "ISO") (law k 12) refl

  pub valid-rs : (r : ℕ) (lone : Bool) → valid (after_rs (cell r) lone) ≡ true
  valid-rs r true = within (λ b. valid (state_of b)) (cell r 3) (codes "SE") (law r 3) refl
  valid-rs r false = refl

  pub owned-rs : (r : ℕ) (lone : Bool) → owned (after_rs (cell r) lone) ≡ false
  owned-rs r true = not-true _ (within (λ b. not (owned (state_of b))) (cell r 3) (codes "SE") (law r 3) refl)
  owned-rs r false = refl

  pub below-up : (k : ℕ) (s : State) → below (heard_up (cell k) s) s ≡ true
  below-up k Invalid = refl
  below-up k Shared = within (λ b. below (state_of b) Shared) (cell k 13) (codes "IS") (law k 13) refl
  below-up k Exclusive = within (λ b. below (state_of b) Exclusive) (cell k 13) (codes "IS") (law k 13) refl
  below-up k Owned = within (λ b. below (state_of b) Owned) (cell k 14) (codes "IS") (law k 14) refl
  below-up k Modified = within (λ b. below (state_of b) Modified) (cell k 14) (codes "IS") (law k 14) refl

  pub agree-up : (k : ℕ) (s : State) → agree Owned (heard_up (cell k) s) ≡ true
  agree-up k Invalid = refl
  agree-up k Shared = within (λ b. agree Owned (state_of b)) (cell k 13) (codes "IS") (law k 13) refl
  agree-up k Exclusive = within (λ b. agree Owned (state_of b)) (cell k 13) (codes "IS") (law k 13) refl
  agree-up k Owned = within (λ b. agree Owned (state_of b)) (cell k 14) (codes "IS") (law k 14) refl
  agree-up k Modified = within (λ b. agree Owned (state_of b)) (cell k 14) (codes "IS") (law k 14) refl

  pub owned-up : (r : ℕ) (lone : Bool) → owned (after_up (cell r) lone) ≡ true
  owned-up r true = within (λ b. owned (state_of b)) (cell r 4) (codes "OM") (law r 4) refl
  owned-up r false = refl

  pub below-tu : (k : ℕ) (s : State) → below (heard_tu (cell k) s) s ≡ true
  below-tu k Invalid = refl
  below-tu k Shared = within (λ b. below (state_of b) Shared) (cell k 15) (codes "IS") (law k 15) refl
  below-tu k Exclusive = within (λ b. below (state_of b) Exclusive) (cell k 15) (codes "IS") (law k 15) refl
  below-tu k Owned = refl
  below-tu k Modified = refl

  shared-tu : (k : ℕ) (s : State) → agree Shared (heard_tu (cell k) s) ≡ true
  shared-tu k Invalid = refl
  shared-tu k Shared = within (λ b. agree Shared (state_of b)) (cell k 15) (codes "IS") (law k 15) refl
  shared-tu k Exclusive = within (λ b. agree Shared (state_of b)) (cell k 15) (codes "IS") (law k 15) refl
  shared-tu k Owned = refl
  shared-tu k Modified = refl

  lone-tu : (k : ℕ) (s : State) → agree Owned s ≡ true → agree Owned (heard_tu (cell k) s) ≡ true
  lone-tu k Invalid e = refl
  lone-tu k Shared e = within (λ b. agree Owned (state_of b)) (cell k 15) (codes "IS") (law k 15) refl
  lone-tu k Exclusive e = within (λ b. agree Owned (state_of b)) (cell k 15) (codes "IS") (law k 15) refl
  lone-tu k Owned e = absurd (false≢true e)
  lone-tu k Modified e = absurd (false≢true e)

  -- what hears TU is Shared or Invalid, or the owner
  pub agree-tu : (r k : ℕ) (a s : State) → agree a s ≡ true → agree (after_tu (cell r) false a) (heard_tu (cell k) s) ≡ true
  agree-tu r k Invalid s e = refl
  agree-tu r k Shared s e = shared-tu k s
  agree-tu r k Exclusive s e = shared-tu k s
  agree-tu r k Owned s e = lone-tu k s e
  agree-tu r k Modified s e = lone-tu k s (agree-below Owned Modified s s refl (below_self s) e)

  pub owned-tu : (r : ℕ) (lone : Bool) (a : State) → owned (after_tu (cell r) lone a) ≡ owned a
  owned-tu r lone Invalid = refl
  owned-tu r true Shared = not-true _ (within (λ b. not (owned (state_of b))) (cell r 5) (codes "SE") (law r 5) refl)
  owned-tu r true Exclusive = not-true _ (within (λ b. not (owned (state_of b))) (cell r 5) (codes "SE") (law r 5) refl)
  owned-tu r true Owned = within (λ b. owned (state_of b)) (cell r 6) (codes "OM") (law r 6) refl
  owned-tu r true Modified = within (λ b. owned (state_of b)) (cell r 6) (codes "OM") (law r 6) refl
  owned-tu r false Shared = refl
  owned-tu r false Exclusive = refl
  owned-tu r false Owned = refl
  owned-tu r false Modified = refl

  pub owned-heard_tu : (k : ℕ) (s : State) → owned (heard_tu (cell k) s) ≡ owned s
  owned-heard_tu k Invalid = refl
  owned-heard_tu k Shared = not-true _ (within (λ b. not (owned (state_of b))) (cell k 15) (codes "IS") (law k 15) refl)
  owned-heard_tu k Exclusive = not-true _ (within (λ b. not (owned (state_of b))) (cell k 15) (codes "IS") (law k 15) refl)
  owned-heard_tu k Owned = refl
  owned-heard_tu k Modified = refl

  pub valid-tu : (r : ℕ) (lone : Bool) (a : State) → valid (after_tu (cell r) lone a) ≡ valid a
  valid-tu r lone Invalid = refl
  valid-tu r true Shared = within (λ b. valid (state_of b)) (cell r 5) (codes "SE") (law r 5) refl
  valid-tu r true Exclusive = within (λ b. valid (state_of b)) (cell r 5) (codes "SE") (law r 5) refl
  valid-tu r true Owned = within (λ b. valid (state_of b)) (cell r 6) (codes "OM") (law r 6) refl
  valid-tu r true Modified = within (λ b. valid (state_of b)) (cell r 6) (codes "OM") (law r 6) refl
  valid-tu r false Shared = refl
  valid-tu r false Exclusive = refl
  valid-tu r false Owned = refl
  valid-tu r false Modified = refl

  pub owned-ti : (r : ℕ) (a : State) → owned (after_ti (cell r) a) ≡ owned a
  owned-ti r Invalid = refl
  owned-ti r Shared = not-true _ (within (λ b. not (owned (state_of b))) (cell r 7) (codes "SE") (law r 7) refl)
  owned-ti r Exclusive = not-true _ (within (λ b. not (owned (state_of b))) (cell r 7) (codes "SE") (law r 7) refl)
  owned-ti r Owned = within (λ b. owned (state_of b)) (cell r 8) (codes "OM") (law r 8) refl
  owned-ti r Modified = within (λ b. owned (state_of b)) (cell r 8) (codes "OM") (law r 8) refl

  pub valid-ti : (r : ℕ) (a : State) → valid (after_ti (cell r) a) ≡ valid a
  valid-ti r Invalid = refl
  valid-ti r Shared = within (λ b. valid (state_of b)) (cell r 7) (codes "SE") (law r 7) refl
  valid-ti r Exclusive = within (λ b. valid (state_of b)) (cell r 7) (codes "SE") (law r 7) refl
  valid-ti r Owned = within (λ b. valid (state_of b)) (cell r 8) (codes "OM") (law r 8) refl
  valid-ti r Modified = within (λ b. valid (state_of b)) (cell r 8) (codes "OM") (law r 8) refl
