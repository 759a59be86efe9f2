-- Lists of copies, seat by seat: what hearing, setting and searching them gives.
use Rattle.std.proofs.Common.{◌≡◌, ℕ, zero, suc, ◌+◌, ◌<◌, Bool, true, false, cond, not, ◌&&◌, ◌≢◌, List, [], ◌∷◌, length, get_or, set, Some, None, Option, sym, refl, ap, ◌∙◌, subst, add-zero, add-suc, suc-add, arith}
use Rattle.std.proofs.lemmas.Bool.{or_parts, not-true}
use Rattle.std.proofs.lemmas.List.{get_or-set_other}
use Rattle.protocol.specs.declared.state.State.{State}
use Rattle.protocol.specs.declared.state.State.TheVariants.{Invalid}
use Rattle.protocol.specs.States.{valid, owned}
use Rattle.rules.specs.Columns.{Copy, kept, none, state_at, words_at, some, alone, owner_from, owner_of, supplied, one, holders}
use Rattle.rules.specs.Transactions.{hear}
use Rattle.rules.specs.Machines.{lost_in}

-- a kept copy that is valid has the words
pub kept-words : (s : State) (w : List ℕ) → valid s ≡ true → (kept s w).words ≡ w
kept-words s w e = rw e refl

-- no seat has the attribute, from the search, and the search, from no seat
pub some-none : (p : State → Bool) (xs : List Copy) → p Invalid ≡ false → some p xs ≡ false → (i : ℕ) → p (state_at xs i) ≡ false
some-none p [] e h i = e
some-none p (x ∷ xs) e h zero = (or_parts (p x.state) (some p xs) h).0
some-none p (x ∷ xs) e h (suc i) = some-none p xs e (or_parts (p x.state) (some p xs) h).1 i

-- at alone, no other seat holds the line
pub alone-others : (r : ℕ) (xs : List Copy) → alone r xs ≡ true → (i : ℕ) → i ≢ r → valid (state_at xs i) ≡ false
alone-others r xs e i ne =
    subst (λ (x : Copy). valid x.state ≡ false) (get_or-set_other xs r i none none ne)
    (some-none valid (set xs r none) refl (not-true (some valid (set xs r none)) e) i)

-- the seats after hearing
pub hear-at :
    (h : ℕ → State → State) (w : List ℕ → List ℕ) → ((k : ℕ) → h k Invalid ≡ Invalid) → (k : ℕ) (xs : List Copy) (i : ℕ)
    → get_or (hear h w k xs) i none ≡ kept (h (k + i) (state_at xs i)) (w (words_at xs i))
hear-at h w z k [] i = rw (z (k + i)) refl
hear-at h w z k (x ∷ xs) zero = rw (add-zero k) refl
hear-at h w z k (x ∷ xs) (suc i) =
    hear-at h w z (suc k) xs i ∙ ap (λ (j : ℕ). kept (h j (state_at xs i)) (w (words_at xs i))) (suc-add k i ∙ sym (add-suc k i))

pub length-hear : (h : ℕ → State → State) (w : List ℕ → List ℕ) (k : ℕ) (xs : List Copy) → length (hear h w k xs) ≡ length xs
length-hear h w k [] = refl
length-hear h w k (x ∷ xs) = ap suc (length-hear h w (suc k) xs)

-- no owner at the first seat, none later
none-later : (x : Copy) (xs : List Copy) → owned x.state ≡ false → ((i : ℕ) → owned (state_at xs i) ≡ false) → (i : ℕ) → owned (state_at (x ∷ xs) i) ≡ false
none-later x xs e f zero = e
none-later x xs e f (suc i) = f i

-- the words supplied: an owner's if there is one, memory's if there is none
pub supplied-is :
    (xs : List Copy) (home truth : List ℕ) → ((i : ℕ) → owned (state_at xs i) ≡ true → words_at xs i ≡ truth)
    → (((i : ℕ) → owned (state_at xs i) ≡ false) → home ≡ truth) → supplied xs home ≡ truth
supplied-is [] home truth h s = s (λ i. refl)
supplied-is (x ∷ xs) home truth h s =
    elim (owned x.state) as (λ b. owned x.state ≡ b → cond b x.words (supplied xs home) ≡ truth) [
      | true ↦ λ e. h 0 e
      | false ↦ λ e. supplied-is xs home truth (λ i. h (suc i)) (λ n. s (none-later x xs e n))
    ] refl

-- the owner that the search from k finds is one, and none is found only where there is none
abbrev pub Found : ℕ → List Copy → Option ℕ → Type 0
Found k xs None = (i : ℕ) → owned (state_at xs i) ≡ false
Found k xs (Some j) = (i : ℕ) × ((j ≡ k + i) × (i < length xs) × (owned (state_at xs i) ≡ true))

found-later : (k : ℕ) (x : Copy) (xs : List Copy) → owned x.state ≡ false → (o : Option ℕ) → Found (suc k) xs o → Found k (x ∷ xs) o
found-later k x xs e None f = none-later x xs e f
found-later k x xs e (Some j) (i, (p, l, q)) = (suc i, (p ∙ suc-add k i ∙ sym (add-suc k i), omega arith, q))

pub found : (k : ℕ) (xs : List Copy) → Found k xs (owner_from k xs)
found k [] = λ i. refl
found k (x ∷ xs) =
    elim (owned x.state) as (λ b. owned x.state ≡ b → Found k (x ∷ xs) (cond b (Some k) (owner_from (suc k) xs))) [
      | true ↦ λ e. (0, (sym (add-zero k), omega arith, e))
      | false ↦ λ e. found-later k x xs e (owner_from (suc k) xs) (found (suc k) xs)
    ] refl

-- the owner that is found
pub owner_owns : (xs : List Copy) (o : Option ℕ) → owner_of xs ≡ o → Found 0 xs o
owner_owns xs o e = subst (Found 0 xs) e (found 0 xs)

-- counting
pub holders-lost : (xs ys : List Copy) → length xs ≡ length ys → holders ys + lost_in xs ys ≡ holders xs + lost_in ys xs
holders-lost [] [] e = refl
holders-lost [] (y ∷ ys) e = absurd (omega arith)
holders-lost (x ∷ xs) [] e = absurd (omega arith)
holders-lost (x ∷ xs) (y ∷ ys) e =
    elim (valid x.state) as (λ a. one (valid y.state) + holders ys + (one (a && not (valid y.state)) + lost_in xs ys) ≡ one a + holders xs + (one (valid y.state && not a) + lost_in ys xs)) [
      | true ↦
          elim (valid y.state) as (λ b. one b + holders ys + (one (not b) + lost_in xs ys) ≡ 1 + holders xs + (one (b && false) + lost_in ys xs))
          [ true ↦ omega (arith, holders-lost xs ys (omega arith)) | false ↦ omega (arith, holders-lost xs ys (omega arith)) ]
      | false ↦
          elim (valid y.state) as (λ b. one b + holders ys + (0 + lost_in xs ys) ≡ 0 + holders xs + (one (b && true) + lost_in ys xs))
          [ true ↦ omega (arith, holders-lost xs ys (omega arith)) | false ↦ omega (arith, holders-lost xs ys (omega arith)) ]
    ]

-- no seat gains a copy: none lost backwards
pub none-gained : (xs ys : List Copy) → length xs ≡ length ys → ((i : ℕ) → valid (state_at ys i) ≡ true → valid (state_at xs i) ≡ true) → lost_in ys xs ≡ 0
none-gained xs [] e h = refl
none-gained [] (y ∷ ys) e h = absurd (omega arith)
none-gained (x ∷ xs) (y ∷ ys) e h =
    elim (valid y.state) as (λ b. valid y.state ≡ b → one (b && not (valid x.state)) + lost_in ys xs ≡ 0) [
      | true ↦ λ t. rw (h 0 t) (omega (arith, none-gained xs ys (omega arith) (λ i. h (suc i))))
      | false ↦ λ t. omega (arith, none-gained xs ys (omega arith) (λ i. h (suc i)))
    ] refl

-- holders as one copy is set
pub holders-set : (xs : List Copy) (r : ℕ) (y : Copy) → r < length xs → holders (set xs r y) + one (valid (state_at xs r)) ≡ holders xs + one (valid y.state)
holders-set [] r y l = absurd (omega arith)
holders-set (x ∷ xs) zero y l = omega arith
holders-set (x ∷ xs) (suc r) y l = omega (arith, holders-set xs r y (omega arith))
