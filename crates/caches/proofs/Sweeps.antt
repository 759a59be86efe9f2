-- What a requester is told, seat by seat: the answer that grows with each seat says of all of them what the rules say.
--
-- sweep      the answer after the seats from k on have reacted, of their copies before and after
-- owner_in   the first owner from seat k on, and what it supplies
use Rattle.std.proofs.Common.{◌≡◌, ℕ, zero, suc, ◌+◌, ◌≤◌, Bool, true, false, cond, not, ◌&&◌, ◌||◌, ◌≢◌, List, [], ◌∷◌, ◌++◌, length, get_or, set, is_some, Some, None, Option, sym, refl, ap, ◌∙◌, add-zero, add_assoc, zero-add, add-one, arith}
use Rattle.std.specs.Option.{option_map, option_map_or, option_or}
use Rattle.std.proofs.Math.Bool.{or-false, not-not}
use Rattle.std.proofs.lemmas.Bool.{both_ways}
use Rattle.std.proofs.lemmas.List.{get_or_at, get_or-set_other, append_assoc, length_push, length-set}
use Rattle.protocol.specs.declared.state.State.{State}
use Rattle.protocol.specs.declared.state.State.TheVariants.{Invalid}
use Rattle.protocol.specs.States.{valid, owned}
use Rattle.rules.specs.Columns.{Copy, none, some, owner_from, owner_of, supplied, state_at, one}
use Rattle.rules.specs.Transactions.{is_o, leaves_o}
use Rattle.rules.specs.Machines.{lost_in}
use Rattle.rules.proofs.Seats.{owner_owns}
use Rattle.caches.specs.declared.heeded.Heeded.{Heeded}
use Rattle.caches.specs.declared.heeded.Owner.{Owner}
use Rattle.caches.specs.Heeding.{Heeds, unheeded, noted}

-- the answer after the seats from k on
abbrev pub sweep : ℕ → Heeded → List Copy → List Copy → Heeded
sweep k a [] ys = a
sweep k a (x ∷ xs) [] = a
sweep k a (x ∷ xs) (y ∷ ys) = sweep (suc k) (noted k x y.state a) xs ys

-- the first owner from seat k on, and what it supplies: of the copies before and after
abbrev pub owner_in : ℕ → List Copy → List Copy → Option Owner
owner_in k [] ys = None
owner_in k (x ∷ xs) [] = None
owner_in k (x ∷ xs) (y ∷ ys) = cond (owned x.state) (Some (record { seat = k; words = x.words; reflected = not (is_o y.state) })) (owner_in (suc k) xs ys)

owner-step : (t : Bool) (o p : Option Owner) (w : Owner) → option_or (cond (t && not (is_some o)) (Some w) o) p ≡ option_or o (cond t (Some w) p)
owner-step true None p w = refl
owner-step true (Some v) p w = refl
owner-step false None p w = refl
owner-step false (Some v) p w = refl

sweep-owner : (k : ℕ) (a : Heeded) (xs ys : List Copy) → length xs ≡ length ys → (sweep k a xs ys).owner ≡ option_or a.owner (owner_in k xs ys)
sweep-owner k a [] ys e = sym (or-none a.owner)
  where
    or-none : (o : Option Owner) → option_or o None ≡ o
    or-none None = refl
    or-none (Some v) = refl
sweep-owner k a (x ∷ xs) [] e = absurd (omega arith)
sweep-owner k a (x ∷ xs) (y ∷ ys) e =
    sweep-owner (suc k) (noted k x y.state a) xs ys (omega arith)
    ∙ owner-step (owned x.state) a.owner (owner_in (suc k) xs ys) (record { seat = k; words = x.words; reflected = not (is_o y.state) })

-- its seat, its words, and whether it does not end in Owned, by the number of its seat
seat-in : (k : ℕ) (xs ys : List Copy) → length xs ≡ length ys → option_map (λ (o : Owner). o.seat) (owner_in k xs ys) ≡ owner_from k xs
seat-in k [] ys e = refl
seat-in k (x ∷ xs) [] e = absurd (omega arith)
seat-in k (x ∷ xs) (y ∷ ys) e =
    elim (owned x.state) as
    (λ b. option_map (λ (o : Owner). o.seat) (cond b (Some (record { seat = k; words = x.words; reflected = not (is_o y.state) })) (owner_in (suc k) xs ys)) ≡ cond b (Some k) (owner_from (suc k) xs)) [
      | true ↦ refl
      | false ↦ seat-in (suc k) xs ys (omega arith)
    ]

words-in : (k : ℕ) (xs ys : List Copy) (home : List ℕ) → length xs ≡ length ys → option_map_or (λ (o : Owner). o.words) (owner_in k xs ys) home ≡ supplied xs home
words-in k [] ys home e = refl
words-in k (x ∷ xs) [] home e = absurd (omega arith)
words-in k (x ∷ xs) (y ∷ ys) home e =
    elim (owned x.state) as
    (λ b. option_map_or (λ (o : Owner). o.words) (cond b (Some (record { seat = k; words = x.words; reflected = not (is_o y.state) })) (owner_in (suc k) xs ys)) home ≡ cond b x.words (supplied xs home)) [
      | true ↦ refl
      | false ↦ words-in (suc k) xs ys home (omega arith)
    ]

leaves-in : (before xs ys : List Copy) → length xs ≡ length ys →
    option_map_or (λ (o : Owner). o.reflected) (owner_in (length before) xs ys) false ≡ leaves_o (owner_from (length before) xs) (before ++ ys)
leaves-in before [] ys e = refl
leaves-in before (x ∷ xs) [] e = absurd (omega arith)
leaves-in before (x ∷ xs) (y ∷ ys) e =
    elim (owned x.state) as
    (λ b. option_map_or (λ (o : Owner). o.reflected) (cond b (Some (record { seat = length before; words = x.words; reflected = not (is_o y.state) })) (owner_in (suc (length before)) xs ys)) false ≡ leaves_o (cond b (Some (length before)) (owner_from (suc (length before)) xs)) (before ++ (y ∷ ys))) [
      | true ↦ ap (λ (z : Copy). not (is_o z.state)) (sym (get_or_at before y ys none (length before) refl))
      | false ↦
          ap (λ (m : ℕ). option_map_or (λ (o : Owner). o.reflected) (owner_in m xs ys) false) (sym (length_push before y ∙ add-one (length before)))
          ∙ leaves-in (before ++ y ∷ []) xs ys (omega arith)
          ∙ ap (λ (m : ℕ). leaves_o (owner_from m xs) ((before ++ y ∷ []) ++ ys)) (length_push before y ∙ add-one (length before))
          ∙ ap (leaves_o (owner_from (suc (length before)) xs)) (append_assoc before (y ∷ []) ys)
    ]

-- the requester's own copy is left out
pub own-none : (xs : List Copy) (r : ℕ) → get_or (set xs r none) r none ≡ none
own-none [] r = refl
own-none (x ∷ xs) zero = refl
own-none (x ∷ xs) (suc r) = own-none xs r

leaves-same : (xs ys : List Copy) (r : ℕ) (o : Option ℕ) → owner_of (set xs r none) ≡ o → leaves_o o (set ys r none) ≡ leaves_o o ys
leaves-same xs ys r None e = refl
leaves-same xs ys r (Some j) e =
    let f = owner_owns (set xs r none) (Some j) e in
    let at : j ≡ f.0 = f.1.0 ∙ zero-add f.0 in
    let other : j ≢ r =
    λ same. both_ways (owned (state_at (set xs r none) f.0))
    (ap (λ (i : ℕ). owned (state_at (set xs r none) i)) (sym at ∙ same) ∙ ap (λ (x : Copy). owned x.state) (own-none xs r)) f.1.2
    in
    ap (λ (x : Copy). not (is_o x.state)) (get_or-set_other ys r j none none other)

or_step : (s t q : Bool) → ((s || t) || q) ≡ (t || (s || q))
or_step true true q = refl
or_step true false q = refl
or_step false true q = refl
or_step false false q = refl

sweep-shared : (k : ℕ) (a : Heeded) (xs ys : List Copy) → length xs ≡ length ys → (sweep k a xs ys).shared ≡ (a.shared || some valid ys)
sweep-shared k a [] [] e = sym (or-false a.shared)
sweep-shared k a [] (y ∷ ys) e = absurd (omega arith)
sweep-shared k a (x ∷ xs) [] e = absurd (omega arith)
sweep-shared k a (x ∷ xs) (y ∷ ys) e =
    sweep-shared (suc k) (noted k x y.state a) xs ys (omega arith) ∙ or_step (valid y.state) a.shared (some valid ys)

sweep-lost : (k : ℕ) (a : Heeded) (xs ys : List Copy) → length xs ≡ length ys → (sweep k a xs ys).lost ≡ a.lost + lost_in xs ys
sweep-lost k a [] ys e = sym (add-zero a.lost)
sweep-lost k a (x ∷ xs) [] e = absurd (omega arith)
sweep-lost k a (x ∷ xs) (y ∷ ys) e =
    sweep-lost (suc k) (noted k x y.state a) xs ys (omega arith)
    ∙ add_assoc a.lost (one (valid x.state && not (valid y.state))) (lost_in xs ys)

lost-own : (xs ys : List Copy) (r : ℕ) → lost_in (set xs r none) (set ys r none) ≡ lost_in (set xs r none) ys
lost-own [] ys r = refl
lost-own (x ∷ xs) [] r = refl
lost-own (x ∷ xs) (y ∷ ys) zero = refl
lost-own (x ∷ xs) (y ∷ ys) (suc r) = ap (λ (m : ℕ). one (valid x.state && not (valid y.state)) + m) (lost-own xs ys r)

-- the whole sweep is what the requester is to be told
pub heeds : (r : ℕ) (xs ys : List Copy) (a : Heeded) → length xs ≡ length ys → a ≡ sweep 0 unheeded (set xs r none) (set ys r none) → a.lost ≤ 8 → Heeds r xs ys a
heeds r xs ys a e is few =
    let us = set xs r none in
    let vs = set ys r none in
    let long : length us ≡ length vs = length-set xs r none ∙ e ∙ sym (length-set ys r none) in
    let owner : a.owner ≡ owner_in 0 us vs = ap (λ (b : Heeded). b.owner) is ∙ sweep-owner 0 unheeded us vs long in
    record {
      owner = ap (option_map (λ (o : Owner). o.seat)) owner ∙ seat-in 0 us vs long;
      words = λ home. sym (ap (λ (p : Option Owner). option_map_or (λ (o : Owner). o.words) p home) owner ∙ words-in 0 us vs home long);
      reflected = ap (λ (p : Option Owner). option_map_or (λ (o : Owner). o.reflected) p false) owner ∙ leaves-in [] us vs long ∙ leaves-same xs ys r (owner_of us) refl;
      shared = ap (λ (b : Heeded). b.shared) is ∙ sweep-shared 0 unheeded us vs long ∙ sym (not-not (some valid vs));
      gone = ap (λ (b : Heeded). b.lost) is ∙ sweep-lost 0 unheeded us vs long ∙ zero-add (lost_in us vs) ∙ lost-own xs ys r;
      few = few;
    }

-- a seat that has no copy is noted by nothing
pub noted-none : (k : ℕ) (a : Heeded) → noted k none Invalid a ≡ a
noted-none k a =
    ap (λ (m : ℕ). record { owner = a.owner; shared = a.shared; lost = m }) (add-zero a.lost)

one-most : (b : Bool) → one b ≤ 1
one-most true = omega arith
one-most false = omega arith

pub noted-few : (k : ℕ) (x : Copy) (s : State) (a : Heeded) (m : ℕ) → a.lost ≤ m → (noted k x s a).lost ≤ m + 1
noted-few k x s a m h = let o = one-most (valid x.state && not (valid s)) in omega arith
