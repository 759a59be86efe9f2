-- A search over the seats: the first owner, and whether some seat holds the line.
--
-- Tests   a test of the seats from k on agrees with an attribute of the copies
-- test    a seat's copy has the attribute, and the seat is not the requester
use Rattle.std.proofs.Common.{◌≡◌, ℕ, suc, ◌+◌, ◌<◌, Bool, false, eqb, cond, not, ◌&&◌, ◌||◌, ◌≢◌, List, [], ◌∷◌, length, set, Some, sym, refl, ap, ◌∙◌, ⊎_elim, zero-add, add-one, arith}
use Rattle.std.specs.List.{find, list_any, range_with_len}
use Rattle.std.proofs.Math.Bool.{not-not}
use Rattle.std.proofs.lemmas.Bool.{cases_eq, eq-eqb, ne_eqb}
use Rattle.std.proofs.lemmas.List.{length-set, length-map, get_or-set_other}
use Rattle.protocol.specs.declared.state.State.{State}
use Rattle.protocol.specs.States.{valid, owned}
use Rattle.rules.specs.Columns.{Copy, none, some, alone, owner_from, owner_of, state_at}
use Rattle.rules.specs.Caches.{Cache, look}
use Rattle.rules.specs.Machines.{copies_of}
use Rattle.caches.specs.declared.table.Caches.{Caches}
use Rattle.caches.specs.Views.{caches_of}
use Rattle.caches.proofs.Places.{caches-long}
use Rattle.caches.proofs.Sweeps.{own-none}

module _ (t : ℕ → Bool) where
  abbrev Tests : (State → Bool) → ℕ → List Copy → Type 0
  Tests p k xs = (i j : ℕ) → i < length xs → j ≡ k + i → t j ≡ p (state_at xs i)

  find-owner : (k : ℕ) (xs : List Copy) → Tests owned k xs → find t (range_with_len k (length xs)) ≡ owner_from k xs
  find-owner k [] h = refl
  find-owner k (x ∷ xs) h =
      ap (λ (b : Bool). cond b (Some k) (find t (range_with_len (k + 1) (length xs)))) (h 0 k (omega arith) (omega arith))
      ∙ ap (cond (owned x.state) (Some k))
      (find-owner (k + 1) xs (λ i j l e. h (suc i) j (omega arith) (omega arith)) ∙ ap (λ (m : ℕ). owner_from m xs) (add-one k))

  any-holds : (k : ℕ) (xs : List Copy) → Tests valid k xs → list_any t (range_with_len k (length xs)) ≡ some valid xs
  any-holds k [] h = refl
  any-holds k (x ∷ xs) h =
      ap (λ (b : Bool). b || list_any t (range_with_len (k + 1) (length xs))) (h 0 k (omega arith) (omega arith))
      ∙ ap (λ (b : Bool). valid x.state || b) (any-holds (k + 1) xs (λ i j l e. h (suc i) j (omega arith) (omega arith)))

module _ (s : Caches) (r n : ℕ) where
  abbrev pub test : (State → Bool) → ℕ → Bool
  test p k = not (eqb k r) && p (state_at (copies_of n (caches_of s)) k)

  -- the copies of all seats but the requester
  abbrev others : List Copy
  others = set (copies_of n (caches_of s)) r none

  others-long : length others ≡ s.agreed.seats
  others-long = length-set (copies_of n (caches_of s)) r none ∙ length-map (caches_of s) (λ (c : Cache). look c n) ∙ caches-long s

  test-others : (p : State → Bool) → p none.state ≡ false → (k : ℕ) → test p k ≡ p (state_at others k)
  test-others p e k =
      ⊎_elim
      (λ (same : k ≡ r).
      ap (λ (b : Bool). not b && p (state_at (copies_of n (caches_of s)) k)) (eq-eqb k r same)
      ∙ sym (ap (λ (j : ℕ). p (state_at others j)) same ∙ ap (λ (x : Copy). p x.state) (own-none (copies_of n (caches_of s)) r) ∙ e))
      (λ (other : k ≢ r).
      ap (λ (b : Bool). not b && p (state_at (copies_of n (caches_of s)) k)) (ne_eqb k r other)
      ∙ ap (λ (x : Copy). p x.state) (sym (get_or-set_other (copies_of n (caches_of s)) r k none none other)))
      (cases_eq k r)

  tests : (p : State → Bool) → p none.state ≡ false → Tests (test p) p 0 others
  tests p e i j l at = ap (test p) (at ∙ zero-add i) ∙ test-others p e i

  pub first-owner : find (test owned) (range_with_len 0 s.agreed.seats) ≡ owner_of others
  first-owner = ap (λ (m : ℕ). find (test owned) (range_with_len 0 m)) (sym others-long) ∙ find-owner (test owned) 0 others (tests owned refl)

  pub some-other : list_any (test valid) (range_with_len 0 s.agreed.seats) ≡ not (alone r (copies_of n (caches_of s)))
  some-other =
      ap (λ (m : ℕ). list_any (test valid) (range_with_len 0 m)) (sym others-long) ∙ any-holds (test valid) 0 others (tests valid refl)
      ∙ sym (not-not (some valid others))
