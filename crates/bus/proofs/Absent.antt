-- A requester that does not hold the line: its place in the line seen across the bus is empty.
use Rattle.std.proofs.Common.{◌≡◌, ℕ, ◌%◌, ◌<◌, Bool, true, false, cond, not, ◌≢◌, List, [], length, get_or, set, Some, None, Option, sym, refl, ap, ◌∙◌, subst, ⊎_elim, arith, length-set, get_or-set_other, get_or-set_same}
use lib.Seq.{set-get_or}
use Rattle.std.proofs.lemmas.Bool.{both_ways, cases_eq, cases_lt}
use Rattle.std.proofs.lemmas.List.{set_past}
use Rattle.protocol.specs.States.{valid, owned}
use Rattle.rules.specs.Columns.{Copy, none, state_at, owner_of}
use Rattle.rules.specs.Transactions.{is_o, leaves_o, reflects}
use Rattle.rules.specs.Caches.{Cache, find, put_in, set_of, look, put}
use Rattle.rules.specs.Machines.{copies_of, put_each}
use Rattle.rules.proofs.Sets.{find_absent, find-held, find-put_other}
use Rattle.rules.proofs.Seats.{Found, owner_owns}
use Rattle.rules.proofs.Tables.{owned-valid}
use Rattle.rules.proofs.Machines.{column-at, put_each-one}

look_none : (c : Cache) (n : ℕ) → valid (look c n).state ≡ false → look c n ≡ none
unfolding look
look_none c n e = find_absent n (set_of c n) (sym (find-held n (set_of c n)) ∙ e)

-- a copy put leaves every other line's copy
pub look-other : (c : Cache) (n m : ℕ) (x : Copy) → m ≢ n → look (put n c x) m ≡ look c m
unfolding look put
look-other c n m x ne =
    let i = n % length c in
    let ss = put_in n x (set_of c n) in
    let same : get_or (set c i ss) i [] ≡ ss → find m (get_or (set c i ss) i []) ≡ find m (get_or c i []) = λ e. ap (find m) e ∙ find-put_other n x m ne (get_or c i []) in
    ap (λ (k : ℕ). find m (get_or (set c i ss) (m % k) [])) (length-set c i ss)
    ∙ ⊎_elim
    (λ e. rw e
    (⊎_elim (λ l. same (get_or-set_same c i ss [] l)) (λ l. ap (λ (d : Cache). find m (get_or d i [])) (set_past c i ss l)) (cases_lt i (length c))))
    (λ e. ap (find m) (get_or-set_other c i (m % length c) ss [] e))
    (cases_eq (m % length c) i)

module _ (n r : ℕ) (cs : List Cache) (absent : valid (state_at (copies_of n cs) r) ≡ false) where
  pub copy-none : get_or (copies_of n cs) r none ≡ none
  copy-none = column-at n cs r ∙ look_none (get_or cs r []) n (ap (λ (x : Copy). valid x.state) (sym (column-at n cs r)) ∙ absent)

  -- taking the requester's copy away changes nothing
  pub without : set (copies_of n cs) r none ≡ copies_of n cs
  without = ap (set (copies_of n cs) r) (sym copy-none) ∙ set-get_or (copies_of n cs) r none

module _ (xs ys : List Copy) (r : ℕ) (empty : get_or xs r none ≡ none) (x : Copy) where
  other-seat : (k : ℕ) → owned (state_at xs k) ≡ true → k ≢ r
  other-seat k e same = both_ways (owned (state_at xs k)) (ap (λ (i : ℕ). owned (state_at xs i)) same ∙ ap (λ (y : Copy). owned y.state) empty) e

  leaves-own : (o : Option ℕ) → Found 0 xs o → leaves_o o (set ys r x) ≡ leaves_o o ys
  leaves-own None f = refl
  leaves-own (Some k) (i, (p, l, q)) =
      let e : k ≡ i = omega arith in
      let ne : k ≢ r = λ same. other-seat i q (sym e ∙ same) in
      ap (λ (y : Copy). not (is_o y.state)) (get_or-set_other ys r k x none ne)

  -- whatever the requester's copy becomes, the owner is in another seat
  pub reflects-own : reflects xs (set ys r x) ≡ reflects xs ys
  reflects-own = leaves-own (owner_of xs) (owner_owns xs (owner_of xs) refl)

-- another line's copy goes, and the requester still does not hold the line
pub stays-absent : (v n r : ℕ) (cs cs' : List Cache) → cs' ≡ put_each v cs (set (copies_of v cs) r none) → valid (state_at (copies_of v cs) r) ≡ true → valid (state_at (copies_of n cs) r) ≡ false → valid (state_at (copies_of n cs') r) ≡ false
stays-absent v n r cs cs' e held absent =
    let ne : n ≢ v = λ p. both_ways (valid (state_at (copies_of n cs) r)) absent (subst (λ (k : ℕ). valid (state_at (copies_of k cs) r) ≡ true) (sym p) held) in
    let d = set cs r (put v (get_or cs r []) none) in
    let is : cs' ≡ d = e ∙ put_each-one v r cs none in
    let same : look (get_or d r []) n ≡ look (get_or cs r []) n =
    ⊎_elim
    (λ l. ap (λ (c : Cache). look c n) (get_or-set_same cs r (put v (get_or cs r []) none) [] l) ∙ look-other (get_or cs r []) v n none ne)
    (λ l. ap (λ (x : List Cache). look (get_or x r []) n) (set_past cs r (put v (get_or cs r []) none) l))
    (cases_lt r (length cs)) in
    ap (λ (x : List Cache). valid (state_at (copies_of n x) r)) is
    ∙ ap (λ (x : Copy). valid x.state) (column-at n d r ∙ same ∙ sym (column-at n cs r))
    ∙ absent

-- a look-up that finds the line in the way, or none
pub occupied : (b : Bool) (v w : ℕ) → Some w ≡ cond b None (Some v) → (b ≡ false) × (v ≡ w)
occupied true v w e = let z : ◌≡◌ {A = ℕ} 0 1 = cc in absurd (omega arith)
occupied false v w e = (refl, cc)

pub vacant : (b : Bool) (v : ℕ) → None ≡ cond b None (Some v) → b ≡ true
vacant true v e = refl
vacant false v e = let z : ◌≡◌ {A = ℕ} 0 1 = cc in absurd (omega arith)

-- an owner found in another seat is on the bus and holds the line
pub owner-there : (xs : List Copy) (r k : ℕ) → Some k ≡ owner_of (set xs r none) → (k < length xs) × (valid (state_at xs k) ≡ true)
owner-there xs r k e = owner_at xs r k (owner_owns (set xs r none) (Some k) (sym e))
  where
    owner_at : (xs : List Copy) (r k : ℕ) → Found 0 (set xs r none) (Some k) → (k < length xs) × (valid (state_at xs k) ≡ true)
    owner_at xs r k (i, (p, l, q)) =
        let is : k ≡ i = omega arith in
        let there : k < length xs = omega (arith, length-set xs r none) in
        let own : owned (state_at (set xs r none) k) ≡ true = ap (λ (j : ℕ). owned (state_at (set xs r none) j)) is ∙ q in
        let ne : k ≢ r = λ same.
        both_ways (owned (state_at (set xs r none) k))
        (ap (λ (j : ℕ). owned (state_at (set xs r none) j)) same ∙ ap (λ (y : Copy). owned y.state) (get_or-set_same xs r none none (subst (λ (j : ℕ). j < length xs) same there)))
        own in
        (there, owned-valid (state_at xs k) (ap (λ (y : Copy). owned y.state) (sym (get_or-set_other xs r k none none ne)) ∙ own))
