-- The rules of an access, case by case: what each is made of where its test is known.
use Rattle.std.proofs.Common.{◌≡◌, ℕ, Bool, true, false, List, [], get_or, set, Option, refl, ap, ◌∙◌}
use Rattle.protocol.specs.declared.state.State.{State}
use Rattle.protocol.specs.declared.transaction.Transaction.{Transaction}
use Rattle.protocol.specs.declared.transaction.Transaction.TheVariants.{ThroughInvalidate}
use Rattle.protocol.specs.Transactions.{digit_transaction}
use Rattle.rules.specs.Columns.{none, owner_of}
use Rattle.rules.specs.Transactions.{Protocol, through_invalidate}
use Rattle.rules.specs.Caches.{room, victim, lines_at}
use Rattle.rules.specs.Tallies.{one_displaced, one_flushed}
use Rattle.rules.specs.Machines.{Machine, column, holds, transact}
use Rattle.rules.specs.Accesses.{counting, state_in, let_go, emptied_if, emptied, flushed_if, flushed, filled, fetched_if, fetched, owner_writes_back, saved_from, through, written_at, written_held, missed_by, written_if, written, flushed_each, flushed_set}

module _ (r n : ℕ) (m : Machine) where
  pub emptied-room : room (get_or m.caches r []) n ≡ true → emptied r n m ≡ m
  unfolding emptied
  emptied-room e = ap (λ (b : Bool). emptied_if b r n m) e

  pub emptied-full : room (get_or m.caches r []) n ≡ false → emptied r n m ≡ counting one_displaced (let_go r (victim (get_or m.caches r []) n) m)
  unfolding emptied
  emptied-full e = ap (λ (b : Bool). emptied_if b r n m) e

  pub flushed-held : holds r n m ≡ true → flushed r n m ≡ counting one_flushed (let_go r n m)
  unfolding flushed
  flushed-held e = ap (λ (b : Bool). flushed_if b r n m) e

  pub flushed-absent : holds r n m ≡ false → flushed r n m ≡ m
  unfolding flushed
  flushed-absent e = ap (λ (b : Bool). flushed_if b r n m) e

  pub saved_from-owner : (o : Option ℕ) → owner_of (set (column m n).copies r none) ≡ o → saved_from r n m ≡ owner_writes_back o n m
  unfolding saved_from
  saved_from-owner o e = ap (λ (x : Option ℕ). owner_writes_back x n m) e

  pub fetched-held : (cell : Protocol) → holds r n m ≡ true → fetched cell r n m ≡ m
  unfolding fetched
  fetched-held cell e = ap (λ (b : Bool). fetched_if b cell r n m) e

  pub fetched-absent : (cell : Protocol) → holds r n m ≡ false → fetched cell r n m ≡ filled cell r n m
  unfolding fetched
  fetched-absent cell e = ap (λ (b : Bool). fetched_if b cell r n m) e

module _ (cell : Protocol) (r n o v : ℕ) (m : Machine) where
  pub through-is : through cell r n o v m ≡ transact ThroughInvalidate r n (through_invalidate cell r o v) (saved_from r n m)
  unfolding through
  through-is = refl

  pub written_held-at : (s : State) → state_in r n m ≡ s → written_held cell r n o v m ≡ written_at cell r n o v s m
  unfolding written_held
  written_held-at s e = ap (λ (x : State). written_at cell r n o v x m) e

  pub written_held_lem : holds r n m ≡ true → written cell r n o v m ≡ written_held cell r n o v m
  unfolding written
  written_held_lem e = ap (λ (b : Bool). written_if cell r n o v b m) e

  pub written-missed : (t : Option Transaction) → holds r n m ≡ false → digit_transaction (cell r 0) ≡ t → written cell r n o v m ≡ missed_by cell r n o v t m
  unfolding written
  written-missed t e d = ap (λ (b : Bool). written_if cell r n o v b m) e ∙ ap (λ (x : Option Transaction). missed_by cell r n o v x m) d

module _ (k i : ℕ) (m : Machine) where
  pub flushed_set-lines : (ns : List ℕ) → lines_at (get_or m.caches k []) i ≡ ns → flushed_set k i m ≡ flushed_each k ns m
  unfolding flushed_set
  flushed_set-lines ns e = ap (λ (xs : List ℕ). flushed_each k xs m) e
