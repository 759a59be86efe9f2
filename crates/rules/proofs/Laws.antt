-- The laws of whole calls.
--
-- Fair     a record's write back is by an owner of the beginning, and its supplier is one, or memory where there was none
-- Honest   all that was told so far is fair, and every owner owned at the beginning
use Rattle.std.proofs.Common.{◌≡◌, ℕ, ◌+◌, ◌/◌, ◌%◌, ◌<◌, ◌≤◌, Bool, true, false, cond, ◌≢◌, List, [], ◌∷◌, ◌++◌, map, length, get_or, set, Some, None, Option, sym, refl, ap, ◌∙◌, subst, ⊎_elim, zero-add, arith}
use Rattle.std.specs.List.{AllByRecursion}
use Rattle.std.proofs.ByRecursion.{All-push, All-weaker}
use Rattle.std.proofs.lemmas.List.{get_or-set_same, get_or-set_other, map-set}
use Rattle.std.proofs.lemmas.Bool.{cases_eq, both_ways, false≢true}
use Rattle.refusal.specs.Refusals.{Told}
use Rattle.protocol.specs.declared.state.State.{State}
use Rattle.protocol.specs.declared.state.State.TheVariants.{Invalid, Shared, Exclusive, Owned, Modified}
use Rattle.protocol.specs.declared.transaction.Transaction.{Transaction}
use Rattle.protocol.specs.declared.transaction.Transaction.TheVariants.{ReadShared, ReadInvalidate, Invalidate, Update, ThroughUpdate, ThroughInvalidate, WriteBack}
use Rattle.protocol.specs.States.{valid, owned}
use Rattle.protocol.specs.Cells.{Lawful}
use Rattle.protocol.specs.Transactions.{digit_transaction}
use Rattle.rules.specs.declared.call.Call.{Call}
use Rattle.rules.specs.declared.call.Call.TheVariants.{Read, Write, Flush, Settle}
use Rattle.rules.specs.declared.record.Record.{Record}
use Rattle.rules.specs.Columns.{Copy, none, Column, state_at, one, alone, supplied, owner_of}
use Rattle.rules.specs.Transactions.{Protocol, hear, heard_rs, after_rs, same, read_shared, read_invalidate, invalidate, update, through_update, through_invalidate, write_back, silent, dropped}
use Rattle.rules.specs.Caches.{Cache, look, room, victim, put}
use Rattle.rules.specs.Machines.{Machine, column, copies_of, holds, record_of, change, transact, supplier_of, owner_or_memory}
use Rattle.rules.specs.Accesses.{state_in, written_back_if, let_go, emptied_if, emptied, flushed_if, flushed, filled, fetched_if, fetched, owner_writes_back, saved_from, through, sent_by, written_at, written_held, missed_by, written_if, written, settled}
use Rattle.rules.specs.Systems.{System, Outcome, Closing, state_on, at_work, places_needed, due_in, reached, ended, outcome_if, outcome, after, closed}
use Rattle.rules.specs.Ledgers.{Ledger}
use Rattle.rules.specs.Coherence.{Sizes, addresses}
use Rattle.rules.specs.Laws.{displaced_if, displaced, ByOwner, moves, MovedBy, BySupplier, transactions_of, BusLaws}
use Rattle.rules.proofs.Tables.{below-owned, below-rs, owned-rs, unheld-unowned}
use Rattle.rules.proofs.Seats.{Found, owner_owns}
use Rattle.rules.proofs.Lines.{Turned, by-hearing}
use Rattle.rules.proofs.Sets.{tidy}
use Rattle.rules.proofs.Caches.{Wf, look-put-same, look-put_other, victim-line, victim-other}
use Rattle.rules.proofs.Machines.{column-at, put_each-same, tidy-state_at}
use Rattle.rules.proofs.Steps.{Good, transact-line, transact-other, on-column, seat-order, let_go-good, Emptied, emptied-good, other_goes}
use Rattle.rules.proofs.Accesses.{shared-moved, filled-good, fetched-good}
use Rattle.rules.proofs.Settling.{settled-clear}
use Rattle.rules.proofs.Calls.{InStep, line_of, access-on, in_step}
use Rattle.rules.proofs.Tallying.{reflections-told, transactions-level, reflected-level, fills-level, reads-level, writes-level, hits-level}
use Rattle.rules.proofs.Counts.{made, transact-made, fetched-made, written-made, flushed-made}

-- a refused call
refused-if : (width : ℕ) (s : System) (call : Call) (x : Told) (o : Option Told) → o ≡ Some x → outcome_if width o call s ≡ record { system = s; records = []; answer = 0 }
refused-if width s call x None e = let q : ◌≡◌ {A = ℕ} 0 1 = cc in absurd (omega arith)
refused-if width s call x (Some y) e = refl

refused-call : (width : ℕ) (s : System) (call : Call) (x : Told) → due_in width s call ≡ Some x → outcome width call s ≡ record { system = s; records = []; answer = 0 }
unfolding outcome
refused-call width s call x e = refused-if width s call x (due_in width s call) e

-- at most four records
four-if : (width : ℕ) (s : System) (call : Call) (o : Option Told) → length (outcome_if width o call s).records ≤ places_needed
four-if width s call (Some x) = omega arith
four-if width s (Read seat address places) None = omega (arith, fetched-made s.cell seat (address / width) (at_work s))
four-if width s (Write seat address value places) None = omega (arith, written-made s.cell seat (address / width) (address % width) value (at_work s))
four-if width s (Flush seat address places) None = omega (arith, flushed-made seat (address / width) (at_work s))
four-if width s Settle None = omega arith

four-at-most : (width : ℕ) (s : System) (call : Call) → length (outcome width call s).records ≤ places_needed
unfolding outcome
four-at-most width s call = four-if width s call (due_in width s call)

-- lists of calls in turn
in_turn_lem : (width : ℕ) (xs ys : List Call) (s : System) → after width (xs ++ ys) s ≡ after width ys (after width xs s)
in_turn_lem width [] ys s = refl
in_turn_lem width (x ∷ xs) ys s = in_turn_lem width xs ys (outcome width x s).system

-- an answered call
answered-outcome : (width : ℕ) (s : System) (call : Call) → due_in width s call ≡ None → outcome width call s ≡ ended width call s (reached width call s)
unfolding outcome
answered-outcome width s call e = ap (λ (o : Option Told). outcome_if width o call s) e

-- what emptying leaves of the caches
module _ (z : Sizes) (truth : List (List ℕ)) (n r : ℕ) (on : r < z.seats) (m : Machine) (ok : Good z truth m) where
  emptied-caches_if : (b : Bool) → room (get_or m.caches r []) n ≡ b
      → (emptied_if b r n m).caches ≡ cond b m.caches (set m.caches r (put (victim (get_or m.caches r []) n) (get_or m.caches r []) none))
  emptied-caches_if true e = refl
  emptied-caches_if false e = (let_go-good z truth (victim (get_or m.caches r []) n) (victim-line z.lines z.sets (get_or m.caches r []) (seat-order ok r on) n e) r on m ok).caches

  emptied-caches : (emptied r n m).caches ≡ cond (room (get_or m.caches r []) n) m.caches (set m.caches r (put (victim (get_or m.caches r []) n) (get_or m.caches r []) none))
  unfolding emptied
  emptied-caches = emptied-caches_if (room (get_or m.caches r []) n) refl

-- a read and the other lines
module _ (z : Sizes) (cell : Protocol) (law : Lawful cell) (n : ℕ) (there : n < z.lines) (r : ℕ) (on : r < z.seats) (truth : List (List ℕ)) (m : Machine) (ok : Good z truth m) where
  filled-other : holds r n m ≡ false → (j : ℕ) → j ≢ n → copies_of j (filled cell r n m).caches ≡ copies_of j (emptied r n m).caches
  filled-other miss j ne =
      let e = emptied-good z truth n r on m ok in
      transact-other z truth (emptied r n m) e.good n there r on (read_shared cell r) true (get_or truth n [])
      (shared-moved z cell law n there r on truth m ok miss (emptied r n m) e) (λ _. e.free) (e.good.sound.widths n there) ReadShared j ne

  others-if : (b c : Bool) → holds r n m ≡ b → room (get_or m.caches r []) n ≡ c → (j : ℕ) → j ≢ n → displaced_if b c (victim (get_or m.caches r []) n) ≢ Some j → copies_of j (fetched_if b cell r n m).caches ≡ copies_of j m.caches
  others-if true c p q j ne d = refl
  others-if false true p q j ne d =
      filled-other p j ne ∙ ap (copies_of j) (emptied-caches z truth n r on m ok ∙ ap (λ (b : Bool). cond b m.caches (set m.caches r (put (victim (get_or m.caches r []) n) (get_or m.caches r []) none))) q)
  others-if false false p q j ne d =
      filled-other p j ne ∙ ap (copies_of j) (emptied-caches z truth n r on m ok ∙ ap (λ (b : Bool). cond b m.caches (set m.caches r (put (victim (get_or m.caches r []) n) (get_or m.caches r []) none))) q)
      ∙ other_goes z.lines z.sets m.caches r (victim (get_or m.caches r []) n) j ok.sound.order (λ e. d (ap Some (sym e)))

  fetched-others : (j : ℕ) → j ≢ n → displaced_if (holds r n m) (room (get_or m.caches r []) n) (victim (get_or m.caches r []) n) ≢ Some j → copies_of j (fetched cell r n m).caches ≡ copies_of j m.caches
  unfolding fetched
  fetched-others j ne d = others-if (holds r n m) (room (get_or m.caches r []) n) refl refl j ne d

  -- of the line that goes, the seat's own copy
  goes-own : (v : ℕ) → copies_of v (set m.caches r (put v (get_or m.caches r []) none)) ≡ set (copies_of v m.caches) r none
  goes-own v =
      map-set (λ c. look c v) m.caches r (put v (get_or m.caches r []) none)
      ∙ ap (set (copies_of v m.caches) r) (look-put-same z.lines z.sets (get_or m.caches r []) (seat-order ok r on) v none (λ e. absurd (false≢true e)))

  displaces-if : (b c : Bool) → holds r n m ≡ b → room (get_or m.caches r []) n ≡ c → (j : ℕ) → displaced_if b c (victim (get_or m.caches r []) n) ≡ Some j → copies_of j (fetched_if b cell r n m).caches ≡ set (copies_of j m.caches) r none
  displaces-if true c p q j d = let w : ◌≡◌ {A = ℕ} 0 1 = cc in absurd (omega arith)
  displaces-if false true p q j d = let w : ◌≡◌ {A = ℕ} 0 1 = cc in absurd (omega arith)
  displaces-if false false p q j d =
      let v = victim (get_or m.caches r []) n in
      let e : v ≡ j = cc in
      subst (λ (i : ℕ). copies_of i (filled cell r n m).caches ≡ set (copies_of i m.caches) r none) e
      (filled-other p v (λ h. victim-other z.lines z.sets (get_or m.caches r []) (seat-order ok r on) n q (sym h))
      ∙ ap (copies_of v) (emptied-caches z truth n r on m ok ∙ ap (λ (b : Bool). cond b m.caches (set m.caches r (put v (get_or m.caches r []) none))) q)
      ∙ goes-own v
      )

  fetched-displaces : (j : ℕ) → displaced_if (holds r n m) (room (get_or m.caches r []) n) (victim (get_or m.caches r []) n) ≡ Some j → copies_of j (fetched cell r n m).caches ≡ set (copies_of j m.caches) r none
  unfolding fetched
  fetched-displaces j d = displaces-if (holds r n m) (room (get_or m.caches r []) n) refl refl j d

-- a record is fair to the beginning
abbrev Fair : System → Record → Type 0
Fair s e = ByOwner s e × BySupplier s e

-- what was told, and the owners, against the beginning
record Honest (s : System) (m : Machine) : Type 0 where
  told : AllByRecursion (Fair s) m.records
  owners : (n i : ℕ) → owned (state_at (copies_of n m.caches) i) ≡ true → owned (state_on s n i) ≡ true

-- a transaction that is no write back
other-told :
    (s : System) (t : Transaction) (r n : ℕ) (f : Column → Column) (m : Machine) → t ≢ WriteBack → MovedBy s t n (supplier_of t (copies_of n m.caches))
    → AllByRecursion (Fair s) m.records → AllByRecursion (Fair s) (transact t r n f m).records
unfolding transact
other-told s t r n f m ne by h = All-push (Fair s) m.records (record_of t r n (column m n) (f (column m n))) h ((λ e. absurd (ne e)), by)

-- the supplier of a line whose copies are as they were
supplier_fair : (s : System) (n : ℕ) (xs : List Copy) → xs ≡ copies_of n s.caches → (t : Transaction) → moves t ≡ true → (o : Option ℕ) → Found 0 xs o → MovedBy s t n (owner_or_memory o)
supplier_fair s n xs e t moving None f = (moving, λ i. subst (λ (ys : List Copy). owned (state_at ys i) ≡ false) e (f i))
supplier_fair s n xs e t moving (Some k) (i, (p, l, q)) = (moving, subst (λ (ys : List Copy). owned (state_at ys k) ≡ true) e (subst (λ (j : ℕ). owned (state_at xs j) ≡ true) (sym (p ∙ zero-add i)) q))

-- a write back by an owner
back-honest : (s : System) (r n : ℕ) (m : Machine) → owned (state_in r n m) ≡ true → Honest s m → Honest s (transact WriteBack r n (write_back r) m)
unfolding transact write_back
back-honest s r n m e h = record {
  told = All-push (Fair s) m.records (record_of WriteBack r n (column m n) (write_back r (column m n))) h.told ((λ _. h.owners n r e), refl);
  owners = λ j i q. h.owners j i (subst (λ (cs : List Cache). owned (state_at (copies_of j cs) i) ≡ true) (put_each-same n m.caches) q);
}

change-told : (n : ℕ) (f : Column → Column) (m : Machine) → (change n f m).records ≡ m.records
unfolding change
change-told n f m = refl

-- owners as a seat's copy goes
drop-owned : (lines sets : ℕ) (c : Cache) → Wf lines sets c → (n j : ℕ) → owned (look (put n c none) j).state ≡ true → owned (look c j).state ≡ true
drop-owned lines sets c w n j e =
    ⊎_elim
    (λ p. absurd (both_ways (owned (look (put n c none) j).state)
    (ap (λ (i : ℕ). owned (look (put n c none) i).state) p ∙ ap (λ (x : Copy). owned x.state) (look-put-same lines sets c w n none (λ e. absurd (false≢true e)))) e))
    (λ p. ap (λ (x : Copy). owned x.state) (sym (look-put_other lines sets c w n none j p)) ∙ e)
    (cases_eq j n)

module _ (z : Sizes) (truth : List (List ℕ)) (r : ℕ) (on : r < z.seats) (s : System) where
  set-owned : (m : Machine) → Good z truth m → (n j i : ℕ)
      → owned (state_at (copies_of j (set m.caches r (put n (get_or m.caches r []) none))) i) ≡ true → owned (state_at (copies_of j m.caches) i) ≡ true
  set-owned m ok n j i e =
      let cs = set m.caches r (put n (get_or m.caches r []) none) in
      let h : owned (look (get_or cs i []) j).state ≡ true = ap (λ (x : Copy). owned x.state) (sym (column-at j cs i)) ∙ e in
      ap (λ (x : Copy). owned x.state) (column-at j m.caches i)
      ∙ ⊎_elim
      (λ p. ap (λ (k : ℕ). owned (look (get_or m.caches k []) j).state) p
      ∙ drop-owned z.lines z.sets (get_or m.caches r []) (seat-order ok r on) n j
      (subst (λ (c : Cache). owned (look c j).state ≡ true)
      (get_or-set_same m.caches r (put n (get_or m.caches r []) none) [] (subst (λ (k : ℕ). r < k) (sym ok.sound.seated) on))
      (subst (λ (k : ℕ). owned (look (get_or cs k []) j).state ≡ true) p h)))
      (λ p. subst (λ (c : Cache). owned (look c j).state ≡ true) (get_or-set_other m.caches r i (put n (get_or m.caches r []) none) [] p) h)
      (cases_eq i r)

  -- a copy let go
  back-if-told : (n : ℕ) (m : Machine) (b : Bool) → owned (state_in r n m) ≡ b → Honest s m → AllByRecursion (Fair s) (written_back_if b r n m).records
  back-if-told n m true e h = (back-honest s r n m e h).told
  back-if-told n m false e h = h.told

  let_go-told : (n : ℕ) (m : Machine) → Honest s m → AllByRecursion (Fair s) (let_go r n m).records
  unfolding let_go
  let_go-told n m h = subst (AllByRecursion (Fair s)) (sym (change-told n (dropped r) (written_back_if (owned (state_in r n m)) r n m))) (back-if-told n m (owned (state_in r n m)) refl h)

  let_go-honest : (n : ℕ) → n < z.lines → (m : Machine) → Good z truth m → Honest s m → Honest s (let_go r n m)
  let_go-honest n there m ok h = record {
    told = let_go-told n m h;
    owners = λ j i e. h.owners j i (set-owned m ok n j i (subst (λ (cs : List Cache). owned (state_at (copies_of j cs) i) ≡ true) (let_go-good z truth n there r on m ok).caches e));
  }

  emptied-if-honest : (n : ℕ) (m : Machine) → Good z truth m → (b : Bool) → room (get_or m.caches r []) n ≡ b → Honest s m → Honest s (emptied_if b r n m)
  emptied-if-honest n m ok true e h = h
  emptied-if-honest n m ok false e h =
      let g = let_go-honest (victim (get_or m.caches r []) n) (victim-line z.lines z.sets (get_or m.caches r []) (seat-order ok r on) n e) m ok h in
      record { told = g.told; owners = g.owners }

  emptied-honest : (n : ℕ) (m : Machine) → Good z truth m → Honest s m → Honest s (emptied r n m)
  unfolding emptied
  emptied-honest n m ok h = emptied-if-honest n m ok (room (get_or m.caches r []) n) refl h

  flushed-if-told : (n : ℕ) (m : Machine) (b : Bool) → Honest s m → AllByRecursion (Fair s) (flushed_if b r n m).records
  flushed-if-told n m true h = let_go-told n m h
  flushed-if-told n m false h = h.told

  flushed-told : (n : ℕ) (m : Machine) → Honest s m → AllByRecursion (Fair s) (flushed r n m).records
  unfolding flushed
  flushed-told n m h = flushed-if-told n m (holds r n m) h

-- the copies after a read shared
shared-turned : (cell : Protocol) (c : Column) (r : ℕ) → r < length c.copies
    → Turned c.copies (read_shared cell r c).copies r (λ k. heard_rs (cell k)) same
    (after_rs (cell r) (alone r (hear (λ k. heard_rs (cell k)) same 0 c.copies))) (supplied c.copies c.home)
unfolding read_shared
shared-turned cell c r on =
    by-hearing c.copies r (λ k. heard_rs (cell k)) same (after_rs (cell r) (alone r (hear (λ k. heard_rs (cell k)) same 0 c.copies))) (supplied c.copies c.home) on (λ k. refl)

shared-owned : (cell : Protocol) → Lawful cell → (c : Column) (r : ℕ) → r < length c.copies → (i : ℕ) → owned (state_at (read_shared cell r c).copies i) ≡ true → owned (state_at c.copies i) ≡ true
shared-owned cell law c r on i e =
    let t = shared-turned cell c r on in
    ⊎_elim
    (λ p. absurd (both_ways (owned (state_at (read_shared cell r c).copies i))
    (ap (λ (k : ℕ). owned (state_at (read_shared cell r c).copies k)) p ∙ ap owned t.own-state ∙ owned-rs cell law r (alone r (hear (λ k. heard_rs (cell k)) same 0 c.copies))) e))
    (λ p. below-owned (heard_rs (cell i) (state_at c.copies i)) (state_at c.copies i) (below-rs cell law i (state_at c.copies i)) (ap owned (sym (t.other-state i p)) ∙ e))
    (cases_eq i r)

module _ (z : Sizes) (cell : Protocol) (law : Lawful cell) (n : ℕ) (there : n < z.lines) (r : ℕ) (on : r < z.seats) (truth : List (List ℕ)) (s : System) where
  module _ (m : Machine) (ok : Good z truth m) (miss : holds r n m ≡ false) (begun : copies_of n m.caches ≡ copies_of n s.caches) (h : Honest s m) where
    filled-honest : Honest s (filled cell r n m)
    filled-honest = record {
      told = other-told s ReadShared r n (read_shared cell r) new (λ e. let q : ◌≡◌ {A = ℕ} 0 1 = cc in absurd (omega arith)) by g.told;
      owners = λ j i q. ⊎_elim
          (λ p. g.owners j i (subst (λ (k : ℕ). owned (state_at (copies_of k new.caches) i) ≡ true) (sym p)
          (shared-owned cell law (column new n) r (on-column e.good n r on) i
          (ap owned (sym (tidy-state_at (read_shared cell r (column new n)).copies i))
          ∙ ap (λ (c : Column). owned (state_at c.copies i)) (sym line) ∙ subst (λ (k : ℕ). owned (state_at (copies_of k (filled cell r n m).caches) i) ≡ true) p q))))
          (λ p. g.owners j i (subst (λ (xs : List Copy). owned (state_at xs i) ≡ true) (filled-other z cell law n there r on truth m ok miss j p) q))
          (cases_eq j n);
    }
      where
        new : Machine
        new = emptied r n m

        e : Emptied z truth r n m new
        e = emptied-good z truth n r on m ok

        g : Honest s new
        g = emptied-honest z truth r on s n m ok h

        by : MovedBy s ReadShared n (supplier_of ReadShared (copies_of n new.caches))
        by = supplier_fair s n (copies_of n new.caches) (e.same ∙ begun) ReadShared refl (owner_of (copies_of n new.caches)) (owner_owns (copies_of n new.caches) (owner_of (copies_of n new.caches)) refl)

        line : column (filled cell r n m) n ≡ record { copies = map tidy (read_shared cell r (column new n)).copies; home = (read_shared cell r (column new n)).home }
        line = transact-line z truth new e.good n there r on (read_shared cell r) true (get_or truth n []) (shared-moved z cell law n there r on truth m ok miss new e) (λ _. e.free) (e.good.sound.widths n there) ReadShared

  fetched-if-told : (m : Machine) → Good z truth m → copies_of n m.caches ≡ copies_of n s.caches → Honest s m → (b : Bool) → holds r n m ≡ b → AllByRecursion (Fair s) (fetched_if b cell r n m).records
  fetched-if-told m ok begun h true e = h.told
  fetched-if-told m ok begun h false e = (filled-honest m ok e begun h).told

  fetched-told : (m : Machine) → Good z truth m → copies_of n m.caches ≡ copies_of n s.caches → Honest s m → AllByRecursion (Fair s) (fetched cell r n m).records
  unfolding fetched
  fetched-told m ok begun h = fetched-if-told m ok begun h (holds r n m) refl

  module _ (o v : ℕ) where
    -- the owner in another seat owned the line
    other_owns : (m : Machine) → Good z truth m → (i : ℕ) → owned (state_at (set (copies_of n m.caches) r none) i) ≡ true → owned (state_in i n m) ≡ true
    other_owns m ok i e =
        ⊎_elim
        (λ p. absurd (both_ways (owned (state_at (set (copies_of n m.caches) r none) i))
        (ap (λ (k : ℕ). owned (state_at (set (copies_of n m.caches) r none) k)) p ∙ ap (λ (x : Copy). owned x.state) (get_or-set_same (copies_of n m.caches) r none none (on-column ok n r on))) e))
        (λ p. ap (λ (x : Copy). owned x.state) (sym (get_or-set_other (copies_of n m.caches) r i none none p)) ∙ e)
        (cases_eq i r)

    saved-told : (m : Machine) → Good z truth m → Honest s m → (w : Option ℕ) → Found 0 (set (copies_of n m.caches) r none) w → AllByRecursion (Fair s) (owner_writes_back w n m).records
    saved-told m ok h None f = h.told
    saved-told m ok h (Some k) (i, (p, l, e)) =
        (back-honest s k n m (subst (λ (j : ℕ). owned (state_in j n m) ≡ true) (sym (p ∙ zero-add i)) (other_owns m ok i e)) h).told

    through-told : (m : Machine) → Good z truth m → Honest s m → AllByRecursion (Fair s) (through cell r n o v m).records
    unfolding through saved_from
    through-told m ok h =
        let w = owner_of (set (copies_of n m.caches) r none) in
        other-told s ThroughInvalidate r n (through_invalidate cell r o v) (owner_writes_back w n m) (λ e. let q : ◌≡◌ {A = ℕ} 0 1 = cc in absurd (omega arith))
        refl (saved-told m ok h w (owner_owns (set (copies_of n m.caches) r none) w refl))

    sent-told : (m : Machine) → Good z truth m → Honest s m → (t : Option Transaction) → AllByRecursion (Fair s) (sent_by cell r n o v t m).records
    sent-told m ok h None = h.told
    sent-told m ok h (Some ReadShared) = h.told
    sent-told m ok h (Some ReadInvalidate) = h.told
    sent-told m ok h (Some Invalidate) = other-told s Invalidate r n (invalidate r o v) m (λ e. let q : ◌≡◌ {A = ℕ} 0 1 = cc in absurd (omega arith)) refl h.told
    sent-told m ok h (Some Update) = other-told s Update r n (update cell r o v) m (λ e. let q : ◌≡◌ {A = ℕ} 0 1 = cc in absurd (omega arith)) refl h.told
    sent-told m ok h (Some ThroughUpdate) = other-told s ThroughUpdate r n (through_update cell r o v) m (λ e. let q : ◌≡◌ {A = ℕ} 0 1 = cc in absurd (omega arith)) refl h.told
    sent-told m ok h (Some ThroughInvalidate) = through-told m ok h
    sent-told m ok h (Some WriteBack) = h.told

    at_told : (m : Machine) → Good z truth m → Honest s m → (t : State) → AllByRecursion (Fair s) (written_at cell r n o v t m).records
    at_told m ok h Invalid = h.told
    at_told m ok h Shared = sent-told m ok h (digit_transaction (cell r 1))
    at_told m ok h Exclusive = subst (AllByRecursion (Fair s)) (sym (change-told n (silent r o v) m)) h.told
    at_told m ok h Owned = sent-told m ok h (digit_transaction (cell r 2))
    at_told m ok h Modified = subst (AllByRecursion (Fair s)) (sym (change-told n (silent r o v) m)) h.told

    held-told : (m : Machine) → Good z truth m → Honest s m → AllByRecursion (Fair s) (written_held cell r n o v m).records
    unfolding written_held
    held-told m ok h = at_told m ok h (state_in r n m)

    missed-told : (m : Machine) → Good z truth m → holds r n m ≡ false → copies_of n m.caches ≡ copies_of n s.caches → Honest s m → (t : Option Transaction) → AllByRecursion (Fair s) (missed_by cell r n o v t m).records
    missed-told m ok miss begun h None = h.told
    missed-told m ok miss begun h (Some ReadShared) = held-told (filled cell r n m) (filled-good z cell law n there r on truth m ok miss).0 (filled-honest m ok miss begun h)
    missed-told m ok miss begun h (Some ReadInvalidate) =
        other-told s ReadInvalidate r n (read_invalidate r o v) (emptied r n m) (λ e. let q : ◌≡◌ {A = ℕ} 0 1 = cc in absurd (omega arith)) (supplier_fair s n (copies_of n (emptied r n m).caches) ((emptied-good z truth n r on m ok).same ∙ begun) ReadInvalidate refl (owner_of (copies_of n (emptied r n m).caches)) (owner_owns (copies_of n (emptied r n m).caches) (owner_of (copies_of n (emptied r n m).caches)) refl))
        (emptied-honest z truth r on s n m ok h).told
    missed-told m ok miss begun h (Some Invalidate) = h.told
    missed-told m ok miss begun h (Some Update) = h.told
    missed-told m ok miss begun h (Some ThroughUpdate) = h.told
    missed-told m ok miss begun h (Some ThroughInvalidate) = through-told m ok h
    missed-told m ok miss begun h (Some WriteBack) = h.told

    written-if-told : (m : Machine) → Good z truth m → copies_of n m.caches ≡ copies_of n s.caches → Honest s m → (b : Bool) → holds r n m ≡ b → AllByRecursion (Fair s) (written_if cell r n o v b m).records
    written-if-told m ok begun h true e = held-told m ok h
    written-if-told m ok begun h false e = missed-told m ok e begun h (digit_transaction (cell r 0))

    written-told : (m : Machine) → Good z truth m → copies_of n m.caches ≡ copies_of n s.caches → Honest s m → AllByRecursion (Fair s) (written cell r n o v m).records
    unfolding written
    written-told m ok begun h = written-if-told m ok begun h (holds r n m) refl

-- what a flush writes
back-wrote : (b : Bool) (r n : ℕ) (m : Machine) → made (written_back_if b r n m) ≡ made m + one b
back-wrote true r n m = transact-made WriteBack r n (write_back r) m
back-wrote false r n m = omega arith

flushed-if-wrote : (r n : ℕ) (m : Machine) (b : Bool) → holds r n m ≡ b → made (flushed_if b r n m) ≡ made m + one (owned (state_in r n m))
unfolding let_go
flushed-if-wrote r n m false e = omega (arith, ap one (unheld-unowned (state_in r n m) e))
flushed-if-wrote r n m true e =
    ap length (change-told n (dropped r) (written_back_if (owned (state_in r n m)) r n m)) ∙ back-wrote (owned (state_in r n m)) r n m

flushed-wrote : (r n : ℕ) (m : Machine) → made (flushed r n m) ≡ made m + one (owned (state_in r n m))
unfolding flushed
flushed-wrote r n m = flushed-if-wrote r n m (holds r n m) refl

-- each call, at a run in step with its ledger
module _ (z : Sizes) (s : System) (l : Ledger) (k : InStep z s l) where
  begin_honest : Honest s (at_work s)
  begin_honest = record { told = tt; owners = λ n i e. e }

  told-if : (call : Call) (o : Option Told) → due_in z.width s call ≡ o → AllByRecursion (Fair s) (outcome_if z.width o call s).records
  told-if call (Some x) e = tt
  told-if (Read seat address places) None e =
      let on = access-on z s l k 1 seat address places e in
      fetched-told z s.cell k.lawful (address / z.width) (line_of z k.wide address on.1) seat on.0 k.truth s (at_work s) k.good refl begin_honest
  told-if (Write seat address value places) None e =
      let on = access-on z s l k 1 seat address places e in
      written-told z s.cell k.lawful (address / z.width) (line_of z k.wide address on.1) seat on.0 k.truth s (address % z.width) value (at_work s) k.good refl begin_honest
  told-if (Flush seat address places) None e =
      let on = access-on z s l k 1 seat address places e in
      flushed-told z k.truth seat on.0 s (address / z.width) (at_work s) begin_honest
  told-if Settle None e = tt

  told-fair : (call : Call) → AllByRecursion (Fair s) (outcome z.width call s).records
  unfolding outcome
  told-fair call = told-if call (due_in z.width s call) refl

  owners-write : (call : Call) → AllByRecursion (ByOwner s) (outcome z.width call s).records
  owners-write call = All-weaker (Fair s) (ByOwner s) (λ e h. h.0) (outcome z.width call s).records (told-fair call)

  owners-supply : (call : Call) → AllByRecursion (BySupplier s) (outcome z.width call s).records
  owners-supply call = All-weaker (Fair s) (BySupplier s) (λ e h. h.1) (outcome z.width call s).records (told-fair call)

  module _ (seat address places : ℕ) (e : due_in z.width s (Read seat address places) ≡ None) where
    read_on : (seat < z.seats) × (address < addresses z)
    read_on = access-on z s l k 1 seat address places e

    read-holds : valid (state_on (outcome z.width (Read seat address places) s).system (address / z.width) seat) ≡ true
    read-holds =
        subst (λ (u : Outcome). valid (state_on u.system (address / z.width) seat) ≡ true) (sym (answered-outcome z.width s (Read seat address places) e))
        (fetched-good z s.cell k.lawful (address / z.width) (line_of z k.wide address read_on.1) seat read_on.0 k.truth (at_work s) k.good).1

    read-others : (n : ℕ) → n ≢ address / z.width → displaced s seat (address / z.width) ≢ Some n → copies_of n (outcome z.width (Read seat address places) s).system.caches ≡ copies_of n s.caches
    read-others n ne d =
        ap (λ (u : Outcome). copies_of n u.system.caches) (answered-outcome z.width s (Read seat address places) e)
        ∙ fetched-others z s.cell k.lawful (address / z.width) (line_of z k.wide address read_on.1) seat read_on.0 k.truth (at_work s) k.good n ne d

    read-displaces : (n : ℕ) → displaced s seat (address / z.width) ≡ Some n → copies_of n (outcome z.width (Read seat address places) s).system.caches ≡ set (copies_of n s.caches) seat none
    read-displaces n d =
        ap (λ (u : Outcome). copies_of n u.system.caches) (answered-outcome z.width s (Read seat address places) e)
        ∙ fetched-displaces z s.cell k.lawful (address / z.width) (line_of z k.wide address read_on.1) seat read_on.0 k.truth (at_work s) k.good n d

  flush-writes : (seat address places : ℕ) → due_in z.width s (Flush seat address places) ≡ None → (outcome z.width (Flush seat address places) s).answer ≡ one (owned (state_on s (address / z.width) seat))
  flush-writes seat address places e =
      ap (λ (u : Outcome). u.answer) (answered-outcome z.width s (Flush seat address places) e)
      ∙ flushed-wrote seat (address / z.width) (at_work s) ∙ zero-add (one (owned (state_on s (address / z.width) seat)))

  settle-leaves : due_in z.width s Settle ≡ None → (n seat : ℕ) → valid (state_on (outcome z.width Settle s).system n seat) ≡ false
  settle-leaves e n seat =
      subst (λ (u : Outcome). valid (state_on u.system n seat) ≡ false) (sym (answered-outcome z.width s Settle e))
      (ap (λ (x : Copy). valid x.state) (column-at n (settled (at_work s)).caches seat) ∙ settled-clear z k.truth (at_work s) k.good seat n)

-- what is given of an outcome at closing
abbrev given : Outcome → Closing
given u = record { memory = u.system.memory; tally = u.system.tally; lines = u.answer }

-- closing is a settle
closing-settles : (width : ℕ) (s : System) → due_in width s Settle ≡ None → closed s ≡ record { memory = (outcome width Settle s).system.memory; tally = (outcome width Settle s).system.tally; lines = (outcome width Settle s).answer }
unfolding closed
closing-settles width s e =
    ap given (sym (answered-outcome width s Settle e))

pub laws_hold : BusLaws
laws_hold = record {
  refused = refused-call;
  four = four-at-most;
  in_turn = in_turn_lem;
  reader = λ z s l since. read-holds z s l (in_step since);
  others = λ z s l since. read-others z s l (in_step since);
  displaces = λ z s l since. read-displaces z s l (in_step since);
  owners = λ z s l since. owners-write z s l (in_step since);
  suppliers = λ z s l since. owners-supply z s l (in_step since);
  flushes = λ z s l since. flush-writes z s l (in_step since);
  settles = λ z s l since. settle-leaves z s l (in_step since);
  reflections = reflections-told;
  counts = λ width s call e. ap (λ (u : Outcome). transactions_of u.system.tally) (answered-outcome width s call e) ∙ transactions-level width s call;
  reflects = λ width s call e. ap (λ (u : Outcome). u.system.tally.reflected) (answered-outcome width s call e) ∙ reflected-level width s call;
  fills = λ width s call e. ap (λ (u : Outcome). u.system.tally.fills) (answered-outcome width s call e) ∙ fills-level width s call;
  reads = λ width s call e. ap (λ (u : Outcome). u.system.tally.reads) (answered-outcome width s call e) ∙ reads-level width s call;
  writes = λ width s call e. ap (λ (u : Outcome). u.system.tally.writes) (answered-outcome width s call e) ∙ writes-level width s call;
  hits = λ width s call e. ap (λ (u : Outcome). u.system.tally.hits) (answered-outcome width s call e) ∙ hits-level width s call;
  closing = closing-settles;
}
