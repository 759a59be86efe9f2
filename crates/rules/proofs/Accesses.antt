-- Reads and writes keep the bus good; a read leaves the seat with the line, a write changes the newest words.
use Rattle.std.proofs.Common.{◌≡◌, ℕ, ◌+◌, ◌<◌, Bool, true, false, eqb, ◌⊎◌, List, [], ◌∷◌, length, get_or, set, Some, None, codes, Option, sym, refl, ap, ◌∙◌, subst, inl, inr, ⊎_elim, zero-add, arith}
use Rattle.std.proofs.lemmas.Bool.{cases_eq, both_ways, false≢true, eqb-true, or_cases}
use Rattle.std.proofs.lemmas.List.{length-set, get_or-set_same, get_or-set_other, set-get_or}
use Rattle.protocol.specs.declared.state.State.{State}
use Rattle.protocol.specs.declared.state.State.TheVariants.{Invalid, Shared, Exclusive, Owned, Modified}
use Rattle.protocol.specs.declared.transaction.Transaction.{Transaction}
use Rattle.protocol.specs.declared.transaction.Transaction.TheVariants.{ReadShared, ReadInvalidate, Invalidate, Update, ThroughUpdate, ThroughInvalidate, WriteBack}
use Rattle.protocol.specs.States.{valid, exclusive, owned}
use Rattle.protocol.specs.Transactions.{digit_transaction}
use Rattle.protocol.specs.Cells.{among, Lawful}
use Rattle.rules.specs.declared.tally.Tally.{Tally}
use Rattle.rules.specs.Columns.{Copy, none, kept, Column, state_at, words_at, one, holders, owner_of}
use Rattle.rules.specs.Transactions.{Protocol, read_shared, read_invalidate, invalidate, update, through_update, through_invalidate, write_back, silent}
use Rattle.rules.specs.Machines.{Machine, column, copies_of, copies_held, holds, change, transact}
use Rattle.rules.specs.Accesses.{state_in, emptied, filled, fetched_if, fetched, owner_writes_back, saved_from, through, sent_by, written_at, written_held, missed_by, written_if, written}
use Rattle.rules.specs.Coherence.{Sizes}
use Rattle.rules.proofs.Seats.{holders-set, Found, owner_owns}
use Rattle.rules.proofs.Lines.{Moved}
use Rattle.rules.proofs.Turns.{read_shared-moved, read_invalidate-moved, invalidate-moved, update-moved, through_update-moved, through_invalidate-moved, silent-moved}
use Rattle.rules.proofs.Steps.{Good, Balanced, transact-good, transact-holds, change-sound, change-held, seats-of, fills_by, on-column, held-room, back-good, back-saved, Emptied, emptied-good}

-- what holds at each number of a list holds at one among them
abbrev AllOf : (ℕ → Type 0) → List ℕ → Type 0
AllOf P [] = Unit {0}
AllOf P (y ∷ ys) = P y × AllOf P ys

each_of : (P : ℕ → Type 0) (x : ℕ) (ys : List ℕ) → among x ys ≡ true → AllOf P ys → P x
each_of P x [] e all = absurd (false≢true e)
each_of P x (y ∷ ys) e (p, all) =
    ⊎_elim (λ q. subst P (sym (eqb-true x y q)) p) (λ q. each_of P x ys q all) (or_cases (eqb x y) (among x ys) e)

silent-copies : (c : Column) (r o v : ℕ) → (silent r o v c).copies ≡ set c.copies r (kept Modified (set (words_at c.copies r) o v))
unfolding silent
silent-copies c r o v = refl

change-tally : (m : Machine) (n : ℕ) (f : Column → Column) → (change n f m).tally ≡ m.tally
unfolding change
change-tally m n f = refl

module _ (z : Sizes) (cell : Protocol) (law : Lawful cell) (n : ℕ) (there : n < z.lines) (r : ℕ) (on : r < z.seats) where
  -- a read of a line that is not held
  module _ (truth : List (List ℕ)) (m : Machine) (ok : Good z truth m) (miss : holds r n m ≡ false) where
    module _ (new : Machine) (e : Emptied z truth r n m new) where
      still : holds r n new ≡ false
      still = ap (λ (xs : List Copy). valid (state_at xs r)) e.same ∙ miss

      pub shared-moved : Moved (column new n) (read_shared cell r (column new n)) r true (get_or truth n [])
      shared-moved = read_shared-moved (column new n) (get_or truth n []) (e.good.sound.each n there) r (on-column e.good n r on) cell law

      filled-from : Good z truth (transact ReadShared r n (read_shared cell r) new) × (holds r n (transact ReadShared r n (read_shared cell r) new) ≡ true)
      filled-from = (
        subst (λ (t : List (List ℕ)). Good z t (transact ReadShared r n (read_shared cell r) new)) (set-get_or truth n [])
            (transact-good z truth new e.good n there r on (read_shared cell r) true (get_or truth n []) shared-moved (λ _. e.free) (e.good.sound.widths n there) ReadShared (omega (arith, ap one still))),
        transact-holds z truth new e.good n there r on (read_shared cell r) true (get_or truth n []) shared-moved (λ _. e.free) (e.good.sound.widths n there) ReadShared,
      )

      exclusive-from : (o v : ℕ) → Good z (set truth n (set (get_or truth n []) o v)) (transact ReadInvalidate r n (read_invalidate r o v) new)
      exclusive-from o v =
          transact-good z truth new e.good n there r on (read_invalidate r o v) true (set (get_or truth n []) o v)
          (read_invalidate-moved (column new n) (get_or truth n []) (e.good.sound.each n there) r (on-column e.good n r on) o v)
          (λ _. e.free) (length-set (get_or truth n []) o v ∙ e.good.sound.widths n there) ReadInvalidate (omega (arith, ap one still))

    pub filled-good : Good z truth (filled cell r n m) × (holds r n (filled cell r n m) ≡ true)
    filled-good = filled-from (emptied r n m) (emptied-good z truth n r on m ok)

    pub missed_rx : (o v : ℕ) → Good z (set truth n (set (get_or truth n []) o v)) (transact ReadInvalidate r n (read_invalidate r o v) (emptied r n m))
    missed_rx = exclusive-from (emptied r n m) (emptied-good z truth n r on m ok)

  module _ (truth : List (List ℕ)) (m : Machine) (ok : Good z truth m) where
    fetched-if : (b : Bool) → holds r n m ≡ b → Good z truth (fetched_if b cell r n m) × (holds r n (fetched_if b cell r n m) ≡ true)
    fetched-if true e = (ok, e)
    fetched-if false e = filled-good truth m ok e

    pub fetched-good : Good z truth (fetched cell r n m) × (holds r n (fetched cell r n m) ≡ true)
    unfolding fetched
    fetched-good = fetched-if (holds r n m) refl

  -- writes
  module _ (o v : ℕ) where
    abbrev newer : List (List ℕ) → List (List ℕ)
    newer truth = set truth n (set (get_or truth n []) o v)

    module _ (truth : List (List ℕ)) (m : Machine) (ok : Good z truth m) where
      wide : length (set (get_or truth n []) o v) ≡ z.width
      wide = length-set (get_or truth n []) o v ∙ ok.sound.widths n there

      -- through with invalidate, where memory has the newest words unless the requester owns them
      through-from : (owned (state_in r n m) ≡ false → (column m n).home ≡ get_or truth n []) → Good z (newer truth) (transact ThroughInvalidate r n (through_invalidate cell r o v) m)
      through-from saved =
          transact-good z truth m ok n there r on (through_invalidate cell r o v) (holds r n m) (set (get_or truth n []) o v)
          (through_invalidate-moved (column m n) (get_or truth n []) (ok.sound.each n there) r (on-column ok n r on) cell law o v saved)
          (held-room m r n) wide ThroughInvalidate (omega arith)

    module _ (truth : List (List ℕ)) (m : Machine) (ok : Good z truth m) where
      others-unowned : ((i : ℕ) → owned (state_at (set (copies_of n m.caches) r none) i) ≡ false) → owned (state_in r n m) ≡ false → (i : ℕ) → (i ≡ r) ⊎ (i ≡ r → ⊥) → owned (state_at (copies_of n m.caches) i) ≡ false
      others-unowned f e i (inl p) = ap (λ (k : ℕ). owned (state_at (copies_of n m.caches) k)) p ∙ e
      others-unowned f e i (inr p) = sym (ap (λ (x : Copy). owned x.state) (get_or-set_other (copies_of n m.caches) r i none none p)) ∙ f i

      -- the owner found in another seat owns the line
      other-owner : (i : ℕ) → owned (state_at (set (copies_of n m.caches) r none) i) ≡ true → owned (state_in i n m) ≡ true
      other-owner i e =
          ⊎_elim
          (λ p. absurd (both_ways (owned (state_at (set (copies_of n m.caches) r none) i))
          (ap (λ (k : ℕ). owned (state_at (set (copies_of n m.caches) r none) k)) p ∙ ap (λ (x : Copy). owned x.state) (get_or-set_same (copies_of n m.caches) r none none (on-column ok n r on))) e))
          (λ p. sym (ap (λ (x : Copy). owned x.state) (get_or-set_other (copies_of n m.caches) r i none none p)) ∙ e)
          (cases_eq i r)

      saved-from : (w : Option ℕ) → Found 0 (set (copies_of n m.caches) r none) w → Good z (newer truth) (transact ThroughInvalidate r n (through_invalidate cell r o v) (owner_writes_back w n m))
      saved-from None f = through-from truth m ok (λ e. (ok.sound.each n there).safe (λ i. others-unowned f e i (cases_eq i r)))
      saved-from (Some k) (i, (p, l, e)) =
          let q : i ≡ k = sym (p ∙ zero-add i) in
          let owns : owned (state_in k n m) ≡ true = subst (λ (j : ℕ). owned (state_in j n m) ≡ true) q (other-owner i e) in
          let seat : k < z.seats = subst (λ (j : ℕ). j < z.seats) q (omega (arith, length-set (copies_of n m.caches) r none, length-copies)) in
          through-from truth (transact WriteBack k n (write_back k) m) (back-good z truth m ok n there k seat owns) (λ _. back-saved z truth m ok n there k seat owns)
        where
          length-copies : length (copies_of n m.caches) ≡ z.seats
          length-copies = seats-of ok n

      pub through-good : Good z (newer truth) (through cell r n o v m)
      unfolding through saved_from
      through-good = saved-from (owner_of (set (copies_of n m.caches) r none)) (owner_owns (set (copies_of n m.caches) r none) (owner_of (set (copies_of n m.caches) r none)) refl)

    module _ (truth : List (List ℕ)) (m : Machine) (ok : Good z truth m) (held : holds r n m ≡ true) where
      -- by the transaction that the cell names
      sent-good : (b : ℕ) → among b (codes "3456") ≡ true → Good z (newer truth) (sent_by cell r n o v (digit_transaction b) m)
      sent-good b e =
          each_of (λ b. Good z (newer truth) (sent_by cell r n o v (digit_transaction b) m)) b (codes "3456") e (
            by Invalidate (invalidate r o v) true (invalidate-moved (column m n) (get_or truth n []) (ok.sound.each n there) r (on-column ok n r on) o v held) (omega (arith, ap one held)),
            (
              by Update (update cell r o v) true (update-moved (column m n) (get_or truth n []) (ok.sound.each n there) r (on-column ok n r on) cell law o v held) (omega (arith, ap one held)),
              (
                by ThroughUpdate (through_update cell r o v) (holds r n m) (through_update-moved (column m n) (get_or truth n []) (ok.sound.each n there) r (on-column ok n r on) cell law o v) (omega arith),
                (through-good truth m ok, tt),
              ),
            ),
          )
        where
          by : (t : Transaction) (f : Column → Column) (holding : Bool) → Moved (column m n) (f (column m n)) r holding (set (get_or truth n []) o v) → one (holds r n m) + fills_by t ≡ one holding → Good z (newer truth) (transact t r n f m)
          by t f holding moved count = transact-good z truth m ok n there r on f holding (set (get_or truth n []) o v) moved (λ _. held-room m r n held) (wide truth m ok) t count

      -- a silent write
      silent-good : exclusive (state_in r n m) ≡ true → Good z (newer truth) (change n (silent r o v) m)
      silent-good only = record {
        sound = change-sound z truth m ok n there r on (silent r o v) true (set (get_or truth n []) o v) moved (λ _. held-room m r n held) (wide truth m ok);
        balanced = subst (λ (t : Tally). Balanced t (copies_held (change n (silent r o v) m).caches)) (sym (change-tally m n (silent r o v)))
            (omega (
              arith,
              ok.balanced,
              change-held z truth m ok n there r on (silent r o v) true (set (get_or truth n []) o v) moved (λ _. held-room m r n held) (wide truth m ok),
              ap holders (silent-copies (column m n) r o v),
              holders-set (copies_of n m.caches) r (kept Modified (set (words_at (copies_of n m.caches) r) o v)) (on-column ok n r on),
              ap one held,
            ));
      }
        where
          moved : Moved (column m n) (silent r o v (column m n)) r true (set (get_or truth n []) o v)
          moved = silent-moved (column m n) (get_or truth n []) (ok.sound.each n there) r (on-column ok n r on) o v only

      written_at_lem : (s : State) → state_in r n m ≡ s → Good z (newer truth) (written_at cell r n o v s m)
      written_at_lem Invalid e = absurd (both_ways (holds r n m) (ap valid e) held)
      written_at_lem Shared e = sent-good (cell r 1) (law r 1)
      written_at_lem Exclusive e = silent-good (ap exclusive e)
      written_at_lem Owned e = sent-good (cell r 2) (law r 2)
      written_at_lem Modified e = silent-good (ap exclusive e)

      pub written_held-good : Good z (newer truth) (written_held cell r n o v m)
      unfolding written_held
      written_held-good = written_at_lem (state_in r n m) refl

    module _ (truth : List (List ℕ)) (m : Machine) (ok : Good z truth m) where
      missed-good : holds r n m ≡ false → (b : ℕ) → among b (codes "126") ≡ true → Good z (newer truth) (missed_by cell r n o v (digit_transaction b) m)
      missed-good miss b e =
          each_of (λ b. Good z (newer truth) (missed_by cell r n o v (digit_transaction b) m)) b (codes "126") e (
            (let f = filled-good truth m ok miss in written_held-good truth (filled cell r n m) f.0 f.1),
            (missed_rx truth m ok miss o v, (through-good truth m ok, tt)),
          )

      written-if : (b : Bool) → holds r n m ≡ b → Good z (newer truth) (written_if cell r n o v b m)
      written-if true e = written_held-good truth m ok e
      written-if false e = missed-good e (cell r 0) (law r 0)

      pub written-good : Good z (newer truth) (written cell r n o v m)
      unfolding written
      written-good = written-if (holds r n m) refl
