-- What every step of a call keeps, and so what the tally counts of a call and what its records tell.
use Rattle.std.proofs.Common.{◌≡◌, ℕ, zero, suc, ◌+◌, ◌/◌, ◌%◌, Bool, true, false, List, [], ◌∷◌, ◌++◌, length, get_or, set, Some, None, Option, sym, refl, ap, ◌∙◌, add-zero}
use Rattle.std.specs.List.{AllByRecursion}
use Rattle.std.proofs.ByRecursion.{All-push}
use Rattle.std.proofs.lemmas.Bool.{false≢true}
use Rattle.refusal.specs.Refusals.{Told}
use Rattle.protocol.specs.declared.state.State.{State}
use Rattle.protocol.specs.declared.state.State.TheVariants.{Invalid, Shared, Exclusive, Owned, Modified}
use Rattle.protocol.specs.declared.transaction.Transaction.{Transaction}
use Rattle.protocol.specs.declared.transaction.Transaction.TheVariants.{ReadShared, ReadInvalidate, Invalidate, Update, ThroughUpdate, ThroughInvalidate, WriteBack}
use Rattle.protocol.specs.States.{owned}
use Rattle.protocol.specs.Transactions.{digit_transaction}
use Rattle.rules.specs.declared.call.Call.{Call}
use Rattle.rules.specs.declared.call.Call.TheVariants.{Read, Write, Flush, Settle}
use Rattle.rules.specs.declared.record.Record.{Record}
use Rattle.rules.specs.declared.tally.Tally.{Tally}
use Rattle.rules.specs.Columns.{Copy, Column, none, one, owner_of}
use Rattle.rules.specs.Caches.{room, victim, lines_at}
use Rattle.rules.specs.Transactions.{Protocol, dropped, silent, read_shared, read_invalidate, invalidate, update, through_update, through_invalidate, write_back}
use Rattle.rules.specs.Tallies.{counted, if_reflected, more_invalidated, tallied, one_displaced, one_flushed, one_read, one_write}
use Rattle.rules.specs.Machines.{Machine, column, holds, lost, reflected_by, record_of, change, transact}
use Rattle.rules.specs.Accesses.{counting, state_in, written_back_if, let_go, emptied_if, emptied, flushed_if, flushed, filled, fetched_if, fetched, owner_writes_back, saved_from, through, sent_by, written_at, written_held, missed_by, written_if, written, flushed_each, flushed_set, flushed_sets, flushed_seats, settled}
use Rattle.rules.specs.Systems.{System, at_work, reached, due_in, outcome_if, outcome}
use Rattle.rules.specs.Laws.{ByReading, moves, forward, transactions_of, one_more, one_reflected, one_filled, never, always, accessed}

-- what every transaction and every change keeps, and the counting of a displaced and of a flushed copy, each access keeps
module _
    (I : Machine → Type 0)
    (tr : (t : Transaction) (r n : ℕ) (f : Column → Column) (m : Machine) → I m → I (transact t r n f m))
    (ch : (n : ℕ) (f : Column → Column) (m : Machine) → I m → I (change n f m))
    (dis : (m : Machine) → I m → I (counting one_displaced m))
    (flu : (m : Machine) → I m → I (counting one_flushed m))
  where
    back-keeps : (b : Bool) (r n : ℕ) (m : Machine) → I m → I (written_back_if b r n m)
    back-keeps true r n m h = tr WriteBack r n (write_back r) m h
    back-keeps false r n m h = h

    let_go-keeps : (r n : ℕ) (m : Machine) → I m → I (let_go r n m)
    unfolding let_go
    let_go-keeps r n m h = ch n (dropped r) (written_back_if (owned (state_in r n m)) r n m) (back-keeps (owned (state_in r n m)) r n m h)

    emptied-if-keeps : (b : Bool) (r n : ℕ) (m : Machine) → I m → I (emptied_if b r n m)
    emptied-if-keeps true r n m h = h
    emptied-if-keeps false r n m h =
        let v = victim (get_or m.caches r []) n in
        dis (let_go r v m) (let_go-keeps r v m h)

    emptied-keeps : (r n : ℕ) (m : Machine) → I m → I (emptied r n m)
    unfolding emptied
    emptied-keeps r n m h = emptied-if-keeps (room (get_or m.caches r []) n) r n m h

    flushed-if-keeps : (b : Bool) (r n : ℕ) (m : Machine) → I m → I (flushed_if b r n m)
    flushed-if-keeps true r n m h = flu (let_go r n m) (let_go-keeps r n m h)
    flushed-if-keeps false r n m h = h

    pub flushed-keeps : (r n : ℕ) (m : Machine) → I m → I (flushed r n m)
    unfolding flushed
    flushed-keeps r n m h = flushed-if-keeps (holds r n m) r n m h

    each_keeps : (k : ℕ) (ns : List ℕ) (m : Machine) → I m → I (flushed_each k ns m)
    each_keeps k [] m h = h
    each_keeps k (n ∷ ns) m h = each_keeps k ns (flushed k n m) (flushed-keeps k n m h)

    set_keeps : (k i : ℕ) (m : Machine) → I m → I (flushed_set k i m)
    unfolding flushed_set
    set_keeps k i m h = each_keeps k (lines_at (get_or m.caches k []) i) m h

    sets-keep : (k j : ℕ) (m : Machine) → I m → I (flushed_sets k j m)
    sets-keep k zero m h = h
    sets-keep k (suc j) m h = set_keeps k j (flushed_sets k j m) (sets-keep k j m h)

    seats-keep : (j : ℕ) (m : Machine) → I m → I (flushed_seats j m)
    seats-keep zero m h = h
    seats-keep (suc j) m h =
        let before = flushed_seats j m in
        sets-keep j (length (get_or before.caches j [])) before (seats-keep j m h)

    pub settled-keeps : (m : Machine) → I m → I (settled m)
    unfolding settled
    settled-keeps m h = seats-keep (length m.caches) m h

    module _ (cell : Protocol) (r n : ℕ) where
      filled_keeps : (m : Machine) → I m → I (filled cell r n m)
      filled_keeps m h = tr ReadShared r n (read_shared cell r) (emptied r n m) (emptied-keeps r n m h)

      fetched-if-keeps : (b : Bool) (m : Machine) → I m → I (fetched_if b cell r n m)
      fetched-if-keeps true m h = h
      fetched-if-keeps false m h = filled_keeps m h

      pub fetched-keeps : (m : Machine) → I m → I (fetched cell r n m)
      unfolding fetched
      fetched-keeps m h = fetched-if-keeps (holds r n m) m h

      owner-keeps : (o : Option ℕ) (m : Machine) → I m → I (owner_writes_back o n m)
      owner-keeps None m h = h
      owner-keeps (Some k) m h = tr WriteBack k n (write_back k) m h

      saved-keeps : (m : Machine) → I m → I (saved_from r n m)
      unfolding saved_from
      saved-keeps m h = owner-keeps (owner_of (set (column m n).copies r none)) m h

      module _ (o v : ℕ) where
        through-keeps : (m : Machine) → I m → I (through cell r n o v m)
        unfolding through
        through-keeps m h = tr ThroughInvalidate r n (through_invalidate cell r o v) (saved_from r n m) (saved-keeps m h)

        sent-keeps : (t : Option Transaction) (m : Machine) → I m → I (sent_by cell r n o v t m)
        sent-keeps None m h = h
        sent-keeps (Some ReadShared) m h = h
        sent-keeps (Some ReadInvalidate) m h = h
        sent-keeps (Some Invalidate) m h = tr Invalidate r n (invalidate r o v) m h
        sent-keeps (Some Update) m h = tr Update r n (update cell r o v) m h
        sent-keeps (Some ThroughUpdate) m h = tr ThroughUpdate r n (through_update cell r o v) m h
        sent-keeps (Some ThroughInvalidate) m h = through-keeps m h
        sent-keeps (Some WriteBack) m h = h

        at-keeps : (s : State) (m : Machine) → I m → I (written_at cell r n o v s m)
        at-keeps Invalid m h = h
        at-keeps Shared m h = sent-keeps (digit_transaction (cell r 1)) m h
        at-keeps Exclusive m h = ch n (silent r o v) m h
        at-keeps Owned m h = sent-keeps (digit_transaction (cell r 2)) m h
        at-keeps Modified m h = ch n (silent r o v) m h

        held_keeps : (m : Machine) → I m → I (written_held cell r n o v m)
        unfolding written_held
        held_keeps m h = at-keeps (state_in r n m) m h

        missed-keeps : (t : Option Transaction) (m : Machine) → I m → I (missed_by cell r n o v t m)
        missed-keeps None m h = h
        missed-keeps (Some ReadShared) m h = held_keeps (filled cell r n m) (filled_keeps m h)
        missed-keeps (Some ReadInvalidate) m h = tr ReadInvalidate r n (read_invalidate r o v) (emptied r n m) (emptied-keeps r n m h)
        missed-keeps (Some Invalidate) m h = h
        missed-keeps (Some Update) m h = h
        missed-keeps (Some ThroughUpdate) m h = h
        missed-keeps (Some ThroughInvalidate) m h = through-keeps m h
        missed-keeps (Some WriteBack) m h = h

        if-keeps : (b : Bool) (m : Machine) → I m → I (written_if cell r n o v b m)
        if-keeps true m h = held_keeps m h
        if-keeps false m h = missed-keeps (digit_transaction (cell r 0)) m h

        pub written_keeps : (m : Machine) → I m → I (written cell r n o v m)
        unfolding written
        written_keeps m h = if-keeps (holds r n m) m h

-- what is told of each record, all records tell
module _ (P : Record → Type 0) (each : (t : Transaction) (r n : ℕ) (c d : Column) → P (record_of t r n c d)) where
  abbrev Told-so : Machine → Type 0
  Told-so m = AllByRecursion P m.records

  so-transact : (t : Transaction) (r n : ℕ) (f : Column → Column) (m : Machine) → Told-so m → Told-so (transact t r n f m)
  unfolding transact
  so-transact t r n f m h = All-push P m.records (record_of t r n (column m n) (f (column m n))) h (each t r n (column m n) (f (column m n)))

  so-change : (n : ℕ) (f : Column → Column) (m : Machine) → Told-so m → Told-so (change n f m)
  unfolding change
  so-change n f m h = h

  told-if : (width : ℕ) (s : System) (call : Call) (o : Option Told) → AllByRecursion P (outcome_if width o call s).records
  told-if width s call (Some x) = tt
  told-if width s (Read seat address places) None =
      fetched-keeps Told-so so-transact so-change (λ m h. h) (λ m h. h) s.cell seat (address / width) (at_work s) tt
  told-if width s (Write seat address value places) None =
      written_keeps Told-so so-transact so-change (λ m h. h) (λ m h. h) s.cell seat (address / width) (address % width) value (at_work s) tt
  told-if width s (Flush seat address places) None =
      flushed-keeps Told-so so-transact so-change (λ m h. h) (λ m h. h) seat (address / width) (at_work s) tt
  told-if width s Settle None = tt

  pub all_told : (width : ℕ) (s : System) (call : Call) → AllByRecursion P (outcome width call s).records
  unfolding outcome
  all_told width s call = told-if width s call (due_in width s call)

-- a count that each record brings forward by a step, and that nothing else of a bus at work moves
module _
    (A : Type 0)
    (φ : Tally → A)
    (step : Record → A → A)
    (moved : (e : Record) (k : ℕ) (t : Tally) → φ (tallied e k t) ≡ step e (φ t))
    (dis : (t : Tally) → φ (one_displaced t) ≡ φ t)
    (flu : (t : Tally) → φ (one_flushed t) ≡ φ t)
    (s : System)
  where
    forward-push : (es : List Record) (e : Record) (n : A) → forward step (es ++ e ∷ []) n ≡ step e (forward step es n)
    forward-push [] e n = refl
    forward-push (x ∷ es) e n = forward-push es e (step x n)

    abbrev Level : Machine → Type 0
    Level m = φ m.tally ≡ forward step m.records (φ s.tally)

    level-transact : (t : Transaction) (r n : ℕ) (f : Column → Column) (m : Machine) → Level m → Level (transact t r n f m)
    unfolding transact
    level-transact t r n f m h =
        let e = record_of t r n (column m n) (f (column m n)) in
        moved e (lost r (column m n).copies (f (column m n)).copies) m.tally ∙ ap (step e) h ∙ sym (forward-push m.records e (φ s.tally))

    level-change : (n : ℕ) (f : Column → Column) (m : Machine) → Level m → Level (change n f m)
    unfolding change
    level-change n f m h = h

    level-displaced : (m : Machine) → Level m → Level (counting one_displaced m)
    level-displaced m h = dis m.tally ∙ h

    level-flushed : (m : Machine) → Level m → Level (counting one_flushed m)
    level-flushed m h = flu m.tally ∙ h

    pub fetched-level : (r n : ℕ) → Level (fetched s.cell r n (at_work s))
    fetched-level r n = fetched-keeps Level level-transact level-change level-displaced level-flushed s.cell r n (at_work s) refl

    pub written-level : (r n o v : ℕ) → Level (written s.cell r n o v (at_work s))
    written-level r n o v = written_keeps Level level-transact level-change level-displaced level-flushed s.cell r n o v (at_work s) refl

    pub flushed-level : (r n : ℕ) → Level (flushed r n (at_work s))
    flushed-level r n = flushed-keeps Level level-transact level-change level-displaced level-flushed r n (at_work s) refl

    pub settled-level : Level (settled (at_work s))
    settled-level = settled-keeps Level level-transact level-change level-displaced level-flushed (at_work s) refl

    -- a count that the access itself does not move
    pub reached-level : ((b : Bool) (t : Tally) → φ (one_read b t) ≡ φ t) → ((b : Bool) (t : Tally) → φ (one_write b t) ≡ φ t) → (width : ℕ) (call : Call) → Level (reached width call s)
    reached-level read write width (Read seat address places) =
        read (holds seat (address / width) (at_work s)) (fetched s.cell seat (address / width) (at_work s)).tally ∙ fetched-level seat (address / width)
    reached-level read write width (Write seat address value places) =
        write (holds seat (address / width) (at_work s)) (written s.cell seat (address / width) (address % width) value (at_work s)).tally
        ∙ written-level seat (address / width) (address % width) value
    reached-level read write width (Flush seat address places) = flushed-level seat (address / width)
    reached-level read write width Settle = settled-level

-- the transactions
transactions-counted : (x : Transaction) (t : Tally) (b : Bool) (k : ℕ) → transactions_of (more_invalidated k (if_reflected b (counted x t))) ≡ transactions_of (counted x t)
transactions-counted x t true k = refl
transactions-counted x t false k = refl

one_more_lem : (x : Transaction) (t : Tally) (e : Record) → e.transaction ≡ x → transactions_of (counted x t) ≡ one_more e (transactions_of t)
one_more_lem ReadShared t e p = rw p refl
one_more_lem ReadInvalidate t e p = rw p refl
one_more_lem Invalidate t e p = rw p refl
one_more_lem Update t e p = rw p refl
one_more_lem ThroughUpdate t e p = rw p refl
one_more_lem ThroughInvalidate t e p = rw p refl
one_more_lem WriteBack t e p = rw p refl

transactions-moved : (e : Record) (k : ℕ) (t : Tally) → transactions_of (tallied e k t) ≡ one_more e (transactions_of t)
transactions-moved e k t = transactions-counted e.transaction t e.reflected k ∙ one_more_lem e.transaction t e refl

read_transactions : (b : Bool) (t : Tally) → transactions_of (one_read b t) ≡ transactions_of t
read_transactions true t = refl
read_transactions false t = refl

write_transactions : (b : Bool) (t : Tally) → transactions_of (one_write b t) ≡ transactions_of t
write_transactions true t = refl
write_transactions false t = refl

pub transactions-level : (width : ℕ) (s : System) (call : Call) → transactions_of (reached width call s).tally ≡ forward one_more (reached width call s).records (transactions_of s.tally)
transactions-level width s call = reached-level (List ℕ) transactions_of one_more transactions-moved (λ t. refl) (λ t. refl) s read_transactions write_transactions width call

-- the lines reflected
reflected-counted : (x : Transaction) (t : Tally) → (counted x t).reflected ≡ t.reflected
reflected-counted ReadShared t = refl
reflected-counted ReadInvalidate t = refl
reflected-counted Invalidate t = refl
reflected-counted Update t = refl
reflected-counted ThroughUpdate t = refl
reflected-counted ThroughInvalidate t = refl
reflected-counted WriteBack t = refl

reflected-if : (b : Bool) (t : Tally) (k : ℕ) → (more_invalidated k (if_reflected b t)).reflected ≡ t.reflected + one b
reflected-if true t k = refl
reflected-if false t k = sym (add-zero t.reflected)

read-reflected : (b : Bool) (t : Tally) → (one_read b t).reflected ≡ t.reflected
read-reflected true t = refl
read-reflected false t = refl

write-reflected : (b : Bool) (t : Tally) → (one_write b t).reflected ≡ t.reflected
write-reflected true t = refl
write-reflected false t = refl

pub reflected-level : (width : ℕ) (s : System) (call : Call) → (reached width call s).tally.reflected ≡ forward one_reflected (reached width call s).records s.tally.reflected
reflected-level width s call =
    reached-level ℕ (λ t. t.reflected) one_reflected
    (λ e k t. reflected-if e.reflected (counted e.transaction t) k ∙ ap (λ (n : ℕ). n + one e.reflected) (reflected-counted e.transaction t))
    (λ t. refl) (λ t. refl) s read-reflected write-reflected width call

-- the lines brought to a seat
fills-counted : (x : Transaction) (t : Tally) → (counted x t).fills ≡ t.fills + one (moves x)
fills-counted ReadShared t = refl
fills-counted ReadInvalidate t = refl
fills-counted Invalidate t = sym (add-zero t.fills)
fills-counted Update t = sym (add-zero t.fills)
fills-counted ThroughUpdate t = sym (add-zero t.fills)
fills-counted ThroughInvalidate t = sym (add-zero t.fills)
fills-counted WriteBack t = sym (add-zero t.fills)

fills-if : (b : Bool) (t : Tally) (k : ℕ) → (more_invalidated k (if_reflected b t)).fills ≡ t.fills
fills-if true t k = refl
fills-if false t k = refl

read-fills : (b : Bool) (t : Tally) → (one_read b t).fills ≡ t.fills
read-fills true t = refl
read-fills false t = refl

write-fills : (b : Bool) (t : Tally) → (one_write b t).fills ≡ t.fills
write-fills true t = refl
write-fills false t = refl

pub fills-level : (width : ℕ) (s : System) (call : Call) → (reached width call s).tally.fills ≡ forward one_filled (reached width call s).records s.tally.fills
fills-level width s call =
    reached-level ℕ (λ t. t.fills) one_filled
    (λ e k t. fills-if e.reflected (counted e.transaction t) k ∙ fills-counted e.transaction t)
    (λ t. refl) (λ t. refl) s read-fills write-fills width call

-- only a read shared is reflected
reading : (t : Transaction) (xs ys : List Copy) → reflected_by t xs ys ≡ true → t ≡ ReadShared
reading ReadShared xs ys e = refl
reading ReadInvalidate xs ys e = absurd (false≢true e)
reading Invalidate xs ys e = absurd (false≢true e)
reading Update xs ys e = absurd (false≢true e)
reading ThroughUpdate xs ys e = absurd (false≢true e)
reading ThroughInvalidate xs ys e = absurd (false≢true e)
reading WriteBack xs ys e = absurd (false≢true e)

pub reflections-told : (width : ℕ) (s : System) (call : Call) → AllByRecursion ByReading (outcome width call s).records
reflections-told = all_told ByReading (λ t r n c d. reading t c.copies d.copies)

-- what the access itself counts
keep : Record → ℕ → ℕ
keep e n = n

forward-keep : (es : List Record) (n : ℕ) → forward keep es n ≡ n
unfolding keep
forward-keep [] n = refl
forward-keep (e ∷ es) n = forward-keep es n

-- a count that no transaction moves, but a read by x of whether it was a hit, and a write by y
module _
    (φ : Tally → ℕ)
    (x y : Bool → ℕ)
    (counts : (u : Transaction) (t : Tally) → φ (counted u t) ≡ φ t)
    (others : (b : Bool) (k : ℕ) (t : Tally) → φ (more_invalidated k (if_reflected b t)) ≡ φ t)
    (dis : (t : Tally) → φ (one_displaced t) ≡ φ t)
    (flu : (t : Tally) → φ (one_flushed t) ≡ φ t)
    (read : (b : Bool) (t : Tally) → φ (one_read b t) ≡ φ t + x b)
    (write : (b : Bool) (t : Tally) → φ (one_write b t) ≡ φ t + y b)
    (width : ℕ)
    (s : System)
  where
    moved : (e : Record) (k : ℕ) (t : Tally) → φ (tallied e k t) ≡ keep e (φ t)
    unfolding keep
    moved e k t = others e.reflected k (counted e.transaction t) ∙ counts e.transaction t

    pub access-level : (call : Call) → φ (reached width call s).tally ≡ φ s.tally + accessed x y width s call
    access-level (Read seat address places) =
        let m = fetched s.cell seat (address / width) (at_work s) in
        let b = holds seat (address / width) (at_work s) in
        read b m.tally
        ∙ ap (λ (n : ℕ). n + x b) (fetched-level ℕ φ keep moved dis flu s seat (address / width) ∙ forward-keep m.records (φ s.tally))
    access-level (Write seat address value places) =
        let m = written s.cell seat (address / width) (address % width) value (at_work s) in
        let b = holds seat (address / width) (at_work s) in
        write b m.tally
        ∙ ap (λ (n : ℕ). n + y b) (written-level ℕ φ keep moved dis flu s seat (address / width) (address % width) value ∙ forward-keep m.records (φ s.tally))
    access-level (Flush seat address places) =
        flushed-level ℕ φ keep moved dis flu s seat (address / width)
        ∙ forward-keep (flushed seat (address / width) (at_work s)).records (φ s.tally) ∙ sym (add-zero (φ s.tally))
    access-level Settle =
        settled-level ℕ φ keep moved dis flu s ∙ forward-keep (settled (at_work s)).records (φ s.tally) ∙ sym (add-zero (φ s.tally))

-- the numbers that accesses move, and no transaction does
abbrev accesses_of : Tally → List ℕ
accesses_of t = t.reads ∷ t.writes ∷ t.hits ∷ []

accesses-counted : (u : Transaction) (t : Tally) → accesses_of (counted u t) ≡ accesses_of t
accesses-counted ReadShared t = refl
accesses-counted ReadInvalidate t = refl
accesses-counted Invalidate t = refl
accesses-counted Update t = refl
accesses-counted ThroughUpdate t = refl
accesses-counted ThroughInvalidate t = refl
accesses-counted WriteBack t = refl

accesses-others : (b : Bool) (k : ℕ) (t : Tally) → accesses_of (more_invalidated k (if_reflected b t)) ≡ accesses_of t
accesses-others true k t = refl
accesses-others false k t = refl

-- one of the three
module _ (i : ℕ) where
  abbrev nth : Tally → ℕ
  nth t = get_or (accesses_of t) i 0

  nth-counted : (u : Transaction) (t : Tally) → nth (counted u t) ≡ nth t
  nth-counted u t = ap (λ (ns : List ℕ). get_or ns i 0) (accesses-counted u t)

  nth-others : (b : Bool) (k : ℕ) (t : Tally) → nth (more_invalidated k (if_reflected b t)) ≡ nth t
  nth-others b k t = ap (λ (ns : List ℕ). get_or ns i 0) (accesses-others b k t)

reads-read : (b : Bool) (t : Tally) → (one_read b t).reads ≡ t.reads + always b
reads-read true t = refl
reads-read false t = refl

reads-write : (b : Bool) (t : Tally) → (one_write b t).reads ≡ t.reads + never b
reads-write true t = sym (add-zero t.reads)
reads-write false t = sym (add-zero t.reads)

writes-read : (b : Bool) (t : Tally) → (one_read b t).writes ≡ t.writes + never b
writes-read true t = sym (add-zero t.writes)
writes-read false t = sym (add-zero t.writes)

writes-write : (b : Bool) (t : Tally) → (one_write b t).writes ≡ t.writes + always b
writes-write true t = refl
writes-write false t = refl

hits-read : (b : Bool) (t : Tally) → (one_read b t).hits ≡ t.hits + one b
hits-read true t = refl
hits-read false t = sym (add-zero t.hits)

hits-write : (b : Bool) (t : Tally) → (one_write b t).hits ≡ t.hits + one b
hits-write true t = refl
hits-write false t = sym (add-zero t.hits)

pub reads-level : (width : ℕ) (s : System) (call : Call) → (reached width call s).tally.reads ≡ s.tally.reads + accessed always never width s call
reads-level = access-level (nth 0) always never (nth-counted 0) (nth-others 0) (λ t. refl) (λ t. refl) reads-read reads-write

pub writes-level : (width : ℕ) (s : System) (call : Call) → (reached width call s).tally.writes ≡ s.tally.writes + accessed never always width s call
writes-level = access-level (nth 1) never always (nth-counted 1) (nth-others 1) (λ t. refl) (λ t. refl) writes-read writes-write

pub hits-level : (width : ℕ) (s : System) (call : Call) → (reached width call s).tally.hits ≡ s.tally.hits + accessed one one width s call
hits-level = access-level (nth 2) one one (nth-counted 2) (nth-others 2) (λ t. refl) (λ t. refl) hits-read hits-write
