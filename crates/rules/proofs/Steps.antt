-- Transactions and changes on the machine: what was good stays good.
--
-- Good     the caches and memory are sound, and the tally balances
-- LetGo    a seat let a copy go: still sound, and one copy short of balance
-- Emptied  a seat has room for a line, and the line's copies are as before
use Rattle.std.proofs.Common.{◌≡◌, ℕ, zero, suc, ◌+◌, ◌<◌, Bool, true, false, cond, ◌≢◌, List, [], ◌∷◌, map, length, get_or, set, sym, refl, ap, ◌∙◌, subst, arith}
use Rattle.std.proofs.lemmas.Bool.{both_ways}
use Rattle.std.proofs.lemmas.List.{get_or-set_same, length-map, set-get_or}
use Rattle.protocol.specs.declared.transaction.Transaction.{Transaction}
use Rattle.protocol.specs.declared.transaction.Transaction.TheVariants.{ReadShared, ReadInvalidate, Invalidate, Update, ThroughUpdate, ThroughInvalidate, WriteBack}
use Rattle.protocol.specs.States.{valid, owned}
use Rattle.rules.specs.declared.tally.Tally.{Tally}
use Rattle.rules.specs.Columns.{Copy, none, Column, state_at, one, holders}
use Rattle.rules.specs.Transactions.{write_back, dropped}
use Rattle.rules.specs.Caches.{Cache, look, room, victim, put}
use Rattle.rules.specs.Tallies.{counted, if_reflected, more_invalidated}
use Rattle.rules.specs.Machines.{Machine, column, copies_of, put_each, copies_held, holds, lost, record_of, change, transact}
use Rattle.rules.specs.Accesses.{state_in, written_back_if, let_go, emptied_if, emptied, flushed_if, flushed}
use Rattle.rules.specs.Coherence.{Sizes}
use Rattle.rules.proofs.Seats.{holders-set}
use Rattle.rules.proofs.Lines.{Moved}
use Rattle.rules.proofs.Turns.{dropped-moved, write_back-moved, write_back-saved}
use Rattle.rules.proofs.Sets.{tidy}
use Rattle.rules.proofs.Caches.{Wf, look-room, look-put_other, victim-line, victim-held, victim-room, victim-other}
use Rattle.rules.proofs.Machines.{Sound, column-at, put_each-same, put_each-one, tidy-state_at, installed-same, installed_other, install-sound, install-held, install-count}

-- every copy filled was displaced, flushed or invalidated, or is held
abbrev pub Balanced : Tally → ℕ → Type 0
Balanced t held = t.fills ≡ t.displaced + t.flushed + t.invalidated + held

-- sound and balanced
pub record Good (z : Sizes) (truth : List (List ℕ)) (m : Machine) : Type 0 where
  pub sound : Sound z truth m.caches m.memory
  pub balanced : Balanced m.tally (copies_held m.caches)

-- the copies that a transaction fills
abbrev pub fills_by : Transaction → ℕ
fills_by ReadShared = 1
fills_by ReadInvalidate = 1
fills_by Invalidate = 0
fills_by Update = 0
fills_by ThroughUpdate = 0
fills_by ThroughInvalidate = 0
fills_by WriteBack = 0

counted-balance : (e : Transaction) (t : Tally) (k held held' : ℕ) → Balanced t held → held' + k ≡ held + fills_by e → Balanced (more_invalidated k (counted e t)) held'
counted-balance ReadShared t k held held' b h = omega arith
counted-balance ReadInvalidate t k held held' b h = omega arith
counted-balance Invalidate t k held held' b h = omega arith
counted-balance Update t k held held' b h = omega arith
counted-balance ThroughUpdate t k held held' b h = omega arith
counted-balance ThroughInvalidate t k held held' b h = omega arith
counted-balance WriteBack t k held held' b h = omega arith

reflected-balance : (b : Bool) (t : Tally) (k held : ℕ) → Balanced (more_invalidated k t) held → Balanced (more_invalidated k (if_reflected b t)) held
reflected-balance true t k held h = h
reflected-balance false t k held h = h

-- a transaction of seat r on line n, after which its newest words are these
module _ (z : Sizes) (truth : List (List ℕ)) (m : Machine) (ok : Good z truth m)
    (n : ℕ) (there : n < z.lines) (r : ℕ) (on : r < z.seats) (f : Column → Column) (holding : Bool) (line : List ℕ)
    (moved : Moved (column m n) (f (column m n)) r holding line)
    (space : holding ≡ true → room (get_or m.caches r []) n ≡ true) (wide : length line ≡ z.width) where
  pub transact-good : (t : Transaction) → one (valid (state_in r n m)) + fills_by t ≡ one holding → Good z (set truth n line) (transact t r n f m)
  unfolding transact
  transact-good t fills = record {
    sound = install-sound z truth m.caches m.memory ok.sound n there r on (f (column m n)) holding line moved space wide;
    balanced =
        let e = record_of t r n (column m n) (f (column m n)) in
        let k = lost r (copies_of n m.caches) (f (column m n)).copies in
        reflected-balance e.reflected (counted t m.tally) k (copies_held (put_each n m.caches (f (column m n)).copies))
        (counted-balance t m.tally k (copies_held m.caches) (copies_held (put_each n m.caches (f (column m n)).copies)) ok.balanced
        (omega (arith, install-count z truth m.caches m.memory ok.sound n there r on (f (column m n)) holding line moved space)));
  }

  pub transact-line : (t : Transaction) → column (transact t r n f m) n ≡ record { copies = map tidy (f (column m n)).copies; home = (f (column m n)).home }
  unfolding transact
  transact-line t = installed-same z truth m.caches m.memory ok.sound n there r on (f (column m n)) holding line moved space

  pub transact-holds : (t : Transaction) → holds r n (transact t r n f m) ≡ holding
  transact-holds t =
      ap (λ (c : Column). valid (state_at c.copies r)) (transact-line t)
      ∙ ap valid (tidy-state_at (f (column m n)).copies r) ∙ moved.own

  pub transact-other : (t : Transaction) (j : ℕ) → j ≢ n → copies_of j (transact t r n f m).caches ≡ copies_of j m.caches
  unfolding transact
  transact-other t j ne = ap (λ (c : Column). c.copies) (installed_other z truth m.caches m.memory ok.sound n there r on (f (column m n)) holding line moved space j ne)

  -- a change that tells nothing
  pub change-sound : Sound z (set truth n line) (change n f m).caches (change n f m).memory
  unfolding change
  change-sound = install-sound z truth m.caches m.memory ok.sound n there r on (f (column m n)) holding line moved space wide

  pub change-held : copies_held (change n f m).caches + holders (copies_of n m.caches) ≡ copies_held m.caches + holders (f (column m n)).copies
  unfolding change
  change-held = install-held z truth m.caches m.memory ok.sound n there r on (f (column m n)) holding line moved space

-- the seats of a column
pub seats-of : {z : Sizes} {truth : List (List ℕ)} {m : Machine} → Good z truth m → (n : ℕ) → length (copies_of n m.caches) ≡ z.seats
seats-of {z} {truth} {m} ok n = length-map m.caches (λ c. look c n) ∙ ok.sound.seated

pub on-column : {z : Sizes} {truth : List (List ℕ)} {m : Machine} → Good z truth m → (n r : ℕ) → r < z.seats → r < length (copies_of n m.caches)
on-column ok n r on = subst (λ (k : ℕ). r < k) (sym (seats-of ok n)) on

-- a held line has room
pub held-room : (m : Machine) (r n : ℕ) → holds r n m ≡ true → room (get_or m.caches r []) n ≡ true
held-room m r n e = look-room (get_or m.caches r []) n (ap (λ (x : Copy). valid x.state) (sym (column-at n m.caches r)) ∙ e)

-- a write back by an owner
module _ (z : Sizes) (truth : List (List ℕ)) (m : Machine) (ok : Good z truth m)
    (n : ℕ) (there : n < z.lines) (r : ℕ) (on : r < z.seats) (owns : owned (state_in r n m) ≡ true) where
  back-moved : Moved (column m n) (write_back r (column m n)) r (holds r n m) (get_or truth n [])
  back-moved = write_back-moved (column m n) (get_or truth n []) (ok.sound.each n there) r (on-column ok n r on) owns

  pub back-good : Good z truth (transact WriteBack r n (write_back r) m)
  back-good =
      subst (λ (t : List (List ℕ)). Good z t (transact WriteBack r n (write_back r) m)) (set-get_or truth n [])
      (transact-good z truth m ok n there r on (write_back r) (holds r n m) (get_or truth n []) back-moved (held-room m r n) (ok.sound.widths n there) WriteBack (omega arith))

  -- the copies stay
  pub back-caches : (transact WriteBack r n (write_back r) m).caches ≡ m.caches
  unfolding transact write_back
  back-caches = put_each-same n m.caches

  -- memory has the newest words
  pub back-saved : (column (transact WriteBack r n (write_back r) m) n).home ≡ get_or truth n []
  back-saved =
      ap (λ (c : Column). c.home)
      (transact-line z truth m ok n there r on (write_back r) (holds r n m) (get_or truth n []) back-moved (held-room m r n) (ok.sound.widths n there) WriteBack)
      ∙ write_back-saved (column m n) (get_or truth n []) (ok.sound.each n there) r (on-column ok n r on) owns

-- a seat let its copy go: one copy short of balance
pub record LetGo (z : Sizes) (truth : List (List ℕ)) (r n : ℕ) (m new : Machine) : Type 0 where
  pub sound : Sound z truth new.caches new.memory
  pub caches : new.caches ≡ set m.caches r (put n (get_or m.caches r []) none)
  pub short : holds r n m ≡ true → Balanced new.tally (copies_held new.caches + 1)

drop-caches : (m : Machine) (r n : ℕ) → (change n (dropped r) m).caches ≡ set m.caches r (put n (get_or m.caches r []) none)
unfolding change dropped
drop-caches m r n = put_each-one n r m.caches none

drop-tally : (m : Machine) (r n : ℕ) → (change n (dropped r) m).tally ≡ m.tally
unfolding change
drop-tally m r n = refl

drop-copies : (c : Column) (r : ℕ) → (dropped r c).copies ≡ set c.copies r none
unfolding dropped
drop-copies c r = refl

module _ (z : Sizes) (truth : List (List ℕ)) (n : ℕ) (there : n < z.lines) (r : ℕ) (on : r < z.seats) where
  module _ (m : Machine) (ok : Good z truth m) where
    -- a copy whose words memory has goes
    drop-moved : (owned (state_in r n m) ≡ true → (column m n).home ≡ get_or truth n []) → Moved (column m n) (dropped r (column m n)) r false (get_or truth n [])
    drop-moved saved = dropped-moved (column m n) (get_or truth n []) (ok.sound.each n there) r (on-column ok n r on) saved

    drop-good : (owned (state_in r n m) ≡ true → (column m n).home ≡ get_or truth n []) → LetGo z truth r n m (change n (dropped r) m)
    drop-good saved = record {
      sound = subst (λ (t : List (List ℕ)). Sound z t (change n (dropped r) m).caches (change n (dropped r) m).memory) (set-get_or truth n [])
          (change-sound z truth m ok n there r on (dropped r) false (get_or truth n []) (drop-moved saved) (λ e. absurd (both_ways false refl e)) (ok.sound.widths n there));
      caches = drop-caches m r n;
      short = λ e. subst (λ (t : Tally). Balanced t (copies_held (change n (dropped r) m).caches + 1)) (sym (drop-tally m r n))
          (omega (
            arith,
            ok.balanced,
            change-held z truth m ok n there r on (dropped r) false (get_or truth n []) (drop-moved saved) (λ e. absurd (both_ways false refl e)) (ok.sound.widths n there),
            ap holders (drop-copies (column m n) r),
            holders-set (copies_of n m.caches) r none (on-column ok n r on),
            ap one e,
          ));
    }

  -- after the write back of an owned copy
  let_go-if : (m : Machine) → Good z truth m → (b : Bool) → owned (state_in r n m) ≡ b → LetGo z truth r n m (change n (dropped r) (written_back_if b r n m))
  let_go-if m ok false e = drop-good m ok (λ t. absurd (both_ways (owned (state_in r n m)) e t))
  let_go-if m ok true e =
      let back = transact WriteBack r n (write_back r) m in
      let same = back-caches z truth m ok n there r on e in
      let d = drop-good back (back-good z truth m ok n there r on e) (λ _. back-saved z truth m ok n there r on e) in
      record {
        sound = d.sound;
        caches = d.caches ∙ ap (λ (cs : List Cache). set cs r (put n (get_or cs r []) none)) same;
        short = λ h. d.short (ap (λ (cs : List Cache). valid (state_at (copies_of n cs) r)) same ∙ h);
      }

  pub let_go-good : (m : Machine) → Good z truth m → LetGo z truth r n m (let_go r n m)
  unfolding let_go
  let_go-good m ok = let_go-if m ok (owned (state_in r n m)) refl

  -- a flush
  flushed-if : (m : Machine) → Good z truth m → (b : Bool) → holds r n m ≡ b → Good z truth (flushed_if b r n m)
  flushed-if m ok false e = ok
  flushed-if m ok true e = let d = let_go-good m ok in record { sound = d.sound; balanced = omega (arith, d.short e) }

  pub flushed-good : (m : Machine) → Good z truth m → Good z truth (flushed r n m)
  unfolding flushed
  flushed-good m ok = flushed-if m ok (holds r n m) refl

  flushed-caches_if : (m : Machine) → Good z truth m → (b : Bool) → holds r n m ≡ b
      → (flushed_if b r n m).caches ≡ cond b (set m.caches r (put n (get_or m.caches r []) none)) m.caches
  flushed-caches_if m ok false e = refl
  flushed-caches_if m ok true e = (let_go-good m ok).caches

  pub flushed-caches : (m : Machine) → Good z truth m → (flushed r n m).caches ≡ cond (holds r n m) (set m.caches r (put n (get_or m.caches r []) none)) m.caches
  unfolding flushed
  flushed-caches m ok = flushed-caches_if m ok (holds r n m) refl

-- a seat's cache in order
pub seat-order : {z : Sizes} {truth : List (List ℕ)} {m : Machine} → Good z truth m → (r : ℕ) → r < z.seats → Wf z.lines z.sets (get_or m.caches r [])
seat-order {z} {truth} {m} ok r on = ok.sound.order r (subst (λ (k : ℕ). r < k) (sym ok.sound.seated) on)

-- the place for line n has room, and its copies are as before
pub record Emptied (z : Sizes) (truth : List (List ℕ)) (r n : ℕ) (m new : Machine) : Type 0 where
  pub good : Good z truth new
  pub free : room (get_or new.caches r []) n ≡ true
  pub same : copies_of n new.caches ≡ copies_of n m.caches

-- a line's copies as another line of a seat goes
pub other_goes : (lines sets : ℕ) (cs : List Cache) (r v n : ℕ) → ((k : ℕ) → k < length cs → Wf lines sets (get_or cs k [])) → n ≢ v → copies_of n (set cs r (put v (get_or cs r []) none)) ≡ copies_of n cs
other_goes lines sets [] r v n o ne = refl
other_goes lines sets (c ∷ cs) zero v n o ne = ap (λ (x : Copy). x ∷ copies_of n cs) (look-put_other lines sets c (o 0 (omega arith)) v none n ne)
other_goes lines sets (c ∷ cs) (suc r) v n o ne = ap (λ (xs : List Copy). look c n ∷ xs) (other_goes lines sets cs r v n (λ k l. o (suc k) (omega arith)) ne)

module _ (z : Sizes) (truth : List (List ℕ)) (n : ℕ) (r : ℕ) (on : r < z.seats) (m : Machine) (ok : Good z truth m) where
  emptied-if : (b : Bool) → room (get_or m.caches r []) n ≡ b → Emptied z truth r n m (emptied_if b r n m)
  emptied-if true e = record { good = ok; free = e; same = refl }
  emptied-if false e =
      let c = get_or m.caches r [] in
      let w = seat-order ok r on in
      let v = victim c n in
      let d = let_go-good z truth v (victim-line z.lines z.sets c w n e) r on m ok in
      let held = ap (λ (x : Copy). valid x.state) (column-at v m.caches r) ∙ victim-held z.lines z.sets c w n e in
      record {
        good = record { sound = d.sound; balanced = omega (arith, d.short held) };
        free = subst (λ (b : Cache). room b n ≡ true)
            (sym (ap (λ (cs : List Cache). get_or cs r []) d.caches ∙ get_or-set_same m.caches r (put v c none) [] (subst (λ (k : ℕ). r < k) (sym ok.sound.seated) on)))
            (victim-room z.lines z.sets c w n e);
        same = ap (copies_of n) d.caches ∙ other_goes z.lines z.sets m.caches r v n ok.sound.order (victim-other z.lines z.sets c w n e);
      }

  pub emptied-good : Emptied z truth r n m (emptied r n m)
  unfolding emptied
  emptied-good = emptied-if (room (get_or m.caches r []) n) refl
